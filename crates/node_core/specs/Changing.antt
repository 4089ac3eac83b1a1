-- What a change of an object brings with it, in the order in which the code does it. Words of
-- private functions; the table says the same by its small steps.
use Rattle.std.specs.Prelude.{◌≡◌, ◌<◌, ◌^◌, List, map}
use Rattle.meta_types.specs.Name.{Key}
use Rattle.dvvset.specs.Object.{Entry}
use Rattle.dvvset.specs.Clock.{join}
use Rattle.meta_store.specs.Table.{with_object}
use Rattle.plumtree.specs.Broadcast.{Changes}
use Rattle.subscriptions.specs.declared.change.Change.{Change}
use Rattle.subscriptions.specs.Watching.{with_change}
use Rattle.node_overlay.specs.declared.envelope.Envelope.{Envelope}
use Rattle.node_overlay.specs.declared.origin.Origin.{Origin}
use Rattle.node_overlay.specs.declared.origin.Origin.TheVariants.{Write, Gossip}
use Rattle.subscriptions.specs.News.{NewsParts}
use Rattle.node_overlay.specs.Origin.{call_of, envelope_with}
use Rattle.node_overlay.specs.Overlay.{out_of, overlay_after_call}
use Rattle.subscriptions.specs.Watches.{hearing_count}
use Rattle.node_core.specs.Node.{NodeParts, with_overlay}

-- the object is held under the key
abbrev pub holding : Key → List Entry → NodeParts → NodeParts
holding key object s = record s { table = with_object key object s.table }

-- it is held, and the peers are told
abbrev pub spreading : Origin → Key → List Entry → NodeParts → NodeParts
spreading origin key object s =
    holding key object
    (with_overlay (overlay_after_call (call_of origin key (join object)) s.overlay) s)

-- what the peers are sent
abbrev pub gossips : Origin → Key → List Entry → NodeParts → List Envelope
gossips origin key object s =
    map (envelope_with object) (out_of (call_of origin key (join object)) s.overlay)

-- the watches note the change, and it isn't waited for any more
abbrev pub noting : Change → NodeParts → NodeParts
noting change s = record s {
  overlay = overlay_after_call (Changes change.key change.vector) s.overlay;
  watches = map (with_change change) s.watches;
}

-- the change that it makes
abbrev pub change_to : Key → List Entry → Change
change_to key object = record { key = key; vector = join object }

-- news of it, with a note for each watch that hears the key
abbrev pub AreNews : Key → List Entry → NodeParts → NewsParts → Type 0
AreNews key object s news =
    news ≡ record { change = change_to key object; notes = hearing_count key s.watches }

-- the round, if there is one, is that of a frame
abbrev pub HasRound : Origin → Type 0
HasRound Write = Unit {0}
HasRound (Gossip from round) = round < 2 ^ 16
