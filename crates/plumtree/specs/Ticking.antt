-- A tick in two steps: first what it gives out and who is a peer after it are foreseen, and then
-- what waits is changed in place.
use Rattle.std.specs.Prelude.{ℕ, ◌-◌, Bool, ◌||◌, List, [], ◌∷◌, map, drop, length, nat_lt, if◌then◌else◌}
use Rattle.std.specs.List.{filter}
use Rattle.meta_types.specs.Chain.{◌▷◌}
use Rattle.meta_frame.specs.declared.message.Message.TheVariants.{Graft}
use Rattle.plumtree.specs.declared.entry.Announcer.{Announcer}
use Rattle.plumtree.specs.Missing.{MissingObject}
use Rattle.plumtree.specs.Draft.{Draft, becomes_eager, send}
use Rattle.plumtree.specs.Rows.{asked_patience}
use Rattle.plumtree.specs.Broadcast.{Broadcast}

-- who is a peer
pub record Peers : Type 0 where
  pub eager : List ℕ
  pub lazy : List ℕ

abbrev pub peers_of : Broadcast → Peers
peers_of b = record { eager = b.eager; lazy = b.lazy }

-- the broadcast, with these peers
abbrev pub with_peers : Peers → Broadcast → Broadcast
with_peers peers b = record b { eager = peers.eager; lazy = peers.lazy }

-- ---- what a tick gives out

-- the first of these announcers is asked for the object
abbrev pub graft_first : MissingObject → List Announcer → Draft → Draft
graft_first m [] t = t
graft_first m (a ∷ others) t =
    t ▷ becomes_eager a.peer ▷ send a.peer (Graft a.round m.key m.vector)

-- a missing object is asked for, if this tick is its last
unfoldable pub graft_one : MissingObject → Draft → Draft
graft_one m t = if nat_lt 1 m.ticks then t else graft_first m m.announcers t

-- each of these in order
abbrev pub graft_each : List MissingObject → Draft → Draft
graft_each [] t = t
graft_each (m ∷ ms) t = graft_each ms (graft_one m t)

-- ---- what a tick leaves

-- at its last tick an object without an announcer is forgotten
abbrev pub stays_missing : MissingObject → Bool
stays_missing m = nat_lt 1 m.ticks || nat_lt 0 (length m.announcers)

-- the object has a tick less, or waits for the next announcer
unfoldable pub ticked : MissingObject → MissingObject
ticked m =
    if nat_lt 1 m.ticks
    then (record m { ticks = m.ticks - 1 })
    else (record m { announcers = drop 1 m.announcers; ticks = asked_patience })

-- what is missing after a tick
abbrev pub missing_after : List MissingObject → List MissingObject
missing_after ms = map ticked (filter stays_missing ms)
