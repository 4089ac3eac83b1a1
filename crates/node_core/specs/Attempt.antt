-- A step in two halves: it is attempted, and then the attempt is committed or taken back.
use Rattle.std.specs.Prelude.{◌≡◌, ◌≢◌, ◌-◌, take, length, slice_set, Option, Some, None, IfSome}
use Rattle.std.specs.FinMap.{find}
use Rattle.meta_types.specs.Name.{Key}
use Rattle.meta_types.specs.Order.{key_cmp}
use Rattle.meta_store.specs.Table.{IsHeld, with_former}
use Rattle.subscriptions.specs.Watches.{hand_out, hearing_count}
use Rattle.node_events.specs.declared.event.NodeEvent.{NodeEvent}
use Rattle.node_overlay.specs.declared.pending.Pending.{Pending}
use Rattle.node_overlay.specs.Outbox.{count_on}
use Rattle.node_overlay.specs.Overlay.{Overlay}
use Rattle.node_overlay.specs.Pending.{CanEndPending, after_pending, before_pending}
use Rattle.node_core.specs.declared.attempt.Attempt.{Attempt}
use Rattle.node_core.specs.declared.attempt.End.{End}
use Rattle.node_core.specs.declared.attempt.End.TheVariants.{Count, Overlay as OfOverlay, Tick, Heard, Change, Watch, HandOut}
use Rattle.node_core.specs.declared.state.Stepped.{Stepped}
use Rattle.node_core.specs.Node.{IsInLife, NodeParts, with_overlay}
use Rattle.node_core.specs.Changing.{noting}
use Rattle.node_core.specs.Growing.{TellsKeyChanged}
use Rattle.node_core.specs.Step.{IsNodeStep, with_counts}

-- the reply and the frames of the step
abbrev pub stepped_by : Attempt → Stepped
stepped_by a = record { reply = a.reply; outbox = a.outbox }

-- the key of the object that changed
abbrev pub key_of_end : End → Option Key
key_of_end (Change news before overlay) = Some news.change.key
key_of_end _ = None

-- the key under which what is held changed, if it did
abbrev pub changed_key : Attempt → Option Key
changed_key a = key_of_end a.end

-- ---- the attempt is committed

-- what the overlay was asked, if it was asked something, is done
abbrev pub overlay_ended : Option Pending → Overlay → Overlay
overlay_ended None o = o
overlay_ended (Some pending) o = after_pending pending o

-- what is left of the step is done: what the overlay was asked; a tick counts; a life is heard; a
-- change is noted; what a watch has noted leaves it
abbrev pub ended : End → NodeParts → NodeParts
ended Count s = s
ended (OfOverlay pending) s = with_overlay (after_pending pending s.overlay) s
ended (Tick pending) s =
    record (with_overlay (after_pending pending s.overlay) s) { ticks = count_on s.ticks 1 }
ended (Heard node life overlay) s =
    record (with_overlay (overlay_ended overlay s.overlay) s) {
      heard = slice_set s.heard node life;
    }
ended (Change news before overlay) s =
    noting news.change (with_overlay (overlay_ended overlay s.overlay) s)
ended Watch s = s
ended (HandOut number) s = record s { watches = hand_out number s.watches }

-- and the step counts
abbrev pub committed : Attempt → NodeParts → NodeParts
committed a s = with_counts (length a.outbox) (ended a.end s)

-- ---- the attempt is taken back

abbrev pub overlay_taken_back : Option Pending → Overlay → Overlay
overlay_taken_back None o = o
overlay_taken_back (Some pending) o = before_pending pending o

-- what was done is undone: what the overlay was asked is taken back; the key holds what it held;
-- the last watch goes
abbrev pub undone : End → NodeParts → NodeParts
undone Count s = s
undone (OfOverlay pending) s = with_overlay (before_pending pending s.overlay) s
undone (Tick pending) s = with_overlay (before_pending pending s.overlay) s
undone (Heard node life overlay) s = with_overlay (overlay_taken_back overlay s.overlay) s
undone (Change news before overlay) s =
    record (with_overlay (overlay_taken_back overlay s.overlay) s) {
      table = with_former news.change.key before s.table;
    }
undone Watch s = record s { watches = take (length s.watches - 1) s.watches }
undone (HandOut number) s = s

abbrev pub taken_back : Attempt → NodeParts → NodeParts
taken_back a = undone a.end

-- ---- an attempt can be ended at the node that made it

abbrev pub CanEndOverlay : Option Pending → Overlay → Type 0
CanEndOverlay None o = Unit {0}
CanEndOverlay (Some pending) o = CanEndPending pending o

-- what the overlay was asked can be ended. Of a change, the key is held, what it held before may be
-- held, and there is a note for each watch that hears of it
abbrev pub CanEndRest : End → NodeParts → Type 0
CanEndRest (OfOverlay pending) s = CanEndPending pending s.overlay
CanEndRest (Tick pending) s = CanEndPending pending s.overlay
CanEndRest (Heard node life overlay) s = CanEndOverlay overlay s.overlay
CanEndRest (Change news before overlay) s =
    CanEndOverlay overlay s.overlay × (find key_cmp news.change.key s.table ≢ None)
    × IfSome before IsHeld × (news.notes ≡ hearing_count news.change.key s.watches)
CanEndRest _ s = Unit {0}

-- it can be done, and undone: both leave a node in its life
pub record CanEndAt (e : End) (s : NodeParts) : Type 0 where
  pub rest : CanEndRest e s
  pub ended : IsInLife (ended e s)
  pub undone : IsInLife (undone e s)

-- the attempt can be committed, and taken back
abbrev pub CanEnd : Attempt → NodeParts → Type 0
CanEnd a = CanEndAt a.end

-- what was done can be undone: undone, the node is the old one; this is the key whose object
-- changed, and what is held is already what the end leaves
pub record Undoes (old new : NodeParts) (changed : Option Key) (e : End) : Type 0 where
  pub key : key_of_end e ≡ changed
  pub back : undone e new ≡ old
  pub table : new.table ≡ (ended e new).table
  pub can_end : CanEndAt e new

-- the old node attempted the step of the event, and stands here: committed, the step is made;
-- taken back, the node is the old one; this is the key under which what is held changed, and it
-- holds already what the step leaves
pub record IsAttempt (old : NodeParts) (event : NodeEvent) (new : NodeParts) (a : Attempt)
    : Type 0 where
  pub step : IsNodeStep old event (committed a new) (stepped_by a)
  pub back : taken_back a new ≡ old
  pub key : TellsKeyChanged event a.reply (changed_key a)
  pub table : new.table ≡ (committed a new).table
  pub can_end : CanEnd a new
