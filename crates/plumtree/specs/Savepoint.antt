-- Coming back to where a broadcast stood.
use Rattle.std.specs.Prelude.{ℕ, ◌≡◌, ◌-◌, List, length, take, slice_get, slice_set, Option, None, Some}
use Rattle.plumtree.specs.declared.entry.Noted.{Noted}
use Rattle.plumtree.specs.declared.entry.Noted.TheVariants.{Nothing, Object, Announcer as OfAnnouncer}
use Rattle.plumtree.specs.Missing.{MissingObject}
use Rattle.plumtree.specs.Broadcast.{Broadcast, CastCall, Broadcasts, TakesFresh, TakesStale, TakesPrune, TakesGraft}
use Rattle.plumtree.specs.Lawful.{after_call}

-- the peers, and how many announcements waited
pub record Standing : Type 0 where
  pub eager : List ℕ
  pub lazy : List ℕ
  pub waiting : ℕ

abbrev pub savepoint_of : Broadcast → Standing
savepoint_of b = record { eager = b.eager; lazy = b.lazy; waiting = length b.queue }

-- the peers are those of the savepoint, and of the announcements only the first stay, as many as
-- waited then
abbrev pub rolled_back : Standing → Broadcast → Broadcast
rolled_back s b = record {
  eager = s.eager;
  lazy = s.lazy;
  queue = take s.waiting b.queue;
  missing = b.missing;
}

-- a call that changes nothing of what is missing, and takes nothing out of the queue
abbrev pub IsOfObjects : CastCall → Type 0
IsOfObjects (Broadcasts key vector) = Unit {0}
IsOfObjects (TakesFresh from round key vector) = Unit {0}
IsOfObjects (TakesStale from) = Unit {0}
IsOfObjects (TakesPrune from) = Unit {0}
IsOfObjects (TakesGraft from round key held) = Unit {0}
IsOfObjects _ = ⊥

-- such a call is taken back
abbrev pub AreTakenBack : Type 0
AreTakenBack =
    (b : Broadcast) (call : CastCall) → IsOfObjects call
    → rolled_back (savepoint_of b) (after_call b call) ≡ b

-- ---- an announcement is taken back

-- the announcer that came last is gone
abbrev pub without_last_announcer : MissingObject → MissingObject
without_last_announcer m =
    record m { announcers = take (length m.announcers - 1) m.announcers }

-- the object at this place, if there is one, without it
abbrev pub without_announcer_at : Option MissingObject → ℕ → List MissingObject
    → List MissingObject
without_announcer_at None place ms = ms
without_announcer_at (Some m) place ms = slice_set ms place (without_last_announcer m)

-- what was missing before this was noted
abbrev pub without_noted : Noted → List MissingObject → List MissingObject
without_noted Nothing ms = ms
without_noted Object ms = take (length ms - 1) ms
without_noted (OfAnnouncer place) ms = without_announcer_at (slice_get ms place) place ms

-- the broadcast before this was noted
abbrev pub with_noted_back : Noted → Broadcast → Broadcast
with_noted_back noted b = record b { missing = without_noted noted b.missing }
