-- An inbox with its passes, as it is made.
use Rattle.std.specs.Prelude.{◌≡◌, ◌<◌, ◌≤◌, ℕ, false, List, [], length, slice_get, Some}
use Rattle.meta_types.specs.Node.{most_nodes}
use Rattle.atomic_table.specs.Seated.{TableId}
use Rattle.inbox.specs.Views.{PutView}
use Rattle.inbox.specs.declared.inbox.Fresh.{Fresh}

-- how many senders an inbox may have
abbrev pub IsSenderCount : ℕ → Type 0
IsSenderCount n = (1 ≤ n) × (n ≤ most_nodes)

-- the most parcels of an inbox
abbrev pub most_room : ℕ
most_room = 1024

-- how many parcels an inbox may have room for
abbrev pub IsRoom : ℕ → Type 0
IsRoom n = (1 ≤ n) × (n ≤ most_room)

-- a pass for each of `senders` senders, in the order of their numbers from 0; nothing was put yet
pub record AreNewPasses (line : TableId) (senders : ℕ) (passes : List PutView) : Type 0 where
  pub number : length passes ≡ senders
  pub each : (k : ℕ) → k < senders
      → slice_get passes k ≡ Some (record { line = line; from = k; put = [] })

-- an open inbox of this room, a pass for each of `senders` senders, and the pass to take, by
-- which nothing was taken and to which none came back
pub record IsFresh (senders : ℕ) (size : ℕ) (fresh : Fresh) : Type 0 where
  pub room : fresh.inbox.room ≡ size
  pub is_open : fresh.inbox.closed ≡ false
  pub puts : AreNewPasses fresh.inbox.line senders fresh.puts.items
  pub takes : fresh.takes
      ≡ record { line = fresh.inbox.line; taken = []; made = senders; back = [] }
