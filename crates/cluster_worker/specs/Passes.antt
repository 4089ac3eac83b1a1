-- Inboxes, and the passes of nodes to them.
use Rattle.std.specs.Prelude.{◌≡◌, ◌≤◌, ◌+◌, ℕ, false, List, [], ◌∷◌, length, map, slice_get, All, Some, Vec, vec_capacity}
use Rattle.std.specs.declared.alloc.Global.{Global}
use Rattle.atomic_table.specs.Seated.{TableId}
use Rattle.inbox.specs.Views.{InboxView, PutView, TakeView}
use Rattle.cluster_worker.specs.declared.passes.Passes.{Passes}

abbrev pub lines_of : List InboxView → List TableId
lines_of inboxes = map (λ a. a.line) inboxes

-- the passes are into the inboxes, each into the one at its place
abbrev pub ArePassesInto : List InboxView → List PutView → Type 0
ArePassesInto inboxes puts = map (λ p. p.line) puts ≡ lines_of inboxes

-- the passes are of these inboxes: one to take from the inbox at its place, one to put into each
pub record ArePassesOf (inboxes : List InboxView) (passes : Passes) : Type 0 where
  pub takes : slice_get (lines_of inboxes) passes.own ≡ Some passes.takes.line
  pub puts : ArePassesInto inboxes passes.puts.items

-- ---- as they are made

-- `nodes` open inboxes of this room
pub record AreNewInboxes (nodes room : ℕ) (inboxes : List InboxView) : Type 0 where
  pub number : length inboxes ≡ nodes
  pub each : All (λ a. (a.room ≡ room) × (a.closed ≡ false)) inboxes

-- the pass to take from this inbox of `senders` senders: nothing was taken by it, and none came
-- back to it
abbrev pub new_take : ℕ → InboxView → TakeView
new_take senders inbox = record { line = inbox.line; taken = []; made = senders; back = [] }

-- the pass of this sender to put into this inbox: nothing was put by it
abbrev pub new_put : ℕ → InboxView → PutView
new_put sender inbox = record { line = inbox.line; from = sender; put = [] }

-- the passes of the node of this number, as they are made: one to take from the inbox at its
-- place, and one to put into each inbox, as this sender
pub record AreNewPassesOf (inboxes : List InboxView) (node : ℕ) (passes : Passes)
    : Type 0 where
  pub own : passes.own ≡ node
  pub inbox : InboxView
  pub there : slice_get inboxes node ≡ Some inbox
  pub takes : passes.takes ≡ new_take (length inboxes) inbox
  pub puts : passes.puts.items ≡ map (new_put node) inboxes

-- the new passes of each node, in the order of the nodes, from this number on
abbrev pub AreNewPassesFrom : List InboxView → ℕ → List Passes → Type 0
AreNewPassesFrom inboxes node [] = Unit {0}
AreNewPassesFrom inboxes node (one ∷ later) =
    AreNewPassesOf inboxes node one × AreNewPassesFrom inboxes (node + 1) later

-- ---- how they are made: the passes to put of one sender are a row

-- the row of this sender: its new passes into these inboxes, with room for `nodes`
pub record IsSenderRow (inboxes : List InboxView) (nodes sender : ℕ) (row : Vec PutView Global)
    : Type 0 where
  pub puts : row.items ≡ map (new_put sender) inboxes
  pub room : nodes ≤ vec_capacity row

-- the rows of `nodes` senders, in their order
pub record AreSenderRows (inboxes : List InboxView) (nodes : ℕ) (rows : List (Vec PutView Global))
    : Type 0 where
  pub number : length rows ≡ nodes
  pub each : (sender : ℕ) (row : Vec PutView Global) → slice_get rows sender ≡ Some row
      → IsSenderRow inboxes nodes sender row

-- it holds nothing, and has room for `nodes`
abbrev pub IsEmptyFor : {A : Type 0} → ℕ → Vec A Global → Type 0
IsEmptyFor nodes v = (v.items ≡ []) × (nodes ≤ vec_capacity v)
