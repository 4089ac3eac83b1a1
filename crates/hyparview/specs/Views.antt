-- The views of a node, and one step of them.
use Rattle.std.specs.Prelude.{ℕ, ◌≡◌, List, []}
use Rattle.hyparview.specs.declared.event.ViewEvent.{ViewEvent}
use Rattle.hyparview.specs.declared.event.ViewOut.{ViewOut}
use Rattle.hyparview.specs.Draft.{Draft}
use Rattle.hyparview.specs.Rows.{row}

-- the node, its active and its passive view, whom it asked for a place in the present search for a
-- neighbour, and what its last shuffle offered, until the reply came
pub record NodeViews : Type 0 where
  pub node : ℕ
  pub active : List ℕ
  pub passive : List ℕ
  pub asked : List ℕ
  pub sent : List ℕ

-- a node that knows nobody
abbrev pub empty : ℕ → NodeViews
empty node = record { node = node; active = []; passive = []; asked = []; sent = [] }

-- a step begins with what the node has, and has given out nothing
abbrev pub draft_of : NodeViews → Draft
draft_of v = record {
  node = v.node;
  active = v.active;
  passive = v.passive;
  asked = v.asked;
  sent = v.sent;
  out = [];
}

abbrev pub views_of : Draft → NodeViews
views_of t = record {
  node = t.node;
  active = t.active;
  passive = t.passive;
  asked = t.asked;
  sent = t.sent;
}

-- the draft after an event, with its word
abbrev pub draft_after : ViewEvent → ℕ → NodeViews → Draft
draft_after event word v = row word event (draft_of v)

-- an event with its word takes the old views to the new ones, and gives this out
pub record IsStep (old : NodeViews) (event : ViewEvent) (word : ℕ) (new : NodeViews)
    (out : List ViewOut) : Type 0 where
  pub views : new ≡ views_of (draft_after event word old)
  pub gives : out ≡ (draft_after event word old).out
