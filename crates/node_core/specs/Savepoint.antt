-- Several steps of which all are made, or none: what it takes to undo them.
use Rattle.std.specs.Prelude.{ℕ, ◌≢◌, List, [], ◌∷◌, ◌++◌, None, IfSome}
use Rattle.std.specs.FinMap.{find}
use Rattle.meta_types.specs.Order.{key_cmp}
use Rattle.meta_store.specs.Table.{IsHeld, Table, with_former}
use Rattle.subscriptions.specs.Watching.{Watching}
use Rattle.node_overlay.specs.Overlay.{Overlay}
use Rattle.node_core.specs.declared.attempt.Attempt.{Attempt}
use Rattle.node_core.specs.declared.attempt.End.{End}
use Rattle.node_core.specs.declared.attempt.End.TheVariants.{Change}
use Rattle.node_core.specs.declared.savepoint.Former.{Former}
use Rattle.node_core.specs.Node.{IsInLife, NodeParts}

-- what a node was, beside what it holds; and what keys held before they changed, in the order of
-- the changes
pub record SavepointParts : Type 0 where
  pub overlay : Overlay
  pub watches : List Watching
  pub heard : List ℕ
  pub steps : ℕ
  pub frames : ℕ
  pub ticks : ℕ
  pub formers : List Former

-- the key of a change, with what it held
abbrev pub formers_of : End → List Former
formers_of (Change news before overlay) = (record { key = news.change.key; before = before }) ∷ []
formers_of _ = []

-- the savepoint, from which the step was attempted
abbrev pub with_formers_of : Attempt → SavepointParts → SavepointParts
with_formers_of a p = record p { formers = p.formers ++ formers_of a.end }

-- each key holds again what it held, the last change first
abbrev pub held_again : List Former → Table → Table
held_again [] table = table
held_again (f ∷ later) table = with_former f.key f.before (held_again later table)

-- the node is again what it was
abbrev pub as_saved : SavepointParts → NodeParts → NodeParts
as_saved p s = record s {
  table = held_again p.formers s.table;
  overlay = p.overlay;
  watches = p.watches;
  heard = p.heard;
  steps = p.steps;
  frames = p.frames;
  ticks = p.ticks;
}

-- each key is held when its turn comes, and what it held before may be held
abbrev pub CanHoldAgain : List Former → Table → Type 0
CanHoldAgain [] table = Unit {0}
CanHoldAgain (f ∷ later) table =
    CanHoldAgain later table × (find key_cmp f.key (held_again later table) ≢ None)
    × IfSome f.before IsHeld

-- a node that stands here can be rolled back
pub record CanRollBack (p : SavepointParts) (s : NodeParts) : Type 0 where
  pub held : CanHoldAgain p.formers s.table
  pub in_life : IsInLife (as_saved p s)
