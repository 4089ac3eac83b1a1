-- Steps are taken back, the last one first.
use Rattle.std.proofs.Common.{◌≡◌, ◌≢◌, ℕ, List, [], ◌∷◌, ◌++◌, None, IfSome, refl, sym, ap, subst, ◌∙◌}
use Rattle.std.proofs.lemmas.List.{append-nil}
use Rattle.std.specs.FinMap.{find}
use Rattle.meta_types.specs.Order.{key_cmp}
use Rattle.meta_store.specs.Table.{IsHeld, Table, with_former}
use Rattle.node_core.specs.declared.attempt.Attempt.{Attempt}
use Rattle.node_core.specs.declared.attempt.End.{End}
use Rattle.node_core.specs.declared.attempt.End.TheVariants.{Count, Overlay as OfOverlay, Tick, Heard, Change, Watch, HandOut}
use Rattle.node_core.specs.declared.savepoint.Former.{Former}
use Rattle.node_events.specs.declared.event.NodeEvent.{NodeEvent}
use Rattle.node_core.specs.Attempt.{CanEndRest, IsAttempt, committed, ended, taken_back, undone}
use Rattle.node_core.specs.Node.{IsInLife, NodeParts}
use Rattle.node_core.specs.Savepoint.{CanHoldAgain, CanRollBack, SavepointParts, formers_of, held_again, as_saved, with_formers_of}

-- ---- the last change comes first

pub last_first : (fs : List Former) (f : Former) (t : Table) → held_again (fs ++ f ∷ []) t ≡ held_again fs (with_former f.key f.before t)
last_first [] f t = refl
last_first (g ∷ fs) f t = ap (with_former g.key g.before) (last_first fs f t)

pub can_last : (fs : List Former) (f : Former) (t : Table) → find key_cmp f.key t ≢ None → IfSome f.before IsHeld
    → CanHoldAgain fs (with_former f.key f.before t) → CanHoldAgain (fs ++ f ∷ []) t
can_last [] f t found lawful h = (tt, found, lawful)
can_last (g ∷ fs) f t found lawful h =
    (can_last fs f t found lawful h.0, subst (λ t. find key_cmp g.key t ≢ None) (sym (last_first fs f t)) h.1, h.2)

-- a list of changes whose last one can be taken back, and then the others
pub record CanLast (fs : List Former) (f : Former) (t : Table) : Type 0 where
  pub found : find key_cmp f.key t ≢ None
  pub lawful : IfSome f.before IsHeld
  pub others : CanHoldAgain fs (with_former f.key f.before t)

pub last_can : (fs : List Former) (f : Former) (t : Table) → CanHoldAgain (fs ++ f ∷ []) t → CanLast fs f t
last_can [] f t h = record { found = h.1; lawful = h.2; others = tt }
last_can (g ∷ fs) f t h =
    let rest = last_can fs f t h.0 in record {
      found = rest.found;
      lawful = rest.lawful;
      others = (rest.others, subst (λ t. find key_cmp g.key t ≢ None) (last_first fs f t) h.1, h.2);
    }

-- ---- a step that was attempted is noted, and made

held_by_end : (e : End) (fs : List Former) (s : NodeParts) → held_again (fs ++ formers_of e) (ended e s).table ≡ held_again fs (undone e s).table
held_by_end Count fs s = ap (λ fs. held_again fs s.table) (append-nil fs)
held_by_end (OfOverlay pending) fs s = ap (λ fs. held_again fs s.table) (append-nil fs)
held_by_end (Tick pending) fs s = ap (λ fs. held_again fs s.table) (append-nil fs)
held_by_end (Heard node life overlay) fs s = ap (λ fs. held_again fs s.table) (append-nil fs)
held_by_end (Change news before overlay) fs s = last_first fs _ s.table
held_by_end Watch fs s = ap (λ fs. held_again fs s.table) (append-nil fs)
held_by_end (HandOut number) fs s = ap (λ fs. held_again fs s.table) (append-nil fs)

still_can : (fs : List Former) (t : Table) → CanHoldAgain fs t → CanHoldAgain (fs ++ []) t
still_can fs t = subst (λ fs. CanHoldAgain fs t) (sym (append-nil fs))

can_by_end : (e : End) (fs : List Former) (s : NodeParts) → CanEndRest e s → CanHoldAgain fs (undone e s).table
    → CanHoldAgain (fs ++ formers_of e) (ended e s).table
can_by_end Count fs s r h = still_can fs s.table h
can_by_end (OfOverlay pending) fs s r h = still_can fs s.table h
can_by_end (Tick pending) fs s r h = still_can fs s.table h
can_by_end (Heard node life overlay) fs s r h = still_can fs s.table h
can_by_end (Change news before overlay) fs s r h = can_last fs _ s.table r.1 r.2 h
can_by_end Watch fs s r h = still_can fs s.table h
can_by_end (HandOut number) fs s r h = still_can fs s.table h

same_node : (e : End) (s : NodeParts) → (ended e s).node ≡ (undone e s).node
same_node Count s = refl
same_node (OfOverlay pending) s = refl
same_node (Tick pending) s = refl
same_node (Heard node life overlay) s = refl
same_node (Change news before overlay) s = refl
same_node Watch s = refl
same_node (HandOut number) s = refl

same_life : (e : End) (s : NodeParts) → (ended e s).incarnation ≡ (undone e s).incarnation
same_life Count s = refl
same_life (OfOverlay pending) s = refl
same_life (Tick pending) s = refl
same_life (Heard node life overlay) s = refl
same_life (Change news before overlay) s = refl
same_life Watch s = refl
same_life (HandOut number) s = refl

-- the node, with what a savepoint has and this table
at_table : SavepointParts → ℕ → ℕ → Table → NodeParts
at_table p node incarnation table = record {
  node = node;
  incarnation = incarnation;
  table = table;
  overlay = p.overlay;
  watches = p.watches;
  heard = p.heard;
  steps = p.steps;
  frames = p.frames;
  ticks = p.ticks;
}

undone_alike : (p : SavepointParts) (a : Attempt) (s : NodeParts)
    → as_saved (with_formers_of a p) (committed a s) ≡ as_saved p (taken_back a s)
unfolding at_table
undone_alike p a s = λ i. at_table p (same_node a.end s i) (same_life a.end s i) (held_by_end a.end p.formers s i)

pub rolled_alike : (p : SavepointParts) (a : Attempt) (event : NodeEvent) (old s : NodeParts) → IsAttempt old event s a
    → as_saved (with_formers_of a p) (committed a s) ≡ as_saved p old
rolled_alike p a event old s is = undone_alike p a s ∙ ap (as_saved p) is.back

pub can_still : (p : SavepointParts) (a : Attempt) (event : NodeEvent) (old s : NodeParts) → IsAttempt old event s a
    → CanRollBack p old → CanRollBack (with_formers_of a p) (committed a s)
can_still p a event old s is can = record {
  held = can_by_end a.end p.formers s is.can_end.rest (subst (λ (o : NodeParts). CanHoldAgain p.formers o.table) (sym is.back) can.held);
  in_life = subst IsInLife (sym (rolled_alike p a event old s is)) can.in_life;
}
