-- What was asked of an overlay is pending: it can be ended, and taken back.
use Rattle.std.proofs.Common.{◌≡◌, ℕ, List, Result, Ok, Err, IfOk, OnOk, refl, sym, ap, subst, ◌∙◌}
use Rattle.meta_types.specs.Name.{Key}
use Rattle.dvvset.specs.Object.{Counter}
use Rattle.hyparview.specs.Views.{NodeViews}
use Rattle.node_events.specs.declared.outbox.Outbox.{Outbox}
use Rattle.plumtree.specs.declared.entry.CastOut.{CastOut}
use Rattle.plumtree.specs.declared.entry.Noted.{Noted}
use Rattle.plumtree.specs.Broadcast.{Broadcast, CastCall, IsCall}
use Rattle.plumtree.specs.Lawful.{MayCome}
use Rattle.plumtree.specs.Savepoint.{IsOfObjects, Standing, rolled_back, savepoint_of, with_noted_back}
use Rattle.plumtree.proofs.TakingBack.{are_taken_back}
use Rattle.node_overlay.specs.declared.origin.Origin.{Origin}
use Rattle.node_overlay.specs.declared.origin.Origin.TheVariants.{Write, Gossip}
use Rattle.node_overlay.specs.declared.pending.Pending.{Pending}
use Rattle.node_overlay.specs.declared.pending.Pending.TheVariants.{Called, Noted as OfNoted}
use Rattle.node_overlay.specs.Origin.{call_of}
use Rattle.node_overlay.specs.Overlay.{IsOfNoPeer, IsOverlay, Overlay, overlay_after_call, overlay_of}
use Rattle.node_overlay.specs.Pending.{Pends, after_pending, before_pending}
use Rattle.node_overlay.proofs.Naming.{names_others_on}

-- a change makes a call that can be rolled back, and in which no peer comes or goes
pub is_of_objects : (origin : Origin) (key : Key) (vector : List Counter)
    → IsOfObjects (call_of origin key vector) × IsOfNoPeer (call_of origin key vector)
is_of_objects Write key vector = (tt, tt)
is_of_objects (Gossip from round) key vector = (tt, tt)

-- a call of the broadcast was made, which can be rolled back
pub called_from : (standing : Standing) (call : CastCall) (o new : Overlay)
    → new ≡ overlay_after_call call o → standing ≡ savepoint_of o.cast → IsOverlay o
    → IsOfObjects call → IsOfNoPeer call → MayCome o.views.node call
    → Pends (Called standing) o new (overlay_after_call call o)
called_from standing call o new is stood h of of_none may =
    let back : overlay_of new.views (rolled_back standing new.cast) ≡ o =
    (λ i. overlay_of (is i).views (rolled_back (stood i) (is i).cast)) ∙ ap (overlay_of o.views) (are_taken_back o.cast call of) in
    record {
      ends = is;
      back = back;
      views = ap (λ (o : Overlay). o.views) is;
      can_end = record {
        ended = subst IsOverlay (sym is) (names_others_on.calls o call of_none may h);
        taken_back = subst IsOverlay (sym back) h;
      };
    }

-- the same of what a call of the broadcast left of an overlay, which is how its contract says it
pub called : {o : Overlay} {views : NodeViews} {old new : Broadcast} {call : CastCall}
    {out : List CastOut} (standing : Standing) → overlay_of views old ≡ o
    → IsOverlay (overlay_of views old) → IsCall call old new out → standing ≡ savepoint_of old
    → IsOfObjects call → IsOfNoPeer call → MayCome o.views.node call
    → Pends (Called standing) o (overlay_of views new) (overlay_after_call call o)
called {o = o} {views = views} {new = new} {call = call} standing same h row stood of of_none may =
    called_from standing call o (overlay_of views new) (ap (overlay_of views) row.broadcast ∙ ap (overlay_after_call call) same)
    (stood ∙ ap (λ (o : Overlay). savepoint_of o.cast) same) (subst IsOverlay same h) of of_none may

-- the same, if the call was handed on with its frames, or taken back
pub called_or_back : {o : Overlay} {views : NodeViews} {old between : Broadcast} {call : CastCall}
    {out : List CastOut} {E : Type 0} (r : Result (Pending × Outbox) E) (standing : Standing) (new : Broadcast)
    → IfOk r (λ told. told.0 ≡ Called standing) → OnOk r (new ≡ between) → overlay_of views old ≡ o
    → IsOverlay (overlay_of views old) → IsCall call old between out → standing ≡ savepoint_of old
    → IsOfObjects call → IsOfNoPeer call → MayCome o.views.node call
    → IfOk r (λ told. Pends told.0 o (overlay_of views new) (overlay_after_call call o))
called_or_back {o = o} {views = views} {call = call} (Ok told) standing new is made same h row stood of of_none may =
    subst (λ p. Pends p o (overlay_of views new) (overlay_after_call call o)) (sym is)
    (subst (λ b. Pends (Called standing) o (overlay_of views b) (overlay_after_call call o)) (sym made)
    (called standing same h row stood of of_none may))
called_or_back (Err fault) standing new is made same h row stood of of_none may = tt

-- what is known of frames is known of those that were handed on
pub handed_on : {E F : Type 0} (P : List (List ℕ) → Type 0) (r : Result (Pending × Outbox) E) (outbox : Result Outbox F)
    → IfOk r (λ told. outbox ≡ Ok told.1) → IfOk outbox P → IfOk r (λ told. P told.1)
handed_on P (Ok told) outbox is h = subst (λ r. IfOk r P) is h
handed_on P (Err fault) outbox is h = tt

-- an announcement was noted, which can be taken back
pub noted_from : {o : Overlay} {views : NodeViews} {old new : Broadcast} {call : CastCall}
    {out : List CastOut} (noted : Noted) → overlay_of views old ≡ o → IsOverlay (overlay_of views old)
    → IsCall call old new out → with_noted_back noted new ≡ old → IsOfNoPeer call
    → MayCome o.views.node call
    → Pends (OfNoted noted) o (overlay_of views new) (overlay_after_call call o)
noted_from {o = o} {views = views} {new = new} {call = call} noted same h row forgets of_none may =
    let is : overlay_of views new ≡ overlay_after_call call o = ap (overlay_of views) row.broadcast ∙ ap (overlay_after_call call) same in
    let back : overlay_of views (with_noted_back noted new) ≡ o = ap (overlay_of views) forgets ∙ same in
    record {
      ends = is;
      back = back;
      views = ap (λ (o : Overlay). o.views) same;
      can_end = record {
        ended = subst IsOverlay (sym is) (names_others_on.calls o call of_none may (subst IsOverlay same h));
        taken_back = subst IsOverlay (sym (back ∙ sym same)) h;
      };
    }

-- what was only foreseen changed nothing
pub foreseen : (p : Pending) (o after : Overlay) → after_pending p o ≡ after → before_pending p o ≡ o
    → IsOverlay o → IsOverlay after → Pends p o o after
foreseen p o after ends back was then = record {
  ends = ends;
  back = back;
  views = refl;
  can_end = record { ended = subst IsOverlay (sym ends) then; taken_back = subst IsOverlay (sym back) was };
}
