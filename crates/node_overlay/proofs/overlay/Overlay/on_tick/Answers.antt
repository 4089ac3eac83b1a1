use Rattle.std.proofs.Common.{◌≡◌, ◌≢◌, ◌%◌, ℕ, cond, ◌++◌, eq-eqb, refl, sym, ap, subst}
use Rattle.std.proofs.lemmas.Bool.{ne_eqb}
use Rattle.std.proofs.lemmas.Result.{IfOk-weaker}
use Rattle.hyparview.specs.declared.event.ViewEvent.TheVariants.{ShuffleDue}
use Rattle.plumtree.specs.Broadcast.{Tick}
use Rattle.node_overlay.specs.Origin.{whole_messages}
use Rattle.node_overlay.specs.Ticking.{overlay_after_tick, sent_by_tick}
use Rattle.node_overlay.specs.Overlay.{Overlay, out_of, overlay_after_call, overlay_after_view, sent_by_view}
use Rattle.node_overlay.specs.Pending.{Pends}
use Rattle.node_overlay.proofs.Naming.{same_frames}
use Rattle.node_overlay.proofs.overlay.Overlay.on_tick.Goals as goal

-- if a shuffle is due
due_after : (ticks word : ℕ) (o : Overlay) → ticks % 10 ≡ 0
    → overlay_after_view ShuffleDue word (overlay_after_call Tick o) ≡ overlay_after_tick ticks word o
due_after ticks word o due =
    let after = overlay_after_call Tick o in
    sym (ap (λ is. cond is (overlay_after_view ShuffleDue word after) after) (eq-eqb (ticks % 10) 0 due))

due_sent : (ticks word : ℕ) (o : Overlay) → ticks % 10 ≡ 0
    → whole_messages (out_of Tick o) ++ sent_by_view ShuffleDue word o ≡ sent_by_tick ticks word o
due_sent ticks word o due =
    let sent = whole_messages (out_of Tick o) in
    sym (ap (λ is. cond is (sent ++ sent_by_view ShuffleDue word o) sent) (eq-eqb (ticks % 10) 0 due))

-- if none is due
not_due_after : (ticks word : ℕ) (o : Overlay) → ticks % 10 ≢ 0
    → overlay_after_call Tick o ≡ overlay_after_tick ticks word o
not_due_after ticks word o not_due =
    let after = overlay_after_call Tick o in
    sym (ap (λ is. cond is (overlay_after_view ShuffleDue word after) after) (ne_eqb (ticks % 10) 0 not_due))

not_due_sent : (ticks word : ℕ) (o : Overlay) → ticks % 10 ≢ 0
    → whole_messages (out_of Tick o) ≡ sent_by_tick ticks word o
not_due_sent ticks word o not_due =
    let sent = whole_messages (out_of Tick o) in
    sym (ap (λ is. cond is (sent ++ sent_by_view ShuffleDue word o) sent) (ne_eqb (ticks % 10) 0 not_due))

pub returns-then-ticks-eq0-clause-pending : goal.returns-then-ticks-eq0-clause-pending
returns-then-ticks-eq0-clause-pending c =
    let o = c.args.self.now in
    IfOk-weaker c.on_shuffling_tick.result _ _ (λ seen. subst (Pends seen.0 o o) (due_after c.args.ticks c.args.word o c.if-ticks-eq0.true))
    c.on_shuffling_tick.ensures.pending

pub returns-then-ticks-eq0-clause-sends : goal.returns-then-ticks-eq0-clause-sends
returns-then-ticks-eq0-clause-sends c =
    IfOk-weaker c.on_shuffling_tick.result _ _
    (λ seen frames. same_frames refl (due_sent c.args.ticks c.args.word c.args.self.now c.if-ticks-eq0.true) frames)
    c.on_shuffling_tick.ensures.sends

pub returns-else-ticks-eq0-clause-pending : goal.returns-else-ticks-eq0-clause-pending
returns-else-ticks-eq0-clause-pending c =
    let o = c.args.self.now in
    IfOk-weaker c.on_quiet_tick.result _ _ (λ seen. subst (Pends seen.0 o o) (not_due_after c.args.ticks c.args.word o c.if-ticks-eq0.false))
    c.on_quiet_tick.ensures.pending

pub returns-else-ticks-eq0-clause-sends : goal.returns-else-ticks-eq0-clause-sends
returns-else-ticks-eq0-clause-sends c =
    IfOk-weaker c.on_quiet_tick.result _ _
    (λ seen frames. same_frames refl (not_due_sent c.args.ticks c.args.word c.args.self.now c.if-ticks-eq0.false) frames)
    c.on_quiet_tick.ensures.sends
