use Rattle.std.proofs.Common.{◌≡◌, ◌+◌, get_or, set, IfSome, IsNone, refl, sym, subst, ◌∙◌}
use Rattle.std.proofs.lemmas.List.{get_or_default}
use Rattle.run_record.specs.Replay.{AsTold, IsMarkOf, IsReplayOf}
use Rattle.run_record.proofs.Differing.{refused_so, unequal_gave, unequal_refused}
use Rattle.run_record.proofs.Naming.{given_to, row_of}
use Rattle.run_record.proofs.Replaying.{replay_step}
use Rattle.run_record.proofs.Wholeness.{names_below}
use Rattle.run_record.proofs.replay.Replay.make.Goals as goal

pub event_of-requires-clause-named : goal.event_of-requires-clause-named
event_of-requires-clause-named c =
    let turn = c.args.turn in
    names_below c.args.closed.now turn.node (get_or c.args.self.now.next.items turn.node 0)
    c.next_entry-entry.result.now c.requires.whole c.next_entry-entry.ensures

pub event_of-requires-clause-given : goal.event_of-requires-clause-given
event_of-requires-clause-given c = given_to c.args.closed.now c.args.self.now.next.items c.args.turn
    c.next_entry-entry.result.now c.requires.ready c.next_entry-entry.ensures

pub returns-in-None-clause-err : goal.returns-in-None-clause-err
returns-in-None-clause-err c =
    let old = c.args.self.now in
    unequal_gave c.args.closed.now old.world c.apply.new.self old.next.items old.marks.items
    c.args.turn c.next_entry-entry.result.now c.in_ok-event.event c.in-Ok.answer
    c.runs_go_on-2.ensures c.no_event_has_two_outcomes.ensures c.requires.replay c.requires.ready
    c.next_entry-entry.ensures c.in_ok-event.ensures c.has_lived.ensures c.in-Ok.ensures
    (c.in_ok-mark-in-Ok.ensures.none (subst (λ mark. IsNone mark) (sym c.in-None.is) refl))

pub returns-in_ok-push-in-Some-clause-ok : goal.returns-in_ok-push-in-Some-clause-ok
returns-in_ok-push-in-Some-clause-ok c =
    let closed = c.args.closed.now in
    let turn = c.args.turn in
    let old = c.args.self.now in
    let next = old.next.items in
    let rows = old.marks.items in
    let new = c.apply.new.self in
    let row = c.index_mut.result.now in
    let told = subst (λ mark. IfSome mark
    (λ m. AsTold new c.in-Ok.answer c.next_entry-entry.result.now × IsMarkOf c.in-Ok.answer m))
    c.in-Some.is c.in_ok-mark-in-Ok.ensures.some in
    let same : c.index_mut-in-Some.result.now ≡ get_or next turn.node 0 =
    c.index_mut-in-Some.ensures.value
    ∙ get_or_default next turn.node _ 0 c.requires.ready.node in
    let step = replay_step closed old.world new next rows turn c.next_entry-entry.result.now
    c.in_ok-event.event c.in-Ok.answer c.in-Some.mark row c.push.new.self c.runs_go_on.ensures
    c.only_reads_hand_out_a_context.ensures c.requires.replay c.requires.ready
    c.next_entry-entry.ensures c.in_ok-event.ensures c.in-Ok.ensures told.0 told.1.0 told.1.1
    (row_of closed old.world next rows turn row c.requires.replay c.requires.ready
    c.index_mut.ensures.value) c.in_ok-push-in-Some.ensures.items in
    subst (λ p. IsReplayOf closed new (set next turn.node (p + 1))
    (set rows turn.node c.push.new.self)) (sym same) step

pub returns-in-Err-clause-err : goal.returns-in-Err-clause-err
returns-in-Err-clause-err c =
    let old = c.args.self.now in
    refused_so c.args.closed.now c.in-Err.fault c.args.turn.node c.refusal.result c.refusal.ensures
    (λ other. unequal_refused c.args.closed.now old.world c.apply.new.self old.next.items
    old.marks.items c.args.turn c.next_entry-entry.result.now c.in_ok-event.event c.in-Err.fault
    c.runs_go_on-2.ensures c.no_event_has_two_outcomes.ensures c.requires.replay c.requires.ready
    c.next_entry-entry.ensures c.in_ok-event.ensures c.has_lived.ensures c.in-Err.ensures other)
