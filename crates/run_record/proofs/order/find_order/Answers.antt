use Rattle.std.proofs.Common.{◌≡◌, ◌≤◌, length, get_or, refl, rules, ◌∙◌}
use Rattle.std.proofs.lemmas.List.{get_or_default}
use Rattle.run_record.specs.Order.{CanComeNext}
use Rattle.run_record.specs.Passing.{AllWait, AreHeads}
use Rattle.run_record.proofs.Stalling.{all_ended, are_stuck, ended_unstuck}
use Rattle.run_record.proofs.Going.{goes_on, goes_to_end}
use Rattle.run_record.proofs.Waiting.{ahead_step, past_step, places_step}
use Rattle.run_record.proofs.order.find_order.Goals as goal

pub loop-turn-smaller : goal.loop-turn-smaller
loop-turn-smaller c =
    let closed = c.args.closed.now in
    let next = c.loop-turn.next.items in
    let turn = c.in-Some.turn in
    let r : CanComeNext closed c.as_slice.result.now turn = c.in-Some.ensures.some in
    let ready = rw c.as_slice.ensures.value at r in
    let v : c.index_mut.result.now ≡ get_or next turn.node 0 =
    c.index_mut.ensures.value ∙ get_or_default next turn.node _ 0 ready.node in
    rw v (ahead_step closed next turn ready)

pub loop-turn-preserved : goal.loop-turn-preserved
loop-turn-preserved c =
    let closed = c.args.closed.now in
    let next = c.loop-turn.next.items in
    let turn = c.in-Some.turn in
    let r : CanComeNext closed c.as_slice.result.now turn = c.in-Some.ensures.some in
    let ready = rw c.as_slice.ensures.value at r in
    let v : c.index_mut.result.now ≡ get_or next turn.node 0 =
    c.index_mut.ensures.value ∙ get_or_default next turn.node _ 0 ready.node in
    let before = c.loop-turn.invariant in
    rw v record {
      places = places_step closed next turn before.places ready;
      past = past_step closed next turn before.past ready;
      goes = rw c.in_ok-push.ensures.items
          (goes_on closed c.loop-turn.order.items c.in_ok-next.next.items next turn before.goes
          ready);
    }

pub returns-then-is_empty : goal.returns-then-is_empty
returns-then-is_empty c =
    let closed = c.args.closed.now in
    let next = c.loop-turn.next.items in
    let first = c.in_ok-next.next.items in
    let places = c.in_ok-places.places.items in
    let before = c.loop-turn.invariant in
    let h : AreHeads closed c.as_slice-2.result.now (length c.as_slice-2.result.now) places =
    c.in_ok-places.ensures in
    let empty : length places ≡ 0 = search rules in
    let ended = all_ended closed next places c.requires before.places
    (rw c.as_slice-2.ensures.value at h) empty in
    record {
      ok = record {
        first = first;
        are_first = c.in_ok-next.ensures;
        goes = goes_to_end closed c.loop-turn.order.items first next before.goes ended;
      };
      none_stuck = ended_unstuck closed next before.past ended;
      err = search rules;
    }

pub returns-clause-err : goal.returns-clause-err
returns-clause-err c =
    let closed = c.args.closed.now in
    let next = c.loop-turn.next.items in
    let places = c.in_ok-places.places.items in
    let w : AllWait closed c.as_slice.result.now (length c.as_slice.result.now) =
    c.in_default.ensures.none refl in
    let h : AreHeads closed c.as_slice-2.result.now (length c.as_slice-2.result.now) places =
    c.in_ok-places.ensures in
    let some : 1 ≤ length places = search rules in
    are_stuck closed next places c.requires c.loop-turn.invariant.places
    (rw c.as_slice.ensures.value at w) (rw c.as_slice-2.ensures.value at h) some
