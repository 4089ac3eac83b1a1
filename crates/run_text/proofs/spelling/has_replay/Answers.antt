use Rattle.std.proofs.Common.{arith}
use Rattle.run_text.proofs.Spellings.{all_accepted, all_events}
use Rattle.run_text.proofs.spelling.has_replay.Goals as goal
use Rattle.run_text.proofs.spelling.has_replay.Goals.{then-nodes-lt1-via-then-nodes-lt1, then-nodes-lt1-via-else-nodes-lt1+then-nodes-gt16}

pub returns-then-nodes-lt1 : goal.returns-then-nodes-lt1
returns-then-nodes-lt1 c = (
  λ no. cc no,
  λ has.
      let count = has.count 0 in
      elim c.then-nodes-lt1.branch [
        | then-nodes-lt1-via-then-nodes-lt1 w ↦ absurd (omega (arith, count, w.if-nodes-lt1.true))
        | then-nodes-lt1-via-else-nodes-lt1+then-nodes-gt16 w ↦ absurd (omega (arith, count, w.if-nodes-gt16.true))
      ],
)

pub returns-then-is_one_line : goal.returns-then-is_one_line
returns-then-is_one_line c = (
  λ yes. record {
    one_line = c.is_one_line.ensures.0 c.if-is_one_line.true;
    count = λ r. (omega (arith, c.if-nodes-lt1.false), omega (arith, c.if-nodes-gt16.false));
    each = all_events c.args.accepted.now (c.are_spelled.ensures.0 yes);
  },
  λ has. c.are_spelled.ensures.1 (all_accepted c.args.accepted.now has.each),
)
