use Rattle.std.proofs.Common.{refl}
use Rattle.run_record.proofs.replay.told_mark.Goals as goal

pub returns-then-branch : goal.returns-then-branch
returns-then-branch c = record {
  some = (c.in_ok-told.ensures.0 c.if-branch.true, (refl, refl));
  none = λ is. absurd (cc);
}

pub returns-else-branch : goal.returns-else-branch
returns-else-branch c = record {
  some = tt;
  none = λ is told.
      let yes = c.in_ok-told.ensures.1 told in
      cc (yes, c.if-branch.false);
}
