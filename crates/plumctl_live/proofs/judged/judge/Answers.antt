use Rattle.std.proofs.Common.{rules}
use Rattle.plumctl_live.proofs.judged.judge.Goals as goal

pub returns-in-Err-clause-refused : goal.returns-in-Err-clause-refused
returns-in-Err-clause-refused c =
    (search rules, rw c.as_slice-3.ensures.value at (rw c.as_slice-2.ensures.value at c.in-Err.ensures.refused))
