use Rattle.std.proofs.Common.{◌≢◌, inl}
use Rattle.std.specs.declared.io.ErrorKind.TheVariants as kinds
use Rattle.plumctl_core.proofs.opening.tell_unopened.Goals.{in-OutOfMemory, in_default}
use Rattle.plumctl_core.proofs.opening.tell_unopened.Goals as goal

pub returns-clause-ends : goal.returns-clause-ends
returns-clause-ends g c =
    let other : c.args.kind ≢ kinds.OutOfMemory = elim c.match-matches.branch [
      | in-OutOfMemory w ↦ absurd (cc (w.matches-is, c.if-matches.false))
      | in_default w ↦ w.in_default.not-OutOfMemory
    ] in
    let told = rw (c.line_of_fault.ensures, c.cause_of_kind.ensures) at c.tell_cause.ensures in
    inl (other, c.status_of_fault.ensures, told)
