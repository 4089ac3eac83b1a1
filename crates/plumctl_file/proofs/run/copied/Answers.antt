use Rattle.std.proofs.Common.{◌≡◌, false, sym, ◌∙◌}
use Rattle.plumctl_file.specs.Reported.{is_memory}
use Rattle.plumctl_file.proofs.run.copied.Goals as goal

pub returns-else-is_memory-clause-ends : goal.returns-else-is_memory-clause-ends
returns-else-is_memory-clause-ends g c =
    let not_memory : is_memory c.in-Err.fault ≡ false = sym c.is_memory.ensures ∙ c.if-is_memory.false in
    rw (c.in-Err.is, not_memory) c.tell_device.ensures.ends
