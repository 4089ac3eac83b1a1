use Rattle.std.proofs.Common.{List, ℕ, subst}
use Rattle.plumctl_live.specs.Recording.{TellsDevice}
use Rattle.plumctl_live.proofs.Unmade.{ends_unmade}
use Rattle.plumctl_live.proofs.folder.tell_unmade.Goals as goal

pub returns-in_default-clause-ends : goal.returns-in_default-clause-ends
returns-in_default-clause-ends g c =
    let at = g.E.Sink.at in
    ends_unmade c.args.path.now c.args.fault (at c.args.errors.now) (at c.tell_device.new.errors) c.tell_device.result c.in_default.not-Memory
    (subst (λ (cause : List ℕ). TellsDevice c.args.path.now cause (at c.args.errors.now) (at c.tell_device.new.errors) c.tell_device.result) c.cause_of_unmade.ensures c.tell_device.ensures.ends)
