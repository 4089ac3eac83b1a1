use Rattle.std.proofs.Common.{subst}
use Rattle.meta_frame.specs.Frame.{Spells}
use Rattle.node_core.proofs.Coming.{not_taken, taken}
use Rattle.node_core.proofs.state.NodeState.take.Goals as goal

pub returns-clause-attempt : goal.returns-clause-attempt
returns-clause-attempt c =
    taken c.args.self.now c.receive-taken.new.self c.receive-taken.result c.args.bytes.now c.args.word c.in_ok-frame.frame
    (subst (Spells c.in_ok-frame.frame) c.as_slice.ensures c.in_ok-frame.ensures.found) c.receive-taken.ensures

pub returns-clause-refused : goal.returns-clause-refused
returns-clause-refused c =
    not_taken c.args.self.now c.receive-taken.new.self c.receive-taken.result c.args.bytes.now c.args.word c.in_ok-frame.frame
    (subst (Spells c.in_ok-frame.frame) c.as_slice.ensures c.in_ok-frame.ensures.found) c.receive-taken.ensures
