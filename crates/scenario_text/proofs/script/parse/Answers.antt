use Rattle.std.proofs.Common.{refl, subst, arith}
use Rattle.scenario_text.specs.Coded.{command_word}
use Rattle.scenario_text.proofs.Parts.{length-lines_of}
use Rattle.scenario_text.proofs.Counts.{IsFew, few_line}
use Rattle.scenario_text.proofs.script.parse.Goals as goal

pub loop-line-init : goal.loop-line-init
loop-line-init c = rw c.of-lines.ensures (refl, refl, omega (arith, length-lines_of c.args.text.now))

pub invariant_of-result : goal.invariant_of-result
invariant_of-result c =
    let command = c.in-Asks-Nodes.field-0 in
    subst (λ asked. IsFew (command_word asked)) c.in-Asks-Nodes.field-0-is (few_line c.args.resolvers c.in-Some.line.now (command_word command) c.in-Asks-Nodes.ensures)
