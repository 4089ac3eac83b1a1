use Rattle.scenario.proofs.OneOutput.{one_output}
use Rattle.scenario.proofs.laws.one_output_for_a_text.Goals as goal

pub returns : goal.returns
returns c = one_output
