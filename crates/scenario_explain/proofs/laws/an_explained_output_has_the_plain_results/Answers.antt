use Rattle.scenario_explain.proofs.Pieces.{results_in}
use Rattle.scenario_explain.proofs.laws.an_explained_output_has_the_plain_results.Goals as goal

pub returns : goal.returns
returns c = results_in
