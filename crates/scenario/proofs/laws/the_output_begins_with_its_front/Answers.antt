use Rattle.scenario.proofs.Playing.{begins_with_front}
use Rattle.scenario.proofs.laws.the_output_begins_with_its_front.Goals as goal

pub returns : goal.returns
returns c = begins_with_front
