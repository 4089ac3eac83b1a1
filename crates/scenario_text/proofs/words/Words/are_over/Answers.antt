use Rattle.scenario_text.proofs.Readings.{words_are_over}
use Rattle.scenario_text.proofs.words.Words.are_over.Goals as goal

pub returns : goal.returns
returns c = words_are_over c.args.self.now c.peek.result c.is_none.result c.peek.ensures c.is_none.ensures
