use Rattle.streams.specs.Line.{lines_of}
use Rattle.plumctl_core.proofs.Texts.{text_of_all, one_text_of_all}
use Rattle.plumctl_core.proofs.laws.one_output_for_an_input.Goals as goal

pub returns-clause-some : goal.returns-clause-some
returns-clause-some c = λ keys input. text_of_all keys (lines_of input)

pub returns-clause-one : goal.returns-clause-one
returns-clause-one c = λ keys input. one_text_of_all keys (lines_of input)
