use Rattle.std.proofs.Common.{refl}
use Rattle.plumctl_core.proofs.laws.each_word_names_its_choice.Goals as goal

pub returns-clause-lww : goal.returns-clause-lww
returns-clause-lww c = (0, refl, refl)

pub returns-clause-largest : goal.returns-clause-largest
returns-clause-largest c = (1, refl, refl)
