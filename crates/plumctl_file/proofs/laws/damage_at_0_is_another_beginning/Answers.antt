use Rattle.plumctl_file.proofs.Beginning.{another_beginning}
use Rattle.plumctl_file.proofs.laws.damage_at_0_is_another_beginning.Goals as goal

pub returns : goal.returns
returns c = another_beginning
