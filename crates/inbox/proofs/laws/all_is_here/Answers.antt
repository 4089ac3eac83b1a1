use Rattle.inbox.proofs.AllHere.{all_here}
use Rattle.inbox.proofs.laws.all_is_here.Goals as goal

pub returns : goal.returns
returns c = all_here
