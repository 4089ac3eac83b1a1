use Rattle.meta_store.proofs.Tables.{found-here}
use Rattle.meta_store.proofs.laws.what_is_held_is_found.Goals as goal

pub returns : goal.returns
returns c = λ table key object. found-here key object table
