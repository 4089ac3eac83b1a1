use Rattle.meta_types.specs.Order.{key_cmp}
use Rattle.meta_store.proofs.Forgetting.{taken_back}
use Rattle.meta_store.proofs.Keys.{key_total}
use Rattle.meta_store.proofs.laws.forgetting_takes_back_what_was_held.Goals as goal

pub returns : goal.returns
returns c = λ table key object is absent. taken_back key_cmp key_total key object table absent
