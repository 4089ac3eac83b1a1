use Rattle.std.proofs.Common.{refl}
use Rattle.std.specs.Bool.{passes}
use Rattle.std.specs.FinMap.{find, is_sorted}
use Rattle.meta_types.specs.Order.{key_cmp}
use Rattle.meta_store.proofs.Forgetting.{held_back}
use Rattle.meta_store.proofs.laws.a_hold_is_taken_back.Goals as goal

pub returns : goal.returns
returns c = λ table key object is. held_back key object table (find key_cmp key table) (passes (is_sorted key_cmp table) is.rising) refl
