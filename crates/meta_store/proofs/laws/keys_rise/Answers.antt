use Rattle.std.proofs.Common.{sym, refl}
use Rattle.std.specs.Bool.{passes}
use Rattle.std.specs.declared.cmp.Ordering.TheVariants.{Less}
use Rattle.std.specs.Prelude.{get_or}
use Rattle.std.specs.FinMap.{is_sorted}
use Rattle.meta_types.specs.Order.{key_cmp}
use Rattle.meta_types.proofs.Comparing.{key_before}
use Rattle.meta_store.proofs.Tables.{rises}
use Rattle.meta_store.proofs.laws.keys_rise.Goals as goal

pub returns : goal.returns
returns c = λ table is i j d lt within.
    (key_before Less (get_or table i d).0 (get_or table j d).0 (sym (rises table i j d (passes (is_sorted key_cmp table) is.rising) lt within))).0 refl
