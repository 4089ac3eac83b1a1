-- After a merge a store holds the object of the union.
use Rattle.std.proofs.Common.{◌≡◌, true, List, subst}
use Rattle.meta_types.specs.Name.{Key}
use Rattle.dvvset.specs.Object.{Entry}
use Rattle.dvvset.specs.Clock.{join, descends, sync}
use Rattle.past_model.specs.declared.happening.Happening.{Happening}
use Rattle.past_model.specs.Sets.{Places, IsSubset, union}
use Rattle.past_model.specs.Past.{writes}
use Rattle.past_model.specs.History.{IsHistory}
use Rattle.past_model.specs.Shown.{IsObjectOf}
use Rattle.past_model.proofs.Sound.{orderly}
use Rattle.past_model.proofs.Merging.{sync_object, sync-within}
use Rattle.past_model.proofs.Order.{descends-subset}

module _ (hs : List Happening) (history : IsHistory hs) (k : Key) (S T : Places) (a b : List Entry) (is : IsObjectOf (writes hs) k S a) (came : IsObjectOf (writes hs) k T b) where
  pub fresh_object : IsObjectOf (writes hs) k (union S T) (sync a b)
  fresh_object = sync_object (writes hs) k S T a b (orderly hs history) is came

  -- if all that came was known, what is held is that already
  pub stale_object : descends (join a) (join b) ≡ true → IsObjectOf (writes hs) k (union S T) a
  stale_object stale =
      let within : IsSubset T S = (descends-subset (writes hs) k T S b a (orderly hs history).ordered.falling came is).0 stale in
      subst (IsObjectOf (writes hs) k (union S T)) (sync-within (writes hs) k S T a b (orderly hs history) is came within.within) fresh_object
