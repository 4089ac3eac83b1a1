-- A merge by what is held under its key: whether what came is stale, and the refusals.
use Rattle.std.proofs.Common.{◌≡◌, Bool, true, false, if◌then◌else◌, List, Option, Some, None, refl, sym, ap, ◌∙◌}
use Rattle.meta_types.specs.Name.{Key}
use Rattle.dvvset.specs.Object.{Entry}
use Rattle.dvvset.specs.Clock.{join}
use Rattle.meta_store.specs.Table.{Table, object_at, is_stale}
use Rattle.meta_store.specs.Step.{is_full_for, refusal_of_merge, refusal_of_sync}

pub where_none : {A : Type 0} (b : Bool) (x : A) (o : Option A) → o ≡ None → o ≡ (if b then None else Some x) → b ≡ true
where_none true x o none is = refl
where_none false x o none is = cc

pub where_some : {A : Type 0} (b : Bool) (x y : A) (o : Option A) → o ≡ Some y → o ≡ (if b then None else Some x) → (b ≡ false) × (y ≡ x)
where_some true x y o some is = cc
where_some false x y o some is = (refl, cc)

-- what isn't stale is refused by what is held under the key
pub refusal_of_fresh : (table : Table) (key : Key) (held came : List Entry) (is_full : Bool) → held ≡ object_at table key → is_full ≡ is_full_for table key → is_stale table key (join came) ≡ false
    → refusal_of_sync held came is_full ≡ refusal_of_merge table key came
refusal_of_fresh table key held came is_full holds full fresh =
    let there = object_at table key in
    ap (λ h. refusal_of_sync h came is_full) holds
    ∙ ap (refusal_of_sync there came) full
    ∙ sym (ap (λ b. if b then None else refusal_of_sync there came (is_full_for table key)) fresh)
