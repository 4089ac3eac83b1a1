-- Tables whose objects know all that those before knew.
use Rattle.std.proofs.Common.{◌≡◌, List, [], ◌∷◌, ◌++◌, sym, subst, ⊎_elim, append_assoc}
use Rattle.std.proofs.lemmas.List.{append-nil}
use Rattle.std.proofs.lemmas.List.Sums.{fold_push}
use mathlib.Core.List.{IsPrefix}
use Rattle.meta_store.specs.Table.{IsTable, Table}
use Rattle.node_readers.specs.Published.{Published, with_all, with_published}
use Rattle.node_readers.proofs.Beginnings.{prefix_nil, prefix_snoc}
use Rattle.node_core.specs.Growing.{Descends}
use Rattle.node_core.proofs.Growing.{descends_itself, held_is_kept}
use Rattle.node_readers.specs.Growth.{Grows, GrowsBy, GrowsByAll}

-- before any change
pub grows_first : (opening : Table) → IsTable opening → Grows opening []
grows_first opening is = record {
  tables = λ first p. subst (λ (l : List Published). IsTable (with_all opening l)) (sym (prefix_nil first p)) is;
  descends = λ first p. subst (λ (l : List Published). Descends (with_all opening l) opening) (sym (prefix_nil first p)) (descends_itself opening is);
}

-- one more change
pub grows_on : (opening : Table) (list : List Published) (change : Published) → Grows opening list → GrowsBy (with_all opening list) change
    → Grows opening (list ++ change ∷ [])
grows_on opening list change grows by =
    let before = with_all opening list in
    let all = with_all opening (list ++ change ∷ []) in
    let put : all ≡ with_published before change = fold_push with_published opening list change in
    let there : IsTable all = subst IsTable (sym put) by.is_table in
    let up : Descends before all = subst (λ t. Descends before t) (sym put) by.descends in
    record {
      tables = λ first p.
          ⊎_elim (λ (q : IsPrefix first list). grows.tables first q)
          (λ (e : first ≡ list ++ change ∷ []). subst (λ (l : List Published). IsTable (with_all opening l)) (sym e) there)
          (prefix_snoc first list change p);
      descends = λ first p.
          ⊎_elim (λ (q : IsPrefix first list). held_is_kept.onwards (with_all opening first) before all (grows.tables first q) (grows.descends first q) up)
          (λ (e : first ≡ list ++ change ∷ []). subst (λ (l : List Published). Descends (with_all opening l) all) (sym e) (descends_itself all there))
          (prefix_snoc first list change p);
    }

-- all of some changes
pub grows_on_all : (opening : Table) (list changes : List Published) → Grows opening list → GrowsByAll (with_all opening list) changes
    → Grows opening (list ++ changes)
grows_on_all opening list [] grows by = subst (Grows opening) (sym (append-nil list)) grows
grows_on_all opening list (change ∷ changes) grows by =
    let rest : GrowsByAll (with_all opening (list ++ change ∷ [])) changes = subst (λ (t : Table). GrowsByAll t changes) (sym (fold_push with_published opening list change)) by.1 in
    subst (Grows opening) (append_assoc list (change ∷ []) changes)
    (grows_on_all opening (list ++ change ∷ []) changes (grows_on opening list change grows by.0) rest)

-- and one more after them
pub one_more_grows : (table : Table) (changes : List Published) (change : Published) → GrowsByAll table changes → GrowsBy (with_all table changes) change
    → GrowsByAll table (changes ++ change ∷ [])
one_more_grows table [] change all by = (by, tt)
one_more_grows table (first ∷ changes) change all by =
    (all.0, one_more_grows (with_published table first) changes change all.1 by)
