-- The keys of two rising lists that differ, from their heads.
use Rattle.std.proofs.Common.{◌≡◌, Bool, true, false, cond, not, ◌&&◌, T, List, [], ◌∷◌, map, Option, Some, None, refl, sym, ap, subst, ◌∙◌}
use Rattle.std.specs.List.{filter}
use Rattle.std.specs.Ordering.{is_eq, is_lt}
use Rattle.std.specs.declared.cmp.Ordering.{Ordering}
use Rattle.std.specs.declared.cmp.Ordering.TheVariants.{Less, Equal, Greater}
use Rattle.std.specs.Cmp.{IsTotalOrder, tied_itself}
use Rattle.std.specs.FinMap.{find, put}
use Rattle.std.specs.FinMap.Entries.{below_all, by_order}
use Rattle.meta_store.proofs.Maps.{find_below, first, greater_back, is_less, second}
use Rattle.hash_tree.specs.Tree.{Digest}
use Rattle.exchange.specs.Sides.{differ, differing, differing_keys, of_either, same_digest, then_rest}

both : (a b : Bool) → T a → T b → T (a && b)
both true b h g = g
both false b h g = absurd h

module _ {K : Type 0} (R : K → K → Ordering) (o : IsTotalOrder R) where
  abbrev Rows : Type 0
  Rows = List (K × Digest)

  lt : (k l : K) → R k l ≡ Less → T (is_lt (R k l))
  lt k l e = subst (λ r. T (is_lt r)) (sym e) tt

  -- a key before all of theirs stays first, whatever is put behind it
  kept_first : (k : K) (d : Digest) (theirs own : Rows) → T (below_all R k theirs) → of_either R theirs ((k, d) ∷ own) ≡ (k, d) ∷ of_either R theirs own
  kept_first k d [] own below = refl
  kept_first k d (x ∷ theirs) own below =
      let less : R k x.0 ≡ Less = is_less (R k x.0) (first (is_lt (R k x.0)) (below_all R k theirs) below) in
      ap (λ r. of_either R theirs (by_order r ((x.0, x.1) ∷ (k, d) ∷ own) ((k, x.1) ∷ own) ((k, d) ∷ put R x.0 x.1 own))) (greater_back R o k x.0 less)
      ∙ kept_first k d theirs (put R x.0 x.1 own) (second (is_lt (R k x.0)) (below_all R k theirs) below)

  below_put : (k l : K) (d : Digest) (rows : Rows) → R k l ≡ Less → T (below_all R k rows) → T (below_all R k (put R l d rows))
  below_put k l d [] less below = both (is_lt (R k l)) true (lt k l less) tt
  below_put k l d (row ∷ rows) less below =
      elim (R l row.0) as (λ r. T (below_all R k (by_order r ((l, d) ∷ row ∷ rows) ((row.0, d) ∷ rows) (row ∷ put R l d rows)))) [
        | Less ↦ both (is_lt (R k l)) (below_all R k (row ∷ rows)) (lt k l less) below
        | Equal ↦ below
        | Greater ↦ both (is_lt (R k row.0)) (below_all R k (put R l d rows)) (first (is_lt (R k row.0)) (below_all R k rows) below)
            (below_put k l d rows less (second (is_lt (R k row.0)) (below_all R k rows) below))
      ]

  below_either : (k : K) (theirs own : Rows) → T (below_all R k theirs) → T (below_all R k own) → T (below_all R k (of_either R theirs own))
  below_either k [] own below others = others
  below_either k (x ∷ theirs) own below others =
      below_either k theirs (put R x.0 x.1 own) (second (is_lt (R k x.0)) (below_all R k theirs) below)
      (below_put k x.0 x.1 own (is_less (R k x.0) (first (is_lt (R k x.0)) (below_all R k theirs) below)) others)

  -- two tests that agree behind a key
  filter_behind : (k : K) (p q : K → Bool) → ((z : K) → R k z ≡ Less → p z ≡ q z) → (rows : Rows) → T (below_all R k rows) → filter p (map (λ row. row.0) rows) ≡ filter q (map (λ row. row.0) rows)
  filter_behind k p q agree [] below = refl
  filter_behind k p q agree (row ∷ rows) below =
      let here : p row.0 ≡ q row.0 = agree row.0 (is_less (R k row.0) (first (is_lt (R k row.0)) (below_all R k rows) below)) in
      let rest = filter_behind k p q agree rows (second (is_lt (R k row.0)) (below_all R k rows) below) in
      λ i. cond (here i) (row.0 ∷ rest i) (rest i)

  -- behind a key, a row of it isn't found
  passed : (z k : K) (d : Digest) (rows : Rows) → R k z ≡ Less → find R z ((k, d) ∷ rows) ≡ find R z rows
  passed z k d rows less = ap (λ r. cond (is_eq r) (Some d) (find R z rows)) (greater_back R o k z less)

  found_first : (k : K) (d : Digest) (rows : Rows) → find R k ((k, d) ∷ rows) ≡ Some d
  found_first k d rows = ap (λ r. cond (is_eq r) (Some d) (find R k rows)) (tied_itself o k)

  abbrev test : Rows → Rows → K → Bool
  test theirs own k = differ (find R k theirs) (find R k own)

  -- a key that they alone have
  pub theirs_first : (k : K) (d : Digest) (theirs own : Rows) → T (below_all R k theirs) → T (below_all R k own) → put R k d own ≡ (k, d) ∷ own
      → differing_keys R ((k, d) ∷ theirs) own ≡ k ∷ differing_keys R theirs own
  theirs_first k d theirs own below others is =
      let rows : Rows = of_either R theirs own in
      let rest : filter (test ((k, d) ∷ theirs) own) (map (λ row. row.0) rows) ≡ differing_keys R theirs own =
      filter_behind k (test ((k, d) ∷ theirs) own) (test theirs own) (λ z less. ap (λ f. differ f (find R z own)) (passed z k d theirs less)) rows (below_either k theirs own below others) in
      let here : test ((k, d) ∷ theirs) own k ≡ true =
      ap (λ f. differ f (find R k own)) (found_first k d theirs) ∙ ap (differ (Some d)) (find_below R k own others) in
      ap (λ es. filter (test ((k, d) ∷ theirs) own) (map (λ row. row.0) es)) (ap (of_either R theirs) is ∙ kept_first k d theirs own below)
      ∙ (λ i. cond (here i) (k ∷ rest i) (rest i))

  -- a key that only we have
  pub own_first : (k : K) (d : Digest) (theirs own : Rows) → T (below_all R k theirs) → T (below_all R k own)
      → differing_keys R theirs ((k, d) ∷ own) ≡ k ∷ differing_keys R theirs own
  own_first k d theirs own below others =
      let rows : Rows = of_either R theirs own in
      let rest : filter (test theirs ((k, d) ∷ own)) (map (λ row. row.0) rows) ≡ differing_keys R theirs own =
      filter_behind k (test theirs ((k, d) ∷ own)) (test theirs own) (λ z less. ap (differ (find R z theirs)) (passed z k d own less)) rows (below_either k theirs own below others) in
      let here : test theirs ((k, d) ∷ own) k ≡ true =
      ap (λ f. differ f (find R k ((k, d) ∷ own))) (find_below R k theirs below) ∙ ap (differ None) (found_first k d own) in
      ap (λ es. filter (test theirs ((k, d) ∷ own)) (map (λ row. row.0) es)) (kept_first k d theirs own below)
      ∙ (λ i. cond (here i) (k ∷ rest i) (rest i))

  -- a key that both have
  pub both_first : (k : K) (d e : Digest) (theirs own : Rows) → T (below_all R k theirs) → T (below_all R k own)
      → differing_keys R ((k, d) ∷ theirs) ((k, e) ∷ own) ≡ cond (not (same_digest d e)) (k ∷ differing_keys R theirs own) (differing_keys R theirs own)
  both_first k d e theirs own below others =
      let rows : Rows = of_either R theirs own in
      let rest : filter (test ((k, d) ∷ theirs) ((k, e) ∷ own)) (map (λ row. row.0) rows) ≡ differing_keys R theirs own =
      filter_behind k (test ((k, d) ∷ theirs) ((k, e) ∷ own)) (test theirs own) (λ z less. λ i. differ (passed z k d theirs less i) (passed z k e own less i)) rows (below_either k theirs own below others) in
      let here : test ((k, d) ∷ theirs) ((k, e) ∷ own) k ≡ not (same_digest d e) = λ i. differ (found_first k d theirs i) (found_first k e own i) in
      let joined : of_either R ((k, d) ∷ theirs) ((k, e) ∷ own) ≡ (k, d) ∷ of_either R theirs own =
      ap (λ r. of_either R theirs (by_order r ((k, d) ∷ (k, e) ∷ own) ((k, d) ∷ own) ((k, e) ∷ put R k d own))) (tied_itself o k) ∙ kept_first k d theirs own below in
      ap (λ es. filter (test ((k, d) ∷ theirs) ((k, e) ∷ own)) (map (λ row. row.0) es)) joined
      ∙ (λ i. cond (here i) (k ∷ rest i) (rest i))

  -- ---- with their digest of each key

  abbrev with_theirs : Rows → K → K × Option Digest
  with_theirs theirs z = (z, find R z theirs)

  told_behind : (k : K) (d : Digest) (theirs : Rows) (p : K → Bool) (rows : Rows) → T (below_all R k rows)
      → map (with_theirs ((k, d) ∷ theirs)) (filter p (map (λ row. row.0) rows)) ≡ map (with_theirs theirs) (filter p (map (λ row. row.0) rows))
  told_behind k d theirs p [] below = refl
  told_behind k d theirs p (row ∷ rows) below =
      let less : R k row.0 ≡ Less = is_less (R k row.0) (first (is_lt (R k row.0)) (below_all R k rows) below) in
      let rest = told_behind k d theirs p rows (second (is_lt (R k row.0)) (below_all R k rows) below) in
      let keys : List K = filter p (map (λ row. row.0) rows) in
      elim (p row.0) as (λ b. map (with_theirs ((k, d) ∷ theirs)) (cond b (row.0 ∷ keys) keys) ≡ map (with_theirs theirs) (cond b (row.0 ∷ keys) keys)) [
        | true ↦ λ i. (row.0, passed row.0 k d theirs less i) ∷ rest i
        | false ↦ rest
      ]

  pub theirs_told : (k : K) (d : Digest) (theirs own : Rows) → T (below_all R k theirs) → T (below_all R k own) → put R k d own ≡ (k, d) ∷ own
      → differing R ((k, d) ∷ theirs) own ≡ (k, Some d) ∷ differing R theirs own
  theirs_told k d theirs own below others is =
      ap (map (with_theirs ((k, d) ∷ theirs))) (theirs_first k d theirs own below others is)
      ∙ (λ i. (k, found_first k d theirs i) ∷ told_behind k d theirs (test theirs own) (of_either R theirs own) (below_either k theirs own below others) i)

  pub own_told : (k : K) (d : Digest) (theirs own : Rows) → T (below_all R k theirs) → T (below_all R k own)
      → differing R theirs ((k, d) ∷ own) ≡ (k, None) ∷ differing R theirs own
  own_told k d theirs own below others =
      ap (map (with_theirs theirs)) (own_first k d theirs own below others)
      ∙ (λ i. (k, find_below R k theirs below i) ∷ differing R theirs own)

  pub both_told : (k : K) (d e : Digest) (theirs own : Rows) → T (below_all R k theirs) → T (below_all R k own)
      → differing R ((k, d) ∷ theirs) ((k, e) ∷ own) ≡ then_rest k (Some d) (not (same_digest d e)) (differing R theirs own)
  both_told k d e theirs own below others =
      let keys : List K = differing_keys R theirs own in
      let rest = told_behind k d theirs (test theirs own) (of_either R theirs own) (below_either k theirs own below others) in
      ap (map (with_theirs ((k, d) ∷ theirs))) (both_first k d e theirs own below others)
      ∙ elim (not (same_digest d e)) as (λ b. map (with_theirs ((k, d) ∷ theirs)) (cond b (k ∷ keys) keys) ≡ then_rest k (Some d) b (differing R theirs own)) [
        | true ↦ λ i. (k, found_first k d theirs i) ∷ rest i
        | false ↦ rest
      ]
