-- The least key of two rising lists of rows, and what follows it.
use Rattle.std.proofs.Common.{◌≡◌, Bool, true, not, T, List, [], ◌∷◌, length, map, Some, None, refl, sym, ap, subst, ◌∙◌, arith}
use Rattle.std.specs.Bool.{passes}
use Rattle.std.specs.Ordering.{ordering_reverse}
use Rattle.std.specs.declared.cmp.Ordering.{Ordering}
use Rattle.std.specs.declared.cmp.Ordering.TheVariants.{Less, Equal, Greater}
use Rattle.std.specs.Cmp.{IsTotalOrder}
use Rattle.std.specs.FinMap.{is_sorted, put}
use Rattle.std.specs.FinMap.Entries.{below_all, by_order}
use Rattle.meta_store.proofs.Maps.{before_all, first, is_true, second}
use Rattle.hash_tree.specs.Tree.{Digest}
use Rattle.std.proofs.lemmas.List.Elements.{All-tail}
use Rattle.meta_types.specs.Name.{IsName}
use Rattle.frame_fields.specs.declared.keys.KeyDigest.{KeyDigest}
use Rattle.exchange.specs.Sides.{AreNamed, IsNext, differing, same_digest}
use Rattle.exchange.proofs.Differing.{both_told, own_told, theirs_told}

module _ {K A : Type 0} (R : K → K → Ordering) (o : IsTotalOrder R) (same : (k l : K) → R k l ≡ Equal → k ≡ l) (parts : A → K × Digest) where
  abbrev rows : List A → List (K × Digest)
  rows xs = map parts xs

  abbrev rise : List A → Type 0
  rise xs = is_sorted R (rows xs) ≡ true

  below : (x : A) (xs : List A) → rise (x ∷ xs) → T (below_all R (parts x).0 (rows xs))
  below x xs sorted = first (below_all R (parts x).0 (rows xs)) (is_sorted R (rows xs)) (passes (is_sorted R (rows (x ∷ xs))) sorted)

  rest_rises : (x : A) (xs : List A) → rise (x ∷ xs) → rise xs
  rest_rises x xs sorted = is_true (is_sorted R (rows xs)) (second (below_all R (parts x).0 (rows xs)) (is_sorted R (rows xs)) (passes (is_sorted R (rows (x ∷ xs))) sorted))

  -- what stands before the first stands before all
  before : (x y : A) (ys : List A) → rise (y ∷ ys) → R (parts x).0 (parts y).0 ≡ Less → T (below_all R (parts x).0 (rows (y ∷ ys)))
  before x y ys sorted less = before_all R o (parts x).0 (parts x).1 (parts y) (rows ys) (passes (is_sorted R (rows (y ∷ ys))) sorted) less

  pub next_theirs_alone : (x : A) (xs : List A) → rise (x ∷ xs) → IsNext R parts (x ∷ xs) [] (parts x).0 (Some (parts x).1) true xs []
  next_theirs_alone x xs sorted = record {
    fewer = omega arith;
    their_rest_rises = rest_rises x xs sorted;
    own_rest_rises = refl;
    told = theirs_told R o (parts x).0 (parts x).1 (rows xs) [] (below x xs sorted) tt refl;
  }

  pub next_own_alone : (y : A) (ys : List A) → rise (y ∷ ys) → IsNext R parts [] (y ∷ ys) (parts y).0 None true [] ys
  next_own_alone y ys sorted = record {
    fewer = omega arith;
    their_rest_rises = refl;
    own_rest_rises = rest_rises y ys sorted;
    told = own_told R o (parts y).0 (parts y).1 [] (rows ys) tt (below y ys sorted);
  }

  module _ (x y : A) (xs ys : List A) (theirs_rise : rise (x ∷ xs)) (own_rise : rise (y ∷ ys)) where
    pub next_theirs : R (parts x).0 (parts y).0 ≡ Less → IsNext R parts (x ∷ xs) (y ∷ ys) (parts x).0 (Some (parts x).1) true xs (y ∷ ys)
    next_theirs less = record {
      fewer = omega arith;
      their_rest_rises = rest_rises x xs theirs_rise;
      own_rest_rises = own_rise;
      told = theirs_told R o (parts x).0 (parts x).1 (rows xs) (rows (y ∷ ys)) (below x xs theirs_rise) (before x y ys own_rise less)
          (ap (λ r. by_order r (parts x ∷ rows (y ∷ ys)) (((parts y).0, (parts x).1) ∷ rows ys) (parts y ∷ put R (parts x).0 (parts x).1 (rows ys))) less);
    }

    pub next_own : R (parts x).0 (parts y).0 ≡ Greater → IsNext R parts (x ∷ xs) (y ∷ ys) (parts y).0 None true (x ∷ xs) ys
    next_own greater = record {
      fewer = omega arith;
      their_rest_rises = theirs_rise;
      own_rest_rises = rest_rises y ys own_rise;
      told = own_told R o (parts y).0 (parts y).1 (rows (x ∷ xs)) (rows ys)
          (before y x xs theirs_rise (o.antisymm (parts y).0 (parts x).0 ∙ ap ordering_reverse greater))
          (below y ys own_rise);
    }

    pub next_both : R (parts x).0 (parts y).0 ≡ Equal → IsNext R parts (x ∷ xs) (y ∷ ys) (parts x).0 (Some (parts x).1) (not (same_digest (parts x).1 (parts y).1)) xs ys
    next_both tied =
        let key : (parts x).0 ≡ (parts y).0 = same (parts x).0 (parts y).0 tied in
        record {
          fewer = omega arith;
          their_rest_rises = rest_rises x xs theirs_rise;
          own_rest_rises = rest_rises y ys own_rise;
          told =
              (λ i. differing R (rows (x ∷ xs)) ((sym key i, (parts y).1) ∷ rows ys))
              ∙ both_told R o (parts x).0 (parts x).1 (parts y).1 (rows xs) (rows ys) (below x xs theirs_rise)
              (subst (λ k. T (below_all R k (rows ys))) (sym key) (below y ys own_rise));
        }

  -- ---- of lists that are split

  module _ (theirs own : List A) (theirs_rise : rise theirs) (own_rise : rise own) where
    pub of_theirs_alone : (x : A) (xs : List A) → theirs ≡ x ∷ xs → own ≡ [] → IsNext R parts theirs own (parts x).0 (Some (parts x).1) true xs own
    of_theirs_alone x xs split none =
        let there : IsNext R parts theirs [] (parts x).0 (Some (parts x).1) true xs [] =
        subst (λ ts. IsNext R parts ts [] (parts x).0 (Some (parts x).1) true xs []) (sym split) (next_theirs_alone x xs (subst rise split theirs_rise)) in
        subst (λ os. IsNext R parts theirs os (parts x).0 (Some (parts x).1) true xs os) (sym none) there

    pub of_theirs : (x y : A) (xs ys : List A) → theirs ≡ x ∷ xs → own ≡ y ∷ ys → R (parts x).0 (parts y).0 ≡ Less → IsNext R parts theirs own (parts x).0 (Some (parts x).1) true xs own
    of_theirs x y xs ys split other less =
        let there : IsNext R parts theirs (y ∷ ys) (parts x).0 (Some (parts x).1) true xs (y ∷ ys) =
        subst (λ ts. IsNext R parts ts (y ∷ ys) (parts x).0 (Some (parts x).1) true xs (y ∷ ys)) (sym split) (next_theirs x y xs ys (subst rise split theirs_rise) (subst rise other own_rise) less) in
        subst (λ os. IsNext R parts theirs os (parts x).0 (Some (parts x).1) true xs os) (sym other) there

    pub of_both : (x y : A) (xs ys : List A) (differs : Bool) → theirs ≡ x ∷ xs → own ≡ y ∷ ys → R (parts x).0 (parts y).0 ≡ Equal → differs ≡ not (same_digest (parts x).1 (parts y).1)
        → IsNext R parts theirs own (parts x).0 (Some (parts x).1) differs xs ys
    of_both x y xs ys differs split other tied is =
        let here : IsNext R parts (x ∷ xs) (y ∷ ys) (parts x).0 (Some (parts x).1) differs xs ys =
        subst (λ b. IsNext R parts (x ∷ xs) (y ∷ ys) (parts x).0 (Some (parts x).1) b xs ys) (sym is) (next_both x y xs ys (subst rise split theirs_rise) (subst rise other own_rise) tied) in
        let there : IsNext R parts theirs (y ∷ ys) (parts x).0 (Some (parts x).1) differs xs ys =
        subst (λ ts. IsNext R parts ts (y ∷ ys) (parts x).0 (Some (parts x).1) differs xs ys) (sym split) here in
        subst (λ os. IsNext R parts theirs os (parts x).0 (Some (parts x).1) differs xs ys) (sym other) there

    pub of_own : (x y : A) (xs ys : List A) → theirs ≡ x ∷ xs → own ≡ y ∷ ys → R (parts x).0 (parts y).0 ≡ Greater → IsNext R parts theirs own (parts y).0 None true theirs ys
    of_own x y xs ys split other greater =
        let there : IsNext R parts theirs (y ∷ ys) (parts y).0 None true theirs ys =
        subst (λ ts. IsNext R parts ts (y ∷ ys) (parts y).0 None true ts ys) (sym split) (next_own x y xs ys (subst rise split theirs_rise) (subst rise other own_rise) greater) in
        subst (λ os. IsNext R parts theirs os (parts y).0 None true theirs ys) (sym other) there

  pub of_own_alone : (own : List A) (y : A) (ys : List A) → rise own → own ≡ y ∷ ys → IsNext R parts [] own (parts y).0 None true [] ys
  of_own_alone own y ys rising split =
      subst (λ os. IsNext R parts [] os (parts y).0 None true [] ys) (sym split) (next_own_alone y ys (subst rise split rising))

pub none_left : {A : Type 0} (xs : List A) → length xs ≡ 0 → xs ≡ []
none_left [] e = refl
none_left (x ∷ xs) e = absurd (omega arith)

pub named_rest : (rows : List KeyDigest) (x : KeyDigest) (xs : List KeyDigest) → rows ≡ x ∷ xs → AreNamed rows → AreNamed xs
named_rest rows x xs split named = All-tail (λ row. IsName 256 row.key) x xs (subst AreNamed split named)
