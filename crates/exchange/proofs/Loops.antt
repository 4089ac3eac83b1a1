-- Steps of the loops over sixteen places.
use Rattle.std.proofs.Common.{◌≡◌, ℕ, ◌+◌, ◌<◌, ◌≤◌, nat_le, Bool, true, false, cond, List, [], ◌∷◌, ◌++◌, map, sym, ap, ◌∙◌, refl, arith}
use Rattle.std.specs.List.{filter, range_with_len}
use Rattle.std.proofs.lemmas.List.{append-nil, map-append}
use Rattle.std.proofs.lemmas.List.Elements.{filter-append}
use Rattle.std.proofs.lemmas.List.FromFn.{map-range_with_len_more}
use Rattle.std.proofs.lemmas.Bool.Decides.{nat_tests}

map_itself : (xs : List ℕ) → map (λ x. x) xs ≡ xs
map_itself [] = refl
map_itself (x ∷ xs) = ap (λ ys. x ∷ ys) (map_itself xs)

one_place_more : (n : ℕ) → range_with_len 0 (n + 1) ≡ range_with_len 0 n ++ n ∷ []
one_place_more n =
    sym (map_itself (range_with_len 0 (n + 1)))
    ∙ map-range_with_len_more (λ x. x) 0 n n (omega arith)
    ∙ ap (λ xs. xs ++ n ∷ []) (map_itself (range_with_len 0 n))

module _ {A : Type 0} (f : ℕ → A) (p : ℕ → Bool) (n : ℕ) (done : List A) (so_far : done ≡ map f (filter p (range_with_len 0 n))) where
  next : map f (filter p (range_with_len 0 (n + 1))) ≡ map f (filter p (range_with_len 0 n)) ++ map f (cond (p n) (n ∷ []) [])
  next =
      ap (λ xs. map f (filter p xs)) (one_place_more n)
      ∙ ap (map f) (filter-append p (range_with_len 0 n) (n ∷ []))
      ∙ map-append f (filter p (range_with_len 0 n)) (cond (p n) (n ∷ []) [])

  -- the place differs, and its message is pushed
  pub place_taken : (new : List A) (x : A) → p n ≡ true → x ≡ f n → new ≡ done ++ x ∷ [] → new ≡ map f (filter p (range_with_len 0 (n + 1)))
  place_taken new x is made pushed =
      pushed ∙ ap (λ y. done ++ y ∷ []) made ∙ ap (λ xs. xs ++ f n ∷ []) so_far
      ∙ sym (next ∙ ap (λ b. map f (filter p (range_with_len 0 n)) ++ map f (cond b (n ∷ []) [])) is)

  pub place_skipped : p n ≡ false → done ≡ map f (filter p (range_with_len 0 (n + 1)))
  place_skipped is =
      so_far ∙ sym (next ∙ ap (λ b. map f (filter p (range_with_len 0 n)) ++ map f (cond b (n ∷ []) [])) is ∙ append-nil (map f (filter p (range_with_len 0 n))))

-- ---- the inner nodes that there are

pub of_sixteen : {A : Type 0} (xs ys : List A) (n : ℕ) → n < 16 → cond (nat_le 16 n) xs ys ≡ ys
of_sixteen xs ys n less = ap (λ b. cond b xs ys) (let is : nat_le 16 n ≡ false = grind (arith, nat_tests) in is)

pub not_of_sixteen : {A : Type 0} (xs ys : List A) (n : ℕ) → 16 ≤ n → cond (nat_le 16 n) xs ys ≡ xs
not_of_sixteen xs ys n least = ap (λ b. cond b xs ys) (let is : nat_le 16 n ≡ true = grind (arith, nat_tests) in is)
