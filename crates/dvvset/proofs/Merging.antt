-- The steps of a merge in one pass.
use Rattle.std.proofs.Common.{◌≡◌, ℕ, ◌+◌, ◌-◌, ◌<◌, ◌≤◌, ◌⊎◌, cond, List, [], ◌∷◌, ◌++◌, length, take, drop, get_or, refl, sym, ap, ◌∙◌, arith, eqb, append_assoc, append-nil, take_all, length-drop, ⊎_elim}
use Rattle.std.proofs.Math.ListN.{drop_of_length-le}
use Rattle.std.proofs.lemmas.Bool.{lt-ltb, le-ltb, eq-eqb, ne_eqb}
use Rattle.dvvset.specs.Object.{Entry}
use Rattle.dvvset.specs.Clock.{sync, sync_from, sync_entry}
use Rattle.dvvset.proofs.Rising.{drop_is}

-- a merge with the absent object changes nothing
pub sync-nil : (xs : List Entry) → sync xs [] ≡ xs
sync-nil [] = refl
sync-nil (x ∷ xs) = ap (λ l. x ∷ l) (sync-nil xs)

-- what is merged, and what is left of both
pub record Merging (merged xs ys : List Entry) (i j : ℕ) : Type 0 where
  pub left : i ≤ length xs
  pub right : j ≤ length ys
  pub whole : merged ++ sync (drop i xs) (drop j ys) ≡ sync xs ys

-- once one side is through, the rests of both are what is left
pub Merging-end : (merged xs ys : List Entry) (i j : ℕ) → Merging merged xs ys i j → (length xs ≤ i) ⊎ (length ys ≤ j)
    → (merged ++ take (length xs - i) (drop i xs)) ++ take (length ys - j) (drop j ys) ≡ sync xs ys
Merging-end merged xs ys i j m end =
    let left : take (length xs - i) (drop i xs) ≡ drop i xs = take_all (length xs - i) (drop i xs) (rw length-drop (omega arith)) in
    let right : take (length ys - j) (drop j ys) ≡ drop j ys = take_all (length ys - j) (drop j ys) (rw length-drop (omega arith)) in
    append_assoc merged (take (length xs - i) (drop i xs)) (take (length ys - j) (drop j ys))
    ∙ (λ k. merged ++ (left k ++ right k))
    ∙ ⊎_elim
    (λ h. ap (λ l. merged ++ l) (ap (λ l. l ++ drop j ys) (drop_of_length-le xs h) ∙ ap (λ l. sync l (drop j ys)) (sym (drop_of_length-le xs h))))
    (λ h. ap (λ l. merged ++ l)
    (ap (λ l. drop i xs ++ l) (drop_of_length-le ys h) ∙ append-nil (drop i xs) ∙ sym (sync-nil (drop i xs)) ∙ ap (λ l. sync (drop i xs) l) (sym (drop_of_length-le ys h))))
    end
    ∙ m.whole
