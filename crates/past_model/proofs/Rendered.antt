-- A writer's entry by two numbers, and the merge of two such entries.
use Rattle.std.proofs.Common.{◌≡◌, ℕ, ◌-◌, ◌<◌, ◌≤◌, true, false, cond, zero, suc, List, [], ◌∷◌, length, take, drop, sym, ap, refl, ◌∙◌, arith, min, max, Option, Some, None, map, leb, length-take, length-drop}
use Rattle.std.proofs.lemmas.Bool.{leb-true, leb-false}
use Rattle.std.proofs.lemmas.List.{take-map, length-map}
use Rattle.meta_types.specs.Value.{ValueParts}
use Rattle.dvvset.specs.Object.{Entry}
use Rattle.dvvset.specs.Clock.{cut}
use Rattle.dvvset.proofs.Writers.{sync_at}
use Rattle.past_model.specs.Past.{Write}

-- an entry if there is an event
abbrev pub entry_with : ℕ → ℕ → List ValueParts → Option Entry
entry_with w zero values = None
entry_with w (suc n) values = Some (record { id = w; count = suc n; values = values })

-- the oldest `count` of a writer's writes, of which the oldest `low` are covered
abbrev pub rendered : ℕ → List Write → ℕ → ℕ → Option Entry
rendered w own count low = entry_with w count (map (λ x. x.value) (take (count - low) (drop (length own - count) own)))

-- the cover of an entry by two numbers
pub cover-rendered : (own : List Write) (count low : ℕ) → low ≤ count → count ≤ length own → count - length (map (λ x. x.value) (take (count - low) (drop (length own - count) own))) ≡ low
cover-rendered own count low le within =
    rw (length-map (take (count - low) (drop (length own - count) own)) (λ x. x.value), length-take (count - low) (drop (length own - count) own), length-drop (length own - count) own) (omega arith)

-- the start of a start
pub take-min : {A : Type 0} (n m : ℕ) (xs : List A) → take n (take m xs) ≡ take (min n m) xs
take-min zero m xs = let e : zero ≡ min zero m = omega arith in λ i. take (e i) xs
take-min (suc n) zero xs = let e : zero ≡ min (suc n) zero = omega arith in λ i. take (e i) xs
take-min (suc n) (suc m) [] = let e : min (suc n) (suc m) ≡ suc (min n m) = omega arith in rw e refl
take-min (suc n) (suc m) (x ∷ xs) =
    let e : min (suc n) (suc m) ≡ suc (min n m) = omega arith in
    rw e (ap (λ l. x ∷ l) (take-min n m xs))

-- a cut of what is shown
pub cut-rendered : (D : List Write) (n m k : ℕ) → k ≡ min n m → take n (map (λ x. x.value) (take m D)) ≡ map (λ x. x.value) (take k D)
cut-rendered D n m k e = take-map (λ x. x.value) n (take m D) ∙ ap (λ l. map (λ x. x.value) l) (take-min n m D ∙ ap (λ j. take j D) (sym e))

pub sync-rendered : (w : ℕ) (own : List Write) (p1 q1 p2 q2 p q : ℕ) → q1 ≤ p1 → q2 ≤ p2 → p1 ≤ length own → p2 ≤ length own → p ≡ max p1 p2 → q ≡ max q1 q2 → sync_at (rendered w own p1 q1) (rendered w own p2 q2) ≡ rendered w own p q
sync-rendered w own zero q1 p2 q2 p q a1 a2 b1 b2 pe qe =
    let ep : p2 ≡ p = omega arith in
    let eq : q2 ≡ q = omega arith in
    λ i. rendered w own (ep i) (eq i)
sync-rendered w own (suc n) q1 zero q2 p q a1 a2 b1 b2 pe qe =
    let ep : suc n ≡ p = omega arith in
    let eq : q1 ≡ q = omega arith in
    λ i. rendered w own (ep i) (eq i)
sync-rendered w own (suc n) q1 (suc m) q2 p q a1 a2 b1 b2 pe qe =
    let c1 : suc n - length (map (λ x. x.value) (take (suc n - q1) (drop (length own - suc n) own))) ≡ q1 = cover-rendered own (suc n) q1 a1 b1 in
    let c2 : suc m - length (map (λ x. x.value) (take (suc m - q2) (drop (length own - suc m) own))) ≡ q2 = cover-rendered own (suc m) q2 a2 b2 in
    elim (leb (suc m) (suc n)) as (λ b. leb (suc m) (suc n) ≡ b → Some (cond b
    (cut (record { id = w; count = suc n; values = map (λ x. x.value) (take (suc n - q1) (drop (length own - suc n) own)) }) (suc m - length (map (λ x. x.value) (take (suc m - q2) (drop (length own - suc m) own)))))
    (cut (record { id = w; count = suc m; values = map (λ x. x.value) (take (suc m - q2) (drop (length own - suc m) own)) }) (suc n - length (map (λ x. x.value) (take (suc n - q1) (drop (length own - suc n) own)))))) ≡ rendered w own p q) [
      | true ↦ λ e.
          let le : suc m ≤ suc n = leb-true (suc m) (suc n) e in
          let ep : suc n ≡ p = omega arith in
          let k : suc n - q ≡ min (suc n - q2) (suc n - q1) = omega arith in
          let vals : take (suc n - (suc m - length (map (λ x. x.value) (take (suc m - q2) (drop (length own - suc m) own))))) (map (λ x. x.value) (take (suc n - q1) (drop (length own - suc n) own))) ≡ map (λ x. x.value) (take (suc n - q) (drop (length own - suc n) own)) =
          ap (λ c. take (suc n - c) (map (λ x. x.value) (take (suc n - q1) (drop (length own - suc n) own)))) c2 ∙ cut-rendered (drop (length own - suc n) own) (suc n - q2) (suc n - q1) (suc n - q) k in
          (λ i. Some (record { id = w; count = suc n; values = vals i })) ∙ (λ i. rendered w own (ep i) q)
      | false ↦ λ e.
          let lt : suc n < suc m = leb-false (suc m) (suc n) e in
          let ep : suc m ≡ p = omega arith in
          let k : suc m - q ≡ min (suc m - q1) (suc m - q2) = omega arith in
          let vals : take (suc m - (suc n - length (map (λ x. x.value) (take (suc n - q1) (drop (length own - suc n) own))))) (map (λ x. x.value) (take (suc m - q2) (drop (length own - suc m) own))) ≡ map (λ x. x.value) (take (suc m - q) (drop (length own - suc m) own)) =
          ap (λ c. take (suc m - c) (map (λ x. x.value) (take (suc m - q2) (drop (length own - suc m) own)))) c1 ∙ cut-rendered (drop (length own - suc m) own) (suc m - q1) (suc m - q2) (suc m - q) k in
          (λ i. Some (record { id = w; count = suc m; values = vals i })) ∙ (λ i. rendered w own (ep i) q)
    ] refl
