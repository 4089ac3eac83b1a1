-- Vectors that descend others, compared in one pass.
use Rattle.std.proofs.Common.{◌≡◌, ℕ, ◌+◌, ◌<◌, ◌≤◌, ◌&&◌, true, false, cond, List, [], ◌∷◌, length, map, drop, get_or, All, refl, sym, ap, subst, ◌∙◌, arith, eqb, leb}
use Rattle.std.specs.Bool.{Decides}
use Rattle.std.proofs.lemmas.Bool.{eqb-true, eqb-false, eq-eqb, ne_eqb, leb-true, le-leb, and_parts}
use Rattle.std.proofs.lemmas.List.{get_or-map, length-drop}
use Rattle.std.proofs.lemmas.List.Elements.{All-head, All-tail}
use Rattle.std.proofs.Math.ListN.{drop_of_length-le}
use Rattle.dvvset.specs.Object.{Counter, RisesFrom, ids_counted, IsCounter, IsVector}
use Rattle.dvvset.specs.Clock.{count_for, descends}
use Rattle.dvvset.proofs.Rising.{drop_is}

abbrev Rises : ℕ → List Counter → Type 0
Rises low cs = RisesFrom low (ids_counted cs)

-- a writer below the least has no counter
counter-low : (cs : List Counter) (low w : ℕ) → Rises low cs → w < low → count_for cs w ≡ 0
counter-low [] low w rises lt = refl
counter-low (c ∷ cs) low w rises lt =
    let first : low ≤ c.id = rises.0 in
    let other : (c.id ≡ w → ⊥) = λ e. absurd (omega arith) in
    ap (λ b. cond b c.count (count_for cs w)) (ne_eqb c.id w other) ∙ counter-low cs (c.id + 1) w rises.1 (omega arith)

counter-first : (c : Counter) (cs : List Counter) (w : ℕ) → c.id ≡ w → count_for (c ∷ cs) w ≡ c.count
counter-first c cs w e = ap (λ b. cond b c.count (count_for cs w)) (eq-eqb c.id w e)

counter-other : (c : Counter) (cs : List Counter) (w : ℕ) → (c.id ≡ w → ⊥) → count_for (c ∷ cs) w ≡ count_for cs w
counter-other c cs w e = ap (λ b. cond b c.count (count_for cs w)) (ne_eqb c.id w e)

gt-leb : (a b : ℕ) → b < a → leb a b ≡ false
gt-leb a b lt = elim (leb a b) as (λ t. leb a b ≡ t → t ≡ false) [ true ↦ λ e. let le = leb-true a b e in absurd (omega arith) | false ↦ λ e. refl ] refl

-- a counter of a writer below all of the others
skip : (x : Counter) (xs ys : List Counter) (low : ℕ) → Rises low ys → x.id < low → descends (x ∷ xs) ys ≡ descends xs ys
skip x xs [] low rises lt = refl
skip x xs (y ∷ ys) low rises lt =
    let first : low ≤ y.id = rises.0 in
    let other : (x.id ≡ y.id → ⊥) = λ e. absurd (omega arith) in
    (λ i. leb y.count (counter-other x xs y.id other i) && skip x xs ys (y.id + 1) rises.1 (omega arith) i)

-- the counter of an element stands at its place among the counters of all
pub counter_at : {X : Type 0} (f : X → Counter) (xs : List X) (i : ℕ) (v : X) (c : Counter) → i < length xs → v ≡ get_or xs i v → c ≡ f v → c ≡ get_or (map f xs) i c
counter_at f xs i v c lt is counts = counts ∙ ap f is ∙ sym (get_or-map f xs i v c lt)

-- the test so far: what is left of both answers for all
pub record Descending (a b : List Counter) (i j : ℕ) : Type 0 where
  pub left : i ≤ length a
  pub right : j ≤ length b
  pub rises_left : Rises 0 (drop i a)
  pub rises_right : Rises 0 (drop j b)
  pub counted : All IsCounter (drop j b)
  pub same : descends a b ≡ descends (drop i a) (drop j b)

Rises-weaken : (cs : List Counter) (low least : ℕ) → Rises low cs → least ≤ low → Rises least cs
Rises-weaken [] low least rises le = tt
Rises-weaken (c ∷ cs) low least rises le = (let first : low ≤ c.id = rises.0 in omega arith, rises.1)

nothing_descends : (ys : List Counter) → 0 < length ys → All IsCounter ys → descends [] ys ≡ false
nothing_descends [] lt all = absurd (omega arith)
nothing_descends (y ∷ ys) lt all =
    let one = (All-head IsCounter y ys all).counted.least in
    ap (λ t. t && descends [] ys) (gt-leb y.count 0 (omega arith))

-- the first side is through
pub descending_absent : (a b : List Counter) (i j : ℕ) → Descending a b i j → j < length b → length a ≤ i → descends a b ≡ false
descending_absent a b i j d lt end =
    d.same ∙ ap (λ cs. descends cs (drop j b)) (drop_of_length-le a end) ∙ nothing_descends (drop j b) (omega (arith, length-drop j b)) d.counted

-- its next writer is a later one
pub descending_below : (a b : List Counter) (i j : ℕ) (x y : Counter) → Descending a b i j → i < length a → j < length b → x ≡ get_or a i x → y ≡ get_or b j y → y.id < x.id → descends a b ≡ false
descending_below a b i j x y d li lj ix iy lt =
    let xs = drop (i + 1) a in
    let ys = drop (j + 1) b in
    let ex : drop i a ≡ x ∷ xs = drop_is a i x li ix in
    let ey : drop j b ≡ y ∷ ys = drop_is b j y lj iy in
    let one = (All-head IsCounter y ys (subst (All IsCounter) ey d.counted)).counted.least in
    let rises = subst (Rises 0) ex d.rises_left in
    let first : x.id ≤ x.id = omega arith in
    let none : count_for (x ∷ xs) y.id ≡ 0 = counter-low (x ∷ xs) x.id y.id (first, rises.1) lt in
    d.same ∙ (λ k. descends (ex k) (ey k)) ∙ ap (λ t. t && descends (x ∷ xs) ys) (gt-leb y.count (count_for (x ∷ xs) y.id) (omega arith))

-- one writer, whose counter is too small
pub descending_less : (a b : List Counter) (i j : ℕ) (x y : Counter) → Descending a b i j → i < length a → j < length b → x ≡ get_or a i x → y ≡ get_or b j y → x.id ≡ y.id → x.count < y.count → descends a b ≡ false
descending_less a b i j x y d li lj ix iy same less =
    let xs = drop (i + 1) a in
    let ys = drop (j + 1) b in
    let ex : drop i a ≡ x ∷ xs = drop_is a i x li ix in
    let ey : drop j b ≡ y ∷ ys = drop_is b j y lj iy in
    let here : count_for (x ∷ xs) y.id ≡ x.count = counter-first x xs y.id same in
    d.same ∙ (λ k. descends (ex k) (ey k)) ∙ ap (λ t. t && descends (x ∷ xs) ys) (gt-leb y.count (count_for (x ∷ xs) y.id) (omega arith))

-- one writer, whose counter is great enough
pub descending_next : (a b : List Counter) (i j : ℕ) (x y : Counter) → Descending a b i j → i < length a → j < length b → x ≡ get_or a i x → y ≡ get_or b j y → x.id ≡ y.id → y.count ≤ x.count → Descending a b (i + 1) (j + 1)
descending_next a b i j x y d li lj ix iy same le =
    let xs = drop (i + 1) a in
    let ys = drop (j + 1) b in
    let ex : drop i a ≡ x ∷ xs = drop_is a i x li ix in
    let ey : drop j b ≡ y ∷ ys = drop_is b j y lj iy in
    let here : count_for (x ∷ xs) y.id ≡ x.count = counter-first x xs y.id same in
    let rx = subst (Rises 0) ex d.rises_left in
    let ry = subst (Rises 0) ey d.rises_right in
    record {
      left = omega arith;
      right = omega arith;
      rises_left = Rises-weaken xs (x.id + 1) 0 rx.1 (omega arith);
      rises_right = Rises-weaken ys (y.id + 1) 0 ry.1 (omega arith);
      counted = All-tail IsCounter y ys (subst (All IsCounter) ey d.counted);
      same =
          d.same ∙ (λ k. descends (ex k) (ey k)) ∙ ap (λ t. t && descends (x ∷ xs) ys) (le-leb y.count (count_for (x ∷ xs) y.id) (omega arith))
          ∙ skip x xs ys (y.id + 1) ry.1 (omega arith);
    }

-- a writer that the second side lacks
pub descending_skip : (a b : List Counter) (i j : ℕ) (x y : Counter) → Descending a b i j → i < length a → j < length b → x ≡ get_or a i x → y ≡ get_or b j y → x.id < y.id → Descending a b (i + 1) j
descending_skip a b i j x y d li lj ix iy lt =
    let xs = drop (i + 1) a in
    let ys = drop (j + 1) b in
    let ex : drop i a ≡ x ∷ xs = drop_is a i x li ix in
    let ey : drop j b ≡ y ∷ ys = drop_is b j y lj iy in
    let rx = subst (Rises 0) ex d.rises_left in
    let ry = subst (Rises 0) ey d.rises_right in
    let first : y.id ≤ y.id = omega arith in
    record {
      left = omega arith;
      right = d.right;
      rises_left = Rises-weaken xs (x.id + 1) 0 rx.1 (omega arith);
      rises_right = d.rises_right;
      counted = d.counted;
      same = d.same ∙ (λ k. descends (ex k) (ey k)) ∙ skip x xs (y ∷ ys) y.id (first, ry.1) lt ∙ ap (λ cs. descends xs cs) (sym ey);
    }

-- ---- by counters

each_from_descends : (v w : List Counter) → descends v w ≡ true → (u : ℕ) → count_for w u ≤ count_for v u
each_from_descends v [] e u = omega arith
each_from_descends v (c ∷ cs) e u =
    let parts = and_parts (leb c.count (count_for v c.id)) (descends v cs) e in
    elim (eqb c.id u) as (λ b. eqb c.id u ≡ b → cond b c.count (count_for cs u) ≤ count_for v u) [
      | true ↦ λ q. subst (λ n. c.count ≤ count_for v n) (eqb-true c.id u q) (leb-true c.count (count_for v c.id) parts.0)
      | false ↦ λ q. each_from_descends v cs parts.1 u
    ] refl

descends_from_each : (v w : List Counter) (low : ℕ) → Rises low w → ((u : ℕ) → count_for w u ≤ count_for v u) → descends v w ≡ true
descends_from_each v [] low rises each = refl
descends_from_each v (c ∷ cs) low rises each =
    let here : c.count ≤ count_for v c.id = subst (λ n. n ≤ count_for v c.id) (counter-first c cs c.id refl) (each c.id) in
    let rest : (u : ℕ) → count_for cs u ≤ count_for v u = λ u.
    elim (eqb c.id u) as (λ b. eqb c.id u ≡ b → count_for cs u ≤ count_for v u) [
      | true ↦ λ q.
          let same : c.id ≡ u = eqb-true c.id u q in
          let none : count_for cs u ≡ 0 = counter-low cs (c.id + 1) u rises.1 (omega arith) in
          omega arith
      | false ↦ λ q. subst (λ n. n ≤ count_for v u) (counter-other c cs u (eqb-false c.id u q)) (each u)
    ] refl in
    (λ i. le-leb c.count (count_for v c.id) here i && descends_from_each v cs (c.id + 1) rises.1 rest i)

pub descends-Decides : (v w : List Counter) → IsVector w → Decides (descends v w) ((u : ℕ) → count_for w u ≤ count_for v u)
descends-Decides v w is = (each_from_descends v w, descends_from_each v w 0 is.rising)
