-- What a changed key changes of the digests under its full prefix: those of its own leaf and inner node.
use Rattle.std.proofs.Common.{◌≡◌, ◌≢◌, ℕ, ◌+◌, ◌*◌, ◌/◌, ◌-◌, ◌<◌, ◌≤◌, ◌==◌, zero, suc, true, false, cond, not, List, [], ◌∷◌, map, take, drop, length, get_or, refl, sym, ap, ◌∙◌, arith}
use Rattle.std.specs.List.{concat, range_with_len, slice_set}
use Rattle.std.specs.List.{drop-map}
use Rattle.std.specs.Ordering.{is_eq}
use Rattle.std.specs.declared.cmp.Ordering.TheVariants.{Less, Equal, Greater}
use Rattle.std.specs.FinMap.{put}
use Rattle.std.specs.FinMap.Entries.{by_order}
use Rattle.std.proofs.lemmas.Bool.{eqb-false, eqb-true, ne_eqb}
use Rattle.std.proofs.lemmas.List.{ext_get_or, get_or-set_other, get_or-set_same, length-set}
use Rattle.std.proofs.lemmas.List.FromFn.{get_or-map-range_with_len, length-map-range_with_len, take-map-range_with_len}
use Rattle.sha2.specs.Sha256.{sha256}
use Rattle.meta_types.specs.Order.{bytes_cmp}
use Rattle.meta_store.specs.Kept.{without_row}
use Rattle.hash_tree.specs.Tree.{Digest, OwnRows, in_leaf, inner_digest, inner_digests, leaf_digest, leaf_digests, leaf_of, prefix_root, text_of}
use Rattle.hash_tree.specs.Kept.{AreDigestsBut, all_leaf_digests, inner_over}
use Rattle.meta_types.proofs.Comparing.{same_bytes}

module _ (k : List ℕ) (d : Digest) where
  -- a leaf in which the key doesn't stand keeps its rows
  in_leaf_other : (n : ℕ) (rows : OwnRows) → (n == leaf_of k) ≡ false → in_leaf n (put bytes_cmp k d rows) ≡ in_leaf n rows
  in_leaf_other n [] e = ap (λ b. cond b ((k, d) ∷ []) []) e
  in_leaf_other n (row ∷ rows) e =
      let rest : OwnRows = in_leaf n rows in
      elim (bytes_cmp k row.0) as (λ r. bytes_cmp k row.0 ≡ r → in_leaf n (by_order r ((k, d) ∷ row ∷ rows) ((row.0, d) ∷ rows) (row ∷ put bytes_cmp k d rows)) ≡ cond (n == leaf_of row.0) (row ∷ rest) rest) [
        | Less ↦ λ is. ap (λ b. cond b ((k, d) ∷ in_leaf n (row ∷ rows)) (in_leaf n (row ∷ rows))) e
        | Equal ↦ λ tied.
            let out : (n == leaf_of row.0) ≡ false = ap (λ x. n == leaf_of x) (sym (same_bytes k row.0 tied)) ∙ e in
            ap (λ b. cond b ((row.0, d) ∷ rest) rest) out ∙ sym (ap (λ b. cond b (row ∷ rest) rest) out)
        | Greater ↦ λ is. ap (λ xs. cond (n == leaf_of row.0) (row ∷ xs) xs) (in_leaf_other n rows e)
      ] refl

  -- with the key put there, or without it
  pub put_elsewhere : (rows : OwnRows) (n : ℕ) → n ≢ leaf_of k → in_leaf n (put bytes_cmp k d rows) ≡ in_leaf n rows
  put_elsewhere rows n apart = in_leaf_other n rows (ne_eqb n (leaf_of k) apart)

in_leaf_without : (k : List ℕ) (n : ℕ) (rows : OwnRows) → (n == leaf_of k) ≡ false → in_leaf n (without_row k rows) ≡ in_leaf n rows
in_leaf_without k n [] e = refl
in_leaf_without k n (row ∷ rows) e =
    let rest : OwnRows = in_leaf n rows in
    let later : in_leaf n (without_row k rows) ≡ rest = in_leaf_without k n rows e in
    elim (bytes_cmp k row.0) as (λ r. bytes_cmp k row.0 ≡ r → in_leaf n (cond (not (is_eq r)) (row ∷ without_row k rows) (without_row k rows)) ≡ cond (n == leaf_of row.0) (row ∷ rest) rest) [
      | Less ↦ λ is. ap (λ xs. cond (n == leaf_of row.0) (row ∷ xs) xs) later
      | Equal ↦ λ tied.
          let out : (n == leaf_of row.0) ≡ false = ap (λ x. n == leaf_of x) (sym (same_bytes k row.0 tied)) ∙ e in
          later ∙ sym (ap (λ b. cond b (row ∷ rest) rest) out)
      | Greater ↦ λ is. ap (λ xs. cond (n == leaf_of row.0) (row ∷ xs) xs) later
    ] refl

pub left_elsewhere : (k : List ℕ) (rows : OwnRows) (n : ℕ) → n ≢ leaf_of k → in_leaf n (without_row k rows) ≡ in_leaf n rows
left_elsewhere k rows n apart = in_leaf_without k n rows (ne_eqb n (leaf_of k) apart)

-- lists made of functions of the index that agree there
alike : {A : Type 0} (f g : ℕ → A) (low n : ℕ) → ((i : ℕ) → low ≤ i → i < low + n → g i ≡ f i) → map g (range_with_len low n) ≡ map f (range_with_len low n)
alike f g low zero same = refl
alike f g low (suc n) same = λ i. same low (omega arith) (omega arith) i ∷ alike f g (low + 1) n (λ j a b. same j (omega arith) (omega arith)) i

-- that agree but at one place
but_one : {A : Type 0} (f g : ℕ → A) (n i : ℕ) → i < n → ((j : ℕ) → j < n → j ≢ i → g j ≡ f j) → map g (range_with_len 0 n) ≡ slice_set (map f (range_with_len 0 n)) i (g i)
but_one f g n i lt same =
    let before = map f (range_with_len 0 n) in
    let long : length before ≡ n = length-map-range_with_len f 0 n in
    ext_get_or (g i) (map g (range_with_len 0 n)) (slice_set before i (g i))
    (length-map-range_with_len g 0 n ∙ sym (length-set before i (g i) ∙ long))
    (λ j within.
    let low : j < n = omega (arith, length-map-range_with_len g 0 n) in
    get_or-map-range_with_len g 0 n j j (g i) low (omega arith)
    ∙ elim (j == i) as (λ b. (j == i) ≡ b → g j ≡ get_or (slice_set before i (g i)) j (g i)) [
      | true ↦ λ e.
          let is : j ≡ i = eqb-true j i e in
          ap g is ∙ sym (ap (λ m. get_or (slice_set before i (g i)) m (g i)) is ∙ get_or-set_same before i (g i) (g i) (omega (arith, long)))
      | false ↦ λ e.
          let apart : j ≢ i = λ is. eqb-false j i e is in
          same j low apart ∙ sym (get_or-set_other before i j (g i) (g i) apart ∙ get_or-map-range_with_len f 0 n j j (g i) low (omega arith))
    ] refl)

drop_counting : (a n k m : ℕ) → n ≡ k + m → drop k (range_with_len a n) ≡ range_with_len (a + k) m
drop_counting a n zero m e = let s : n ≡ m = omega (arith, e) in let t : a ≡ a + 0 = omega arith in λ i. range_with_len (t i) (s i)
drop_counting a zero (suc k) m e = absurd (omega (arith, e))
drop_counting a (suc n) (suc k) m e = drop_counting (a + 1) n k m (omega (arith, e)) ∙ ap (λ x. range_with_len x m) (omega arith)

-- the leaves under an inner node, of all leaves
pub leaves_under : (rows : OwnRows) (inner : ℕ) → inner < 16 → take 16 (drop (16 * inner) (all_leaf_digests rows)) ≡ leaf_digests rows inner
leaves_under rows inner lt =
    ap (take 16) (drop-map (leaf_digest rows) (16 * inner) (range_with_len 0 256)
    ∙ ap (map (leaf_digest rows)) (drop_counting 0 256 (16 * inner) (256 - 16 * inner) (omega (arith, lt)) ∙ ap (λ x. range_with_len x (256 - 16 * inner)) (let s : 0 + 16 * inner ≡ 16 * inner = omega arith in s)))
    ∙ take-map-range_with_len (leaf_digest rows) (16 * inner) (256 - 16 * inner) 16 (omega (arith, lt))

pub inner_by_leaves : (rows : OwnRows) (inner : ℕ) → inner < 16 → sha256 (concat (take 16 (drop (16 * inner) (all_leaf_digests rows)))) ≡ inner_digest rows inner
unfolding inner_digest
inner_by_leaves rows inner lt = ap (λ ds. sha256 (concat ds)) (leaves_under rows inner lt)

pub all_inner : (rows : OwnRows) → inner_over (all_leaf_digests rows) ≡ inner_digests rows
all_inner rows = alike (inner_digest rows) (λ inner. sha256 (concat (take 16 (drop (16 * inner) (all_leaf_digests rows))))) 0 16 (λ i a b. inner_by_leaves rows i (omega (arith, b)))

pub root_over : (rows : OwnRows) (inner : List Digest) → inner ≡ inner_digests rows → sha256 (concat inner) ≡ prefix_root rows
unfolding prefix_root
root_over rows inner is = ap (λ ds. sha256 (concat ds)) is

-- ---- rows that are the same in every leaf but one

module _ (rows new : OwnRows) (leaf : ℕ) (byte : leaf < 256) (same : (n : ℕ) → n ≢ leaf → in_leaf n new ≡ in_leaf n rows) where
  leaf_other : (n : ℕ) → n ≢ leaf → leaf_digest new n ≡ leaf_digest rows n
  unfolding leaf_digest
  leaf_other n apart = ap (λ xs. sha256 (text_of xs)) (same n apart)

  leaves_changed : all_leaf_digests new ≡ slice_set (all_leaf_digests rows) leaf (leaf_digest new leaf)
  leaves_changed = but_one (leaf_digest rows) (leaf_digest new) 256 leaf byte (λ j lt apart. leaf_other j apart)

  inner_other : (inner : ℕ) → inner ≢ leaf / 16 → inner_digest new inner ≡ inner_digest rows inner
  unfolding inner_digest
  inner_other inner apart =
      ap (λ ds. sha256 (concat ds)) (alike (leaf_digest rows) (leaf_digest new) (16 * inner) 16
      (λ i a b. leaf_other i (λ is. apart (omega (arith, a, b, is)))))

  inner_changed : inner_digests new ≡ slice_set (inner_digests rows) (leaf / 16) (inner_digest new (leaf / 16))
  inner_changed = but_one (inner_digest rows) (inner_digest new) 16 (leaf / 16) (omega (arith, byte)) (λ j lt apart. inner_other j apart)

  -- only the digests of that leaf and of its inner node are others
  pub digests_but : (leaf_digests inner : List Digest) → leaf_digests ≡ all_leaf_digests rows → inner ≡ inner_digests rows → AreDigestsBut leaf new leaf_digests inner
  digests_but leaf_digests inner leaves nodes = record {
    leaves = ap (λ ds. slice_set ds leaf (leaf_digest new leaf)) leaves ∙ sym leaves_changed;
    nodes = ap (λ ds. slice_set ds (leaf / 16) (inner_digest new (leaf / 16))) nodes ∙ sym inner_changed;
  }

module _ (k : List ℕ) (rows new : OwnRows) (leaf : ℕ) (at : leaf ≡ leaf_of k) (byte : leaf < 256) where
  pub digests_but_put : (d : Digest) → new ≡ put bytes_cmp k d rows → (leaf_digests inner : List Digest) → leaf_digests ≡ all_leaf_digests rows → inner ≡ inner_digests rows → AreDigestsBut leaf new leaf_digests inner
  digests_but_put d is =
      digests_but rows new leaf byte (λ n apart. ap (in_leaf n) is ∙ put_elsewhere k d rows n (λ e. apart (e ∙ sym at)))

  pub digests_but_left : new ≡ without_row k rows → (leaf_digests inner : List Digest) → leaf_digests ≡ all_leaf_digests rows → inner ≡ inner_digests rows → AreDigestsBut leaf new leaf_digests inner
  digests_but_left is =
      digests_but rows new leaf byte (λ n apart. ap (in_leaf n) is ∙ left_elsewhere k rows n (λ e. apart (e ∙ sym at)))

-- ---- digests that are computed anew

module _ (rows : OwnRows) (leaf : ℕ) (leaf_digests inner : List Digest) (but : AreDigestsBut leaf rows leaf_digests inner) where
  pub all_256 : length leaf_digests ≡ 256
  all_256 =
      sym (length-set leaf_digests leaf (leaf_digest rows leaf)) ∙ ap length but.leaves ∙ length-map-range_with_len (leaf_digest rows) 0 256

  pub leaves_renewed : (new : List Digest) (d : Digest) → new ≡ slice_set leaf_digests leaf d → d ≡ leaf_digest rows leaf → new ≡ all_leaf_digests rows
  leaves_renewed new d is here = is ∙ ap (λ x. slice_set leaf_digests leaf x) here ∙ but.leaves

  pub nodes_renewed : (new : List Digest) (d : Digest) → new ≡ slice_set inner (leaf / 16) d → d ≡ inner_digest rows (leaf / 16) → new ≡ inner_digests rows
  nodes_renewed new d is here = is ∙ ap (λ x. slice_set inner (leaf / 16) x) here ∙ but.nodes
