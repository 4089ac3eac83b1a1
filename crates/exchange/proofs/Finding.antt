-- A key at which two tables differ is found in a whole exchange: a message of each round names it,
-- down to the keys of its leaf.
use Rattle.std.proofs.Common.{◌≡◌, ℕ, zero, suc, ◌+◌, ◌*◌, ◌/◌, ◌%◌, ◌<◌, Bool, true, false, cond, not, List, [], ◌∷◌, map, Option, Some, None, is_some, inl, inr, ⊎_elim, refl, sym, ap, subst, ◌∙◌, arith}
use Rattle.std.specs.Prelude.{◌⊎◌, slice_get}
use Rattle.std.specs.List.{range_with_len}
use Rattle.std.specs.Option.{option_map}
use Rattle.std.specs.Ordering.{is_eq}
use Rattle.std.specs.declared.cmp.Ordering.{Ordering}
use Rattle.std.specs.declared.cmp.Ordering.TheVariants.{Less, Equal, Greater}
use Rattle.std.specs.Cmp.{IsTotalOrder}
use Rattle.std.specs.Cmp.Lexicographic.{bytes_decides}
use Rattle.std.specs.FinMap.{find, put}
use Rattle.std.specs.FinMap.Entries.{find-put}
use Rattle.std.proofs.lemmas.Bool.{lt-leb}
use Rattle.meta_types.specs.Name.{Key}
use Rattle.meta_types.specs.Order.{bytes_cmp, key_cmp, prefix_cmp}
use Rattle.meta_types.proofs.Comparing.{same_bytes, same_prefix}
use Rattle.dvvset.specs.Object.{Entry}
use Rattle.frame_fields.specs.Field.{key_row_parts, prefix_row_parts}
use Rattle.frame_fields.specs.declared.keys.KeyDigest.{KeyDigest}
use Rattle.meta_frame.specs.declared.message.Message.{Message}
use Rattle.meta_frame.specs.declared.message.Message.TheVariants.{XRoot, XPrefixes, XObject, XWant}
use Rattle.meta_store.specs.Table.{IsTable, Table}
use Rattle.meta_store.proofs.Kept.{bytes_total, prefix_total}
use Rattle.hash_tree.specs.Tree.{Digest, DigestRows, bucket, in_leaf, inner_digest, inner_digests, leaf_digest, leaf_digests, leaf_of, object_digest, prefix_roots, rows_of, tree_root}
use Rattle.hash_tree.specs.Hashed.{Collides, rows_below}
use Rattle.hash_tree.proofs.ByLeaf.{listed_again}
use Rattle.hash_tree.proofs.Bytes.{one_of_256}
use Rattle.hash_tree.proofs.Lookups.{by_leaf, find_digested, find_own}
use Rattle.hash_tree.proofs.Collisions.{SameAt, key_by_inner, key_by_leaf, key_by_root, key_by_roots, object_same}
use Rattle.exchange.specs.Sides.{differ, differing_keys, differing_places, of_either, same_digest}
use Rattle.exchange.specs.Answers.{answers_to, answer_key, bucket_message, inner_message, leaves_message, object_if_held, object_messages, want_if_listed, want_messages}
use Rattle.exchange.specs.Whole.{answers_to_all, offers}
use Rattle.exchange.proofs.Members.{In, in_back, in_filter, in_flat_map, in_front, in_map, in_range}

-- ---- what differs stands among what is listed

not_false : (b : Bool) → not b ≡ false → b ≡ true
not_false true e = refl
not_false false e = absurd (cc)

alike_digests : (x y : Option Digest) → differ x y ≡ false → x ≡ y
alike_digests None None e = refl
alike_digests None (Some y) e = absurd (cc)
alike_digests (Some x) None e = absurd (cc)
alike_digests (Some x) (Some y) e = ap Some ((bytes_decides x y).0 (not_false (same_digest x y) e))

one_is_there : (x y : Option Digest) → differ x y ≡ true → (is_some x ≡ true) ⊎ (is_some y ≡ true)
one_is_there None None e = absurd (cc)
one_is_there None (Some y) e = inr refl
one_is_there (Some x) y e = inl refl

place_found : (theirs own : List Digest) (place : ℕ) → place < 16
    → (slice_get theirs place ≡ slice_get own place) ⊎ In place (differing_places theirs own)
place_found theirs own place less =
    elim (differ (slice_get theirs place) (slice_get own place)) as (λ b. differ (slice_get theirs place) (slice_get own place) ≡ b → (slice_get theirs place ≡ slice_get own place) ⊎ In place (differing_places theirs own)) [
      | true ↦ λ e. inr (in_filter (λ n. differ (slice_get theirs n) (slice_get own n)) place (range_with_len 0 16) (in_range 0 16 place (omega arith) (omega arith)) e)
      | false ↦ λ e. inl (alike_digests (slice_get theirs place) (slice_get own place) e)
    ] refl

place_of : {A : Type 0} (f : ℕ → A) (low count place n : ℕ) → place < count → low + place ≡ n → slice_get (map f (range_with_len low count)) place ≡ Some (f n)
place_of f low zero place n less e = absurd (omega arith)
place_of f low (suc count) zero n less e = let same : low ≡ n = omega arith in ap (λ m. Some (f m)) same
place_of f low (suc count) (suc place) n less e = place_of f (low + 1) count place n (omega arith) (omega arith)

module _ {K : Type 0} (R : K → K → Ordering) (o : IsTotalOrder R) (same : (x y : K) → R x y ≡ Equal → x ≡ y) where
  abbrev Rows : Type 0
  Rows = List (K × Digest)

  stands : (k : K) (rows : Rows) → is_some (find R k rows) ≡ true → In k (map (λ row. row.0) rows)
  stands k [] e = absurd (cc)
  stands k (row ∷ rows) e =
      elim (R k row.0) as (λ r. R k row.0 ≡ r → is_some (cond (is_eq r) (Some row.1) (find R k rows)) ≡ true → (row.0 ≡ k) ⊎ In k (map (λ row. row.0) rows)) [
        | Less ↦ λ is there. inr (stands k rows there)
        | Equal ↦ λ tied there. inl (sym (same k row.0 tied))
        | Greater ↦ λ is there. inr (stands k rows there)
      ] refl e

  put_there : (k l : K) (d : Digest) (rows : Rows) (b c : Bool) → is_eq (R k l) ≡ b → is_some (find R k rows) ≡ c → is_some (find R k (put R l d rows)) ≡ cond b true c
  put_there k l d rows b c e f =
      ap is_some (find-put R o k l d rows) ∙ ap (λ v. is_some (cond v (Some d) (find R k rows))) e
      ∙ elim b as (λ v. is_some (cond v (Some d) (find R k rows)) ≡ cond v true c) [ true ↦ refl | false ↦ f ]

  own_kept : (k : K) (theirs own : Rows) → is_some (find R k own) ≡ true → is_some (find R k (of_either R theirs own)) ≡ true
  own_kept k [] own e = e
  own_kept k (row ∷ theirs) own e =
      own_kept k theirs (put R row.0 row.1 own)
      (put_there k row.0 row.1 own (is_eq (R k row.0)) true refl e ∙ elim (is_eq (R k row.0)) as (λ b. cond b true true ≡ true) [ true ↦ refl | false ↦ refl ])

  theirs_kept : (k : K) (theirs own : Rows) → is_some (find R k theirs) ≡ true → is_some (find R k (of_either R theirs own)) ≡ true
  theirs_kept k [] own e = absurd (cc)
  theirs_kept k (row ∷ theirs) own e =
      elim (is_eq (R k row.0)) as (λ b. is_eq (R k row.0) ≡ b → is_some (cond b (Some row.1) (find R k theirs)) ≡ true → is_some (find R k (of_either R theirs (put R row.0 row.1 own))) ≡ true) [
        | true ↦ λ tied there. own_kept k theirs (put R row.0 row.1 own) (put_there k row.0 row.1 own true (is_some (find R k own)) tied refl)
        | false ↦ λ is there. theirs_kept k theirs (put R row.0 row.1 own) there
      ] refl e

  key_found : (k : K) (theirs own : Rows) → (find R k theirs ≡ find R k own) ⊎ In k (differing_keys R theirs own)
  key_found k theirs own =
      elim (differ (find R k theirs) (find R k own)) as (λ b. differ (find R k theirs) (find R k own) ≡ b → (find R k theirs ≡ find R k own) ⊎ In k (differing_keys R theirs own)) [
        | true ↦ λ e. inr (in_filter (λ l. differ (find R l theirs) (find R l own)) k (map (λ row. row.0) (of_either R theirs own))
            (stands k (of_either R theirs own) (⊎_elim (theirs_kept k theirs own) (own_kept k theirs own) (one_is_there (find R k theirs) (find R k own) e))) e)
        | false ↦ λ e. inl (alike_digests (find R k theirs) (find R k own) e)
      ] refl

-- ---- what is found among the keys of a leaf

abbrev listed : Table → Key → Option Digest
listed table k = find bytes_cmp k.key (map key_row_parts (bucket (rows_below k.prefix table) (leaf_of k.key)))

found_listed : (table : Table) (k : Key) → listed table k ≡ find key_cmp k (rows_of table)
found_listed table k =
    ap (find bytes_cmp k.key) (listed_again (in_leaf (leaf_of k.key) (rows_below k.prefix table)))
    ∙ by_leaf k.key (rows_below k.prefix table)
    ∙ sym (find_own k (rows_of table))

-- ---- the rounds

-- both tables have the same object under the key, or neither has one; or there is a collision
abbrev pub Alike : Table → Table → Key → Type 0
Alike here there k = (find key_cmp k here ≡ find key_cmp k there) ⊎ Collides here there

module _ (here there : Table) (table : IsTable here) (other : IsTable there) where
  abbrev a : DigestRows
  a = rows_of here

  abbrev b : DigestRows
  b = rows_of there

  abbrev first : List Message
  first = answers_to there (XRoot (tree_root a))

  abbrev second : List Message
  second = answers_to_all here first

  abbrev third : List Message
  third = answers_to_all there second

  abbrev fourth : List Message
  fourth = answers_to_all here third

  settled : (k : Key) → SameAt here there table other k → Alike here there k
  settled k same = ⊎_elim (object_same here there table other k) inr same

  found_root : (k : Key) → Alike here there k ⊎ In (XPrefixes (prefix_roots b)) first
  unfolding answers_to
  found_root k =
      elim (same_digest (tree_root a) (tree_root b)) as (λ v. same_digest (tree_root a) (tree_root b) ≡ v → Alike here there k ⊎ In (XPrefixes (prefix_roots b)) (cond v [] (XPrefixes (prefix_roots b) ∷ []))) [
        | true ↦ λ e. inl (settled k (key_by_root here there table other k ((bytes_decides (tree_root a) (tree_root b)).0 e)))
        | false ↦ λ e. inr (inl refl)
      ] refl

  found_prefix : (k : Key) → In (XPrefixes (prefix_roots b)) first → Alike here there k ⊎ In (inner_message here k.prefix) second
  unfolding answers_to
  found_prefix k is =
      ⊎_elim
      (λ same. inl (settled k (key_by_roots here there table other k (sym same))))
      (λ differs. inr (in_flat_map (answers_to here) (XPrefixes (prefix_roots b)) (inner_message here k.prefix) first is
      (in_map (inner_message here) k.prefix (differing_keys prefix_cmp (map prefix_row_parts (prefix_roots b)) (map prefix_row_parts (prefix_roots a))) differs)))
      (key_found prefix_cmp prefix_total same_prefix k.prefix (map prefix_row_parts (prefix_roots b)) (map prefix_row_parts (prefix_roots a)))

  found_inner : (k : Key) (inner : ℕ) → inner < 16 → leaf_of k.key / 16 ≡ inner → In (inner_message here k.prefix) second
      → Alike here there k ⊎ In (leaves_message there k.prefix inner) third
  unfolding answers_to
  found_inner k inner less at is =
      ⊎_elim
      (λ same.
      let told : Some (inner_digest (rows_below k.prefix here) inner) ≡ Some (inner_digest (rows_below k.prefix there) inner) =
      sym (place_of (inner_digest (rows_below k.prefix here)) 0 16 inner inner less (omega arith)) ∙ same
      ∙ place_of (inner_digest (rows_below k.prefix there)) 0 16 inner inner less (omega arith) in
      let digests : inner_digest (rows_below k.prefix here) inner ≡ inner_digest (rows_below k.prefix there) inner = cc in
      inl (settled k (key_by_inner here there table other k
      (subst (λ n. inner_digest (rows_below k.prefix here) n ≡ inner_digest (rows_below k.prefix there) n) (sym at) digests))))
      (λ differs. inr (in_flat_map (answers_to there) (inner_message here k.prefix) (leaves_message there k.prefix inner) second is
      (in_map (leaves_message there k.prefix) inner (differing_places (inner_digests (rows_below k.prefix here)) (inner_digests (rows_below k.prefix there))) differs)))
      (place_found (inner_digests (rows_below k.prefix here)) (inner_digests (rows_below k.prefix there)) inner less)

  found_leaf : (k : Key) (inner place : ℕ) → inner < 16 → place < 16 → leaf_of k.key ≡ 16 * inner + place → In (leaves_message there k.prefix inner) third
      → Alike here there k ⊎ In (bucket_message here k.prefix (16 * inner + place)) fourth
  unfolding answers_to
  found_leaf k inner place few less at is =
      ⊎_elim
      (λ same.
      let told : Some (leaf_digest (rows_below k.prefix there) (16 * inner + place)) ≡ Some (leaf_digest (rows_below k.prefix here) (16 * inner + place)) =
      sym (place_of (leaf_digest (rows_below k.prefix there)) (16 * inner) 16 place (16 * inner + place) less refl) ∙ same
      ∙ place_of (leaf_digest (rows_below k.prefix here)) (16 * inner) 16 place (16 * inner + place) less refl in
      let digests : leaf_digest (rows_below k.prefix here) (16 * inner + place) ≡ leaf_digest (rows_below k.prefix there) (16 * inner + place) = cc in
      inl (settled k (key_by_leaf here there table other k
      (subst (λ n. leaf_digest (rows_below k.prefix here) n ≡ leaf_digest (rows_below k.prefix there) n) (sym at) digests))))
      (λ differs. inr (in_flat_map (answers_to here) (leaves_message there k.prefix inner) (bucket_message here k.prefix (16 * inner + place)) third is
      (subst (λ v. In (bucket_message here k.prefix (16 * inner + place)) (cond v [] (map (λ n. bucket_message here k.prefix (16 * inner + n)) (differing_places (leaf_digests (rows_below k.prefix there) inner) (leaf_digests (rows_below k.prefix here) inner)))))
      (sym (lt-leb 16 inner few))
      (in_map (λ n. bucket_message here k.prefix (16 * inner + n)) place (differing_places (leaf_digests (rows_below k.prefix there) inner) (leaf_digests (rows_below k.prefix here) inner)) differs))))
      (place_found (leaf_digests (rows_below k.prefix there) inner) (leaf_digests (rows_below k.prefix here) inner) place less)

  found_keys : (k : Key) → Alike here there k ⊎ In (bucket_message here k.prefix (leaf_of k.key)) fourth
  found_keys k =
      let byte : leaf_of k.key < 256 = one_of_256 k.key in
      let few : leaf_of k.key / 16 < 16 = omega arith in
      let less : leaf_of k.key % 16 < 16 = omega arith in
      let at : leaf_of k.key ≡ 16 * (leaf_of k.key / 16) + leaf_of k.key % 16 = omega arith in
      ⊎_elim inl
      (λ roots. ⊎_elim inl
      (λ inners. ⊎_elim inl
      (λ leaves. ⊎_elim inl
      (λ keys. inr (subst (λ leaf. In (bucket_message here k.prefix leaf) fourth) (sym at) keys))
      (found_leaf k (leaf_of k.key / 16) (leaf_of k.key % 16) few less at leaves))
      (found_inner k (leaf_of k.key / 16) few refl inners))
      (found_prefix k roots))
      (found_root k)

  abbrev told_keys : Key → List KeyDigest
  told_keys k = bucket (rows_below k.prefix here) (leaf_of k.key)

  found : (k : Key) (message : Message) → In message (answer_key there (told_keys k) k) → Alike here there k ⊎ In message (offers here there)
  unfolding answers_to offers
  found k message is =
      ⊎_elim inl
      (λ keys. ⊎_elim
      (λ same. inl (settled k (inl (sym (found_listed here k) ∙ same ∙ found_listed there k))))
      (λ differs. inr (in_flat_map (answers_to there) (bucket_message here k.prefix (leaf_of k.key)) message fourth keys
      (in_flat_map (λ bytes. answer_key there (told_keys k) (record { prefix = k.prefix; key = bytes })) k.key message
      (differing_keys bytes_cmp (map key_row_parts (told_keys k)) (map key_row_parts (bucket (rows_below k.prefix there) (leaf_of k.key)))) differs is)))
      (key_found bytes_cmp bytes_total same_bytes k.key (map key_row_parts (told_keys k)) (map key_row_parts (bucket (rows_below k.prefix there) (leaf_of k.key)))))
      (found_keys k)

  -- the other side's object is offered, or the tables are alike at its key
  pub sent : (k : Key) (object : List Entry) → find key_cmp k there ≡ Some object → Alike here there k ⊎ In (XObject k object) (offers here there)
  sent k object e =
      found k (XObject k object)
      (in_front (XObject k object) (object_if_held there k) (want_if_listed (told_keys k) k)
      (subst (λ held. In (XObject k object) (object_messages k held)) (sym e) (inl refl)))

  -- ours is asked for, or the tables are alike at its key
  pub asked : (k : Key) (object : List Entry) → find key_cmp k here ≡ Some object → Alike here there k ⊎ In (XWant k) (offers here there)
  asked k object e =
      let told : listed here k ≡ Some (object_digest object) = found_listed here k ∙ find_digested k here ∙ ap (option_map object_digest) e in
      found k (XWant k)
      (in_back (XWant k) (object_if_held there k) (want_if_listed (told_keys k) k)
      (subst (λ digest. In (XWant k) (want_messages k digest)) (sym told) (inl refl)))
