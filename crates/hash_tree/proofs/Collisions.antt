-- Equal digests mean equal parts, or two byte strings that are hashed have one digest: from the
-- root of two tables' trees down to an object.
use Rattle.std.proofs.Common.{◌≡◌, ◌≢◌, ℕ, ◌+◌, ◌*◌, ◌/◌, ◌<◌, ◌≤◌, Bool, true, false, cond, List, [], ◌++◌, length, map, All, Option, Some, None, inl, inr, ⊎_elim, refl, sym, ap, ◌∙◌, arith}
use Rattle.std.specs.Prelude.{◌⊎◌, ◌==◌}
use Rattle.std.specs.List.{concat, filter}
use Rattle.std.specs.Option.{option_map, unwrap_or}
use Rattle.std.specs.declared.cmp.Ordering.{Ordering}
use Rattle.std.specs.declared.cmp.Ordering.TheVariants.{Less, Equal, Greater}
use Rattle.std.specs.Cmp.{tied_itself}
use Rattle.std.specs.FinMap.{find}
use Rattle.std.proofs.lemmas.List.Elements.{All-filter, All-map, All-weaker}
use Rattle.sha2.specs.Sha256.{sha256}
use Rattle.sha2.proofs.Facts256.{length-sha256}
use Rattle.meta_types.specs.Name.{Prefix, Key, IsKey}
use Rattle.meta_types.specs.Order.{bytes_cmp, key_cmp, prefix_cmp, prefix_eq}
use Rattle.dvvset.specs.Object.{Entry}
use Rattle.frame_fields.specs.Field.{key, object, prefix, prefix_row_parts}
use Rattle.frame_fields.specs.declared.prefixes.PrefixDigest.{PrefixDigest}
use Rattle.frame_fields.proofs.Spellable.{key_fits}
use Rattle.frame_readers.specs.Reader.{object_reader}
use Rattle.frame_readers.proofs.Fields.{object_reads}
use Rattle.meta_store.specs.Table.{IsTable, Table, prefixes_of}
use Rattle.meta_store.proofs.Kept.{bytes_total}
use Rattle.meta_store.proofs.Sizes.{held_fits}
use Rattle.meta_store.proofs.Tables.{found_row, same_table}
use Rattle.hash_tree.specs.Tree.{Digest, DigestRows, OwnRows, in_leaf, inner_digest, inner_digests, leaf_digest, leaf_digests, leaf_of, object_digest, own_rows, prefix_root, prefix_roots, roots_text, rows_of, text_of, tree_root}
use Rattle.hash_tree.specs.Hashed.{Collides, IsHashedOfEither, of_inner, of_leaf, of_object, of_prefix, of_root}
use Rattle.meta_types.proofs.Comparing.{same_bytes}
use Rattle.hash_tree.proofs.Bytes.{one_of_256}
use Rattle.hash_tree.proofs.Lookups.{All-dedup, by_leaf, every_key, find_digested, find_own, holds_a_key, no_own_rows, root_found}
use Rattle.hash_tree.proofs.Texts.{IsOwnRow, IsRootRow, form_apart, parts_same, roots_by_text, rows_by_text}

-- ---- the rows of a table's tree can be told from their texts

abbrev IsRow : Key × Digest → Type 0
IsRow row = key.Fits row.0 × (length row.1 ≡ 32)

digest_len : (es : List Entry) → length (object_digest es) ≡ 32
unfolding object_digest
digest_len es = length-sha256 _

rows_fit : (table : Table) → IsTable table → All IsRow (rows_of table)
rows_fit table is =
    All-map IsRow (λ row. (row.0, object_digest row.1)) table
    (All-weaker (λ (row : Key × List Entry). IsKey row.0) (λ row. IsRow (row.0, object_digest row.1)) (λ row keyed. (key_fits row.0 keyed, digest_len row.1)) table is.keys)

own_fit : (p : Prefix) (rows : DigestRows) → All IsRow rows → All IsOwnRow (own_rows p rows)
own_fit p rows fit =
    All-map IsOwnRow (λ row. (row.0.key, row.1)) (filter (λ (row : Key × Digest). prefix_eq p row.0.prefix) rows)
    (All-filter (λ (row : Key × Digest). prefix_eq p row.0.prefix) (λ row. IsOwnRow (row.0.key, row.1)) rows
    (All-weaker IsRow (λ row. IsOwnRow (row.0.key, row.1)) (λ row is. (is.0.1, is.1)) rows fit))

leaf_fit : (leaf : ℕ) (rows : OwnRows) → All IsOwnRow rows → All IsOwnRow (in_leaf leaf rows)
leaf_fit leaf rows fit = All-filter (λ (row : List ℕ × Digest). leaf == leaf_of row.0) IsOwnRow rows fit

root_len : (rows : OwnRows) → length (prefix_root rows) ≡ 32
unfolding prefix_root
root_len rows = length-sha256 _

roots_fit : (rows : DigestRows) → All IsRow rows → All IsRootRow (prefix_roots rows)
roots_fit rows fit =
    All-map IsRootRow (λ p. record { prefix = p; digest = prefix_root (own_rows p rows) }) (prefixes_of rows)
    (All-weaker prefix.Fits (λ p. IsRootRow (record { prefix = p; digest = prefix_root (own_rows p rows) })) (λ p fits. (fits, root_len (own_rows p rows))) (prefixes_of rows)
    (All-dedup prefix.Fits (map (λ row. row.0.prefix) rows)
    (All-map prefix.Fits (λ row. row.0.prefix) rows
    (All-weaker IsRow (λ row. prefix.Fits row.0.prefix) (λ row is. is.0.0) rows fit))))

-- ---- from one level to the next

leaf_len : (rows : OwnRows) (leaf : ℕ) → length (leaf_digest rows leaf) ≡ 32
unfolding leaf_digest
leaf_len rows leaf = length-sha256 _

inner_len : (rows : OwnRows) (inner : ℕ) → length (inner_digest rows inner) ≡ 32
unfolding inner_digest
inner_len rows inner = length-sha256 _

module _ (here there : Table) (table : IsTable here) (other : IsTable there) where
  abbrev H : List ℕ → Type 0
  H = IsHashedOfEither here there

  abbrev a : DigestRows
  a = rows_of here

  abbrev b : DigestRows
  b = rows_of there

  pub same_or_collides : (x y : List ℕ) → H x → H y → sha256 x ≡ sha256 y → (x ≡ y) ⊎ Collides here there
  same_or_collides x y hx hy e =
      let collides : (x ≢ y) → Collides here there = λ apart. record { one = x; other = y; one_is_hashed = hx; other_is_hashed = hy; unequal = apart; one_digest = e } in
      let apart : (r : Ordering) → bytes_cmp x y ≡ r → (Equal ≡ r → ⊥) → x ≢ y = λ r is clash same. clash (sym (tied_itself bytes_total x) ∙ ap (bytes_cmp x) same ∙ is) in
      elim (bytes_cmp x y) as (λ r. bytes_cmp x y ≡ r → (x ≡ y) ⊎ Collides here there) [
        | Less ↦ λ is. inr (collides (apart Less is (λ clash. cc)))
        | Equal ↦ λ tied. inl (same_bytes x y tied)
        | Greater ↦ λ is. inr (collides (apart Greater is (λ clash. cc)))
      ] refl

  pub leaf_same : (p : Prefix) (leaf : ℕ) → leaf < 256 → leaf_digest (own_rows p a) leaf ≡ leaf_digest (own_rows p b) leaf → (in_leaf leaf (own_rows p a) ≡ in_leaf leaf (own_rows p b)) ⊎ Collides here there
  unfolding leaf_digest
  leaf_same p leaf lt e =
      ⊎_elim
      (λ same. inl (rows_by_text (in_leaf leaf (own_rows p a)) (in_leaf leaf (own_rows p b)) (leaf_fit leaf (own_rows p a) (own_fit p a (rows_fit here table))) (leaf_fit leaf (own_rows p b) (own_fit p b (rows_fit there other))) same))
      inr
      (same_or_collides (text_of (in_leaf leaf (own_rows p a))) (text_of (in_leaf leaf (own_rows p b))) (inl (of_leaf p leaf lt)) (inr (of_leaf p leaf lt)) e)

  pub inner_same : (p : Prefix) (inner : ℕ) → inner < 16 → inner_digest (own_rows p a) inner ≡ inner_digest (own_rows p b) inner → ((leaf : ℕ) → 16 * inner ≤ leaf → leaf < 16 * inner + 16 → leaf_digest (own_rows p a) leaf ≡ leaf_digest (own_rows p b) leaf) ⊎ Collides here there
  unfolding inner_digest
  inner_same p inner lt e =
      ⊎_elim
      (λ same. inl (λ leaf least less. parts_same (leaf_digest (own_rows p a)) (leaf_digest (own_rows p b)) (λ n. leaf_len (own_rows p a) n ∙ sym (leaf_len (own_rows p b) n)) (16 * inner) 16 same leaf least less))
      inr
      (same_or_collides (concat (leaf_digests (own_rows p a) inner)) (concat (leaf_digests (own_rows p b) inner)) (inl (of_inner p inner lt)) (inr (of_inner p inner lt)) e)

  pub prefix_same : (p : Prefix) → prefix_root (own_rows p a) ≡ prefix_root (own_rows p b) → ((inner : ℕ) → inner < 16 → inner_digest (own_rows p a) inner ≡ inner_digest (own_rows p b) inner) ⊎ Collides here there
  unfolding prefix_root
  prefix_same p e =
      ⊎_elim
      (λ same. inl (λ inner lt. parts_same (inner_digest (own_rows p a)) (inner_digest (own_rows p b)) (λ n. inner_len (own_rows p a) n ∙ sym (inner_len (own_rows p b) n)) 0 16 same inner (omega arith) (omega arith)))
      inr
      (same_or_collides (concat (inner_digests (own_rows p a))) (concat (inner_digests (own_rows p b))) (inl (of_prefix p)) (inr (of_prefix p)) e)

  pub root_same : tree_root a ≡ tree_root b → (prefix_roots a ≡ prefix_roots b) ⊎ Collides here there
  unfolding tree_root
  root_same e =
      ⊎_elim
      (λ same. inl (roots_by_text (prefix_roots a) (prefix_roots b) (roots_fit a (rows_fit here table)) (roots_fit b (rows_fit there other)) same))
      inr
      (same_or_collides (roots_text (prefix_roots a)) (roots_text (prefix_roots b)) (inl of_root) (inr of_root) e)

  -- ---- what follows for one key

  -- both trees have the same digest under the key, or neither has one; or there is a collision
  abbrev pub SameAt : Key → Type 0
  SameAt k = (find key_cmp k a ≡ find key_cmp k b) ⊎ Collides here there

  -- what is found in a leaf
  found_in_leaf : (k : Key) (rows : DigestRows) → find key_cmp k rows ≡ find bytes_cmp k.key (in_leaf (leaf_of k.key) (own_rows k.prefix rows))
  found_in_leaf k rows = find_own k rows ∙ sym (by_leaf k.key (own_rows k.prefix rows))

  pub by_same_leaf : (k : Key) → in_leaf (leaf_of k.key) (own_rows k.prefix a) ≡ in_leaf (leaf_of k.key) (own_rows k.prefix b) → find key_cmp k a ≡ find key_cmp k b
  by_same_leaf k e = found_in_leaf k a ∙ ap (find bytes_cmp k.key) e ∙ sym (found_in_leaf k b)

  pub key_by_leaf : (k : Key) → leaf_digest (own_rows k.prefix a) (leaf_of k.key) ≡ leaf_digest (own_rows k.prefix b) (leaf_of k.key) → SameAt k
  key_by_leaf k e = ⊎_elim (λ same. inl (by_same_leaf k same)) inr (leaf_same k.prefix (leaf_of k.key) (one_of_256 k.key) e)

  pub key_by_inner : (k : Key) → inner_digest (own_rows k.prefix a) (leaf_of k.key / 16) ≡ inner_digest (own_rows k.prefix b) (leaf_of k.key / 16) → SameAt k
  key_by_inner k e =
      let byte : leaf_of k.key < 256 = one_of_256 k.key in
      ⊎_elim
      (λ same. key_by_leaf k (same (leaf_of k.key) (omega arith) (omega arith)))
      inr
      (inner_same k.prefix (leaf_of k.key / 16) (omega arith) e)

  pub key_by_prefix : (k : Key) → prefix_root (own_rows k.prefix a) ≡ prefix_root (own_rows k.prefix b) → SameAt k
  key_by_prefix k e =
      let byte : leaf_of k.key < 256 = one_of_256 k.key in
      ⊎_elim (λ same. key_by_inner k (same (leaf_of k.key / 16) (omega arith))) inr (prefix_same k.prefix e)

  -- the root of a full prefix, if it holds a key, among those that XPREFIXES carries
  abbrev pub root_in : Prefix → List PrefixDigest → Option Digest
  root_in p roots = find prefix_cmp p (map prefix_row_parts roots)

  pub key_by_roots : (k : Key) → root_in k.prefix (prefix_roots a) ≡ root_in k.prefix (prefix_roots b) → SameAt k
  key_by_roots k e =
      by_cases k (holds_a_key k.prefix a) (holds_a_key k.prefix b) refl refl (sym (root_found k.prefix a) ∙ e ∙ root_found k.prefix b) where
        by_cases : (k : Key) (x y : Bool) → holds_a_key k.prefix a ≡ x → holds_a_key k.prefix b ≡ y
            → cond x (Some (prefix_root (own_rows k.prefix a))) None ≡ cond y (Some (prefix_root (own_rows k.prefix b))) None → SameAt k
        by_cases k true true here_too there_too same = key_by_prefix k (let e : prefix_root (own_rows k.prefix a) ≡ prefix_root (own_rows k.prefix b) = cc in e)
        by_cases k true false here_too not_there same = absurd (cc)
        by_cases k false true not_here there_too same = absurd (cc)
        by_cases k false false not_here not_there same =
            inl (find_own k a ∙ ap (find bytes_cmp k.key) (no_own_rows k.prefix a not_here ∙ sym (no_own_rows k.prefix b not_there)) ∙ sym (find_own k b))

  pub key_by_root : (k : Key) → tree_root a ≡ tree_root b → SameAt k
  key_by_root k e = ⊎_elim (λ same. key_by_roots k (ap (root_in k.prefix) same)) inr (root_same e)

  -- ---- from digests to objects

  objects_same : (k : Key) (x y : Option (List Entry)) → find key_cmp k here ≡ x → find key_cmp k there ≡ y
      → option_map object_digest x ≡ option_map object_digest y → (x ≡ y) ⊎ Collides here there
  unfolding object_digest
  objects_same k None None e f same = inl refl
  objects_same k None (Some fs) e f same = absurd (cc)
  objects_same k (Some es) None e f same = absurd (cc)
  objects_same k (Some es) (Some fs) e f same =
      let digests : sha256 (object.spell es) ≡ sha256 (object.spell fs) = cc in
      let fits : object.Fits es = held_fits es (found_row k here es table.held table.keys e).held in
      let others : object.Fits fs = held_fits fs (found_row k there fs other.held other.keys f).held in
      ⊎_elim
      (λ spelled. inl (ap Some (form_apart object object_reader object_reads es fs [] [] fits others (ap (λ bytes. bytes ++ []) spelled)).0))
      inr
      (same_or_collides (object.spell es) (object.spell fs) (inl (of_object k es e)) (inr (of_object k fs f)) digests)

  pub object_same : (k : Key) → find key_cmp k a ≡ find key_cmp k b → (find key_cmp k here ≡ find key_cmp k there) ⊎ Collides here there
  object_same k e =
      objects_same k (find key_cmp k here) (find key_cmp k there) refl refl (sym (find_digested k here) ∙ e ∙ find_digested k there)

  -- equal roots mean equal tables, or a collision
  pub tables_same : tree_root a ≡ tree_root b → (here ≡ there) ⊎ Collides here there
  tables_same e =
      ⊎_elim
      (λ same. inl (same_table here there table other (λ k keyed. ap (λ x. unwrap_or x []) (same k))))
      inr
      (every_key here there (λ k. find key_cmp k here ≡ find key_cmp k there) (Collides here there)
      (λ k. ⊎_elim (object_same k) inr (key_by_root k e))
      (λ k none_here none_there. none_here ∙ sym none_there))
