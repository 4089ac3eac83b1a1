-- What a tree tells fits the fields of frames.
use Rattle.std.proofs.Common.{◌≡◌, ℕ, zero, suc, ◌<◌, ◌≤◌, Bool, true, false, cond, T, List, [], ◌∷◌, length, map, get_or, All, refl, sym, ap, subst, add-one, arith}
use Rattle.std.specs.Bool.{passes}
use Rattle.std.specs.List.{dedup, dedup_from, filter}
use Rattle.std.specs.declared.cmp.Ordering.{Ordering}
use Rattle.std.specs.declared.cmp.Ordering.TheVariants.{Less}
use Rattle.std.specs.Ordering.{is_lt}
use Rattle.std.specs.FinMap.{is_sorted}
use Rattle.std.specs.FinMap.Entries.{below_all}
use Rattle.std.proofs.lemmas.List.Elements.{All-filter, All-map, All-weaker}
use Rattle.sha2.proofs.Facts256.{length-sha256}
use Rattle.std.specs.Prelude.{◌==◌}
use Rattle.meta_types.specs.Name.{Prefix, Key, IsFullPrefix, IsKey}
use Rattle.meta_types.specs.Order.{BytesBefore, PrefixBefore, bytes_cmp, prefix_cmp, prefix_eq}
use Rattle.meta_types.proofs.Comparing.{bytes_before, prefix_before}
use Rattle.dvvset.specs.Object.{Entry}
use Rattle.frame_fields.specs.Field.{key_row_parts, keys, prefix_row_parts, prefixes}
use Rattle.frame_fields.specs.Rising.{IsKeyRow, IsPrefixRow, IsRising}
use Rattle.frame_fields.specs.declared.keys.KeyDigest.{KeyDigest}
use Rattle.frame_fields.specs.declared.prefixes.PrefixDigest.{PrefixDigest}
use Rattle.frame_fields.proofs.Ordered.{keys_rise, prefixes_rise}
use Rattle.meta_store.specs.Table.{IsTable, Table, prefixes_of}
use Rattle.meta_store.proofs.Maps.{first, is_less, second}
use Rattle.hash_tree.specs.Tree.{Digest, DigestRows, OwnRows, bucket, in_leaf, leaf_of, object_digest, own_rows, prefix_root, prefix_roots, rows_of}
use Rattle.hash_tree.specs.Hashed.{rows_below}
use Rattle.hash_tree.specs.Rising.{do_keys_rise, do_prefixes_rise}
use Rattle.hash_tree.proofs.Lookups.{All-dedup}

-- ---- few

length_map : {A B : Type 0} (f : A → B) (xs : List A) → length (map f xs) ≡ length xs
length_map f [] = refl
length_map f (x ∷ xs) = ap suc (length_map f xs)

length_filter : {A : Type 0} (p : A → Bool) (xs : List A) → length (filter p xs) ≤ length xs
length_filter p [] = omega arith
length_filter p (x ∷ xs) =
    let less : length (filter p xs) ≤ length xs = length_filter p xs in
    elim (p x) as (λ b. length (cond b (x ∷ filter p xs) (filter p xs)) ≤ suc (length xs)) [
      | true ↦ omega arith
      | false ↦ omega arith
    ]

length_dedup_from : (q : Prefix) (ps : List Prefix) → length (dedup_from prefix_eq q ps) ≤ suc (length ps)
length_dedup_from q [] = omega arith
length_dedup_from q (p ∷ ps) =
    let same : length (dedup_from prefix_eq q ps) ≤ suc (length ps) = length_dedup_from q ps in
    let other : length (dedup_from prefix_eq p ps) ≤ suc (length ps) = length_dedup_from p ps in
    elim (prefix_eq p q) as (λ b. length (cond b (dedup_from prefix_eq q ps) (q ∷ dedup_from prefix_eq p ps)) ≤ suc (suc (length ps))) [
      | true ↦ omega arith
      | false ↦ omega arith
    ]

length_dedup : (ps : List Prefix) → length (dedup prefix_eq ps) ≤ length ps
length_dedup [] = omega arith
length_dedup (p ∷ ps) = length_dedup_from p ps

-- ---- rising

abbrev rises : {A K : Type 0} → (K → K → Ordering) → (A → K × Digest) → List A → Bool
rises cmp parts xs = is_sorted cmp (map parts xs)

next_place : {A K : Type 0} (cmp : K → K → Ordering) (parts : A → K × Digest) (xs : List A) → T (rises cmp parts xs) → (i : ℕ) (d : A) → suc i < length xs
    → cmp (parts (get_or xs i d)).0 (parts (get_or xs (suc i) d)).0 ≡ Less
next_place cmp parts [] rising i d lt = absurd (omega arith)
next_place cmp parts (x ∷ []) rising i d lt = absurd (omega arith)
next_place cmp parts (x ∷ y ∷ ys) rising zero d lt =
    let below : T (below_all cmp (parts x).0 (map parts (y ∷ ys))) = first (below_all cmp (parts x).0 (map parts (y ∷ ys))) (rises cmp parts (y ∷ ys)) rising in
    is_less (cmp (parts x).0 (parts y).0) (first (is_lt (cmp (parts x).0 (parts y).0)) (below_all cmp (parts x).0 (map parts ys)) below)
next_place cmp parts (x ∷ y ∷ ys) rising (suc i) d lt =
    next_place cmp parts (y ∷ ys) (second (below_all cmp (parts x).0 (map parts (y ∷ ys))) (rises cmp parts (y ∷ ys)) rising) i d (omega arith)

keys_next : (rows : List KeyDigest) → do_keys_rise rows ≡ true → IsRising (λ row next. BytesBefore row.key next.key) rows
keys_next rows rising i d lt =
    let less = next_place bytes_cmp key_row_parts rows (passes (do_keys_rise rows) rising) i d (omega arith) in
    let next : BytesBefore (get_or rows i d).key (get_or rows (suc i) d).key = (bytes_before (bytes_cmp (get_or rows i d).key (get_or rows (suc i) d).key) (get_or rows i d).key (get_or rows (suc i) d).key refl).0 less in
    subst (λ j. BytesBefore (get_or rows i d).key (get_or rows j d).key) (sym (add-one i)) next

prefixes_next : (rows : List PrefixDigest) → do_prefixes_rise rows ≡ true → IsRising (λ row next. PrefixBefore row.prefix next.prefix) rows
prefixes_next rows rising i d lt =
    let less = next_place prefix_cmp prefix_row_parts rows (passes (do_prefixes_rise rows) rising) i d (omega arith) in
    let next : PrefixBefore (get_or rows i d).prefix (get_or rows (suc i) d).prefix = (prefix_before (prefix_cmp (get_or rows i d).prefix (get_or rows (suc i) d).prefix) (get_or rows i d).prefix (get_or rows (suc i) d).prefix refl).0 less in
    subst (λ j. PrefixBefore (get_or rows i d).prefix (get_or rows j d).prefix) (sym (add-one i)) next

-- ---- the rows of a table's tree

abbrev IsRow : Key × Digest → Type 0
IsRow row = IsKey row.0 × (length row.1 ≡ 32)

digest_len : (es : List Entry) → length (object_digest es) ≡ 32
unfolding object_digest
digest_len es = length-sha256 _

root_len : (rows : OwnRows) → length (prefix_root rows) ≡ 32
unfolding prefix_root
root_len rows = length-sha256 _

are_rows : (table : Table) → IsTable table → All IsRow (rows_of table)
are_rows table is =
    All-map IsRow (λ row. (row.0, object_digest row.1)) table
    (All-weaker (λ (row : Key × List Entry). IsKey row.0) (λ row. IsRow (row.0, object_digest row.1)) (λ row keyed. (keyed, digest_len row.1)) table is.keys)

module _ (table : Table) (is : IsTable table) where
  abbrev rows : DigestRows
  rows = rows_of table

  few_rows : length rows ≤ 8192
  few_rows = let few : length table ≤ 8192 = is.few in omega (arith, length_map {B = Key × Digest} (λ (row : Key × List Entry). (row.0, object_digest row.1)) table)

  few_keys : (p : Prefix) (leaf : ℕ) → length (bucket (rows_below p table) leaf) ≤ 8192
  few_keys p leaf =
      omega (
        arith,
        few_rows,
        length_map {B = KeyDigest} (λ (row : List ℕ × Digest). record { key = row.0; digest = row.1 }) (in_leaf leaf (own_rows p rows)),
        length_filter (λ (row : List ℕ × Digest). leaf == leaf_of row.0) (own_rows p rows),
        length_map {B = List ℕ × Digest} (λ (row : Key × Digest). (row.0.key, row.1)) (filter (λ (row : Key × Digest). prefix_eq p row.0.prefix) rows),
        length_filter (λ (row : Key × Digest). prefix_eq p row.0.prefix) rows,
      )

  lawful_keys : (p : Prefix) (leaf : ℕ) → All IsKeyRow (bucket (rows_below p table) leaf)
  lawful_keys p leaf =
      All-map IsKeyRow (λ row. record { key = row.0; digest = row.1 }) (in_leaf leaf (own_rows p rows))
      (All-filter (λ (row : List ℕ × Digest). leaf == leaf_of row.0) (λ row. IsKeyRow (record { key = row.0; digest = row.1 })) (own_rows p rows)
      (All-map (λ row. IsKeyRow (record { key = row.0; digest = row.1 })) (λ row. (row.0.key, row.1)) (filter (λ (row : Key × Digest). prefix_eq p row.0.prefix) rows)
      (All-filter (λ (row : Key × Digest). prefix_eq p row.0.prefix) (λ row. IsKeyRow (record { key = row.0.key; digest = row.1 })) rows
      (All-weaker IsRow (λ row. IsKeyRow (record { key = row.0.key; digest = row.1 })) (λ row lawful. record { key = lawful.0.1; digest = lawful.1 }) rows (are_rows table is)))))

  pub keys_fit : (p : Prefix) (leaf : ℕ) (told : List KeyDigest) → told ≡ bucket (rows_below p table) leaf → do_keys_rise told ≡ true → keys.Fits told
  keys_fit p leaf told same rising =
      (keys_rise told).1 (record {
        few = subst (λ xs. length xs ≤ 8192) (sym same) (few_keys p leaf);
        lawful = subst (All IsKeyRow) (sym same) (lawful_keys p leaf);
        rising = keys_next told rising;
      })

  few_prefixes : length (prefix_roots rows) ≤ 8192
  few_prefixes =
      omega (
        arith,
        few_rows,
        length_map {B = PrefixDigest} (λ p. record { prefix = p; digest = prefix_root (own_rows p rows) }) (prefixes_of rows),
        length_dedup (map (λ (row : Key × Digest). row.0.prefix) rows),
        length_map {B = Prefix} (λ (row : Key × Digest). row.0.prefix) rows,
      )

  lawful_prefixes : All IsPrefixRow (prefix_roots rows)
  lawful_prefixes =
      All-map IsPrefixRow (λ p. record { prefix = p; digest = prefix_root (own_rows p rows) }) (prefixes_of rows)
      (All-weaker IsFullPrefix (λ p. IsPrefixRow (record { prefix = p; digest = prefix_root (own_rows p rows) })) (λ p lawful. record { prefix = lawful; digest = root_len (own_rows p rows) }) (prefixes_of rows)
      (All-dedup IsFullPrefix (map (λ row. row.0.prefix) rows)
      (All-map IsFullPrefix (λ row. row.0.prefix) rows
      (All-weaker IsRow (λ row. IsFullPrefix row.0.prefix) (λ row lawful. lawful.0.0) rows (are_rows table is)))))

  pub prefixes_fit : (told : List PrefixDigest) → told ≡ prefix_roots rows → do_prefixes_rise told ≡ true → prefixes.Fits told
  prefixes_fit told same rising =
      (prefixes_rise told).1 (record {
        few = subst (λ xs. length xs ≤ 8192) (sym same) few_prefixes;
        lawful = subst (All IsPrefixRow) (sym same) lawful_prefixes;
        rising = prefixes_next told rising;
      })
