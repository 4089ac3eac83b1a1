-- What the tree of a table tells fits the fields of frames.
use Rattle.std.proofs.Common.{◌≡◌, ◌≢◌, ℕ, zero, suc, ◌*◌, ◌<◌, ◌≤◌, Bool, true, false, cond, ◌&&◌, T, List, [], ◌∷◌, length, map, get_or, All, refl, sym, ap, subst, ◌∙◌, arith, add-one}
use Rattle.std.specs.Prelude.{◌==◌}
use Rattle.std.specs.Bool.{passes}
use Rattle.std.specs.List.{dedup, dedup_from, filter, range_with_len}
use Rattle.std.specs.Ordering.{is_eq, is_lt, ordering_then}
use Rattle.std.specs.declared.cmp.Ordering.{Ordering}
use Rattle.std.specs.declared.cmp.Ordering.TheVariants.{Less, Equal, Greater}
use Rattle.std.specs.Cmp.{tied_itself}
use Rattle.std.specs.FinMap.{is_sorted, put}
use Rattle.std.specs.FinMap.Entries.{below_all, by_order, is_sorted-where_key}
use Rattle.std.proofs.lemmas.List.{length-map}
use Rattle.std.proofs.lemmas.List.FromFn.{length-range_with_len}
use Rattle.std.proofs.lemmas.List.Elements.{All-filter, All-map, All-nil, All-weaker}
use Rattle.sha2.proofs.Facts256.{length-sha256}
use Rattle.meta_types.specs.Name.{IsFullPrefix, IsKey, Key, Prefix}
use Rattle.meta_types.specs.Order.{BytesBefore, PrefixBefore, bytes_cmp, key_cmp, prefix_cmp, prefix_eq}
use Rattle.meta_types.proofs.Comparing.{bytes_before, prefix_before, same_prefix}
use Rattle.dvvset.specs.Object.{Entry}
use Rattle.frame_fields.specs.Form.{EachFits}
use Rattle.frame_fields.specs.Field.{digest, digests, forget, key_row_parts, keys, no_state, prefix_row_parts, prefixes}
use Rattle.frame_fields.specs.Rising.{IsKeyRow, IsPrefixRow, IsRising}
use Rattle.frame_fields.specs.declared.keys.KeyDigest.{KeyDigest}
use Rattle.frame_fields.specs.declared.prefixes.PrefixDigest.{PrefixDigest}
use Rattle.frame_fields.proofs.Ordered.{keys_rise, prefixes_rise}
use Rattle.meta_store.specs.Kept.{PartsOf, rows_at, table_of}
use Rattle.meta_store.specs.Table.{IsTable, Table, prefixes_of}
use Rattle.meta_store.proofs.Kept.{prefix_total}
use Rattle.meta_store.proofs.Maps.{first, is_less, is_true, second}
use Rattle.hash_tree.specs.Kept.{AreTreeParts}
use Rattle.hash_tree.specs.Tree.{Digest, DigestRows, OwnRows, bucket, in_leaf, inner_digest, inner_digests, leaf_digest, leaf_digests, leaf_of, object_digest, own_rows, prefix_root, prefix_roots, rows_of, tree_root}
use Rattle.hash_tree.specs.Hashed.{rows_below}
use Rattle.hash_tree.specs.Rising.{do_keys_rise, do_prefixes_rise}
use Rattle.hash_tree.proofs.ByLeaf.{listed_again}
use Rattle.hash_tree.proofs.ByPrefix.{parts_put, roots_of_parts, roots_rise, table_put}
use Rattle.hash_tree.proofs.Lookups.{All-dedup}

-- ---- digests

object_digest_len : (es : List Entry) → length (object_digest es) ≡ 32
unfolding object_digest
object_digest_len es = length-sha256 _

leaf_digest_len : (rows : OwnRows) (leaf : ℕ) → length (leaf_digest rows leaf) ≡ 32
unfolding leaf_digest
leaf_digest_len rows leaf = length-sha256 _

inner_digest_len : (rows : OwnRows) (inner : ℕ) → length (inner_digest rows inner) ≡ 32
unfolding inner_digest
inner_digest_len rows inner = length-sha256 _

prefix_root_len : (rows : OwnRows) → length (prefix_root rows) ≡ 32
unfolding prefix_root
prefix_root_len rows = length-sha256 _

pub tree_root_len : (rows : DigestRows) → length (tree_root rows) ≡ 32
unfolding tree_root
tree_root_len rows = length-sha256 _

each_digest_fits : (f : ℕ → Digest) → ((n : ℕ) → length (f n) ≡ 32) → (ns : List ℕ)
    → EachFits (λ (_ : ℕ). digest) forget no_state (map f ns)
each_digest_fits f len [] = tt
each_digest_fits f len (n ∷ ns) = (len n, each_digest_fits f len ns)

sixteen_fit : (f : ℕ → Digest) → ((n : ℕ) → length (f n) ≡ 32) → (low : ℕ) → digests.Fits (map f (range_with_len low 16))
sixteen_fit f len low =
    (length-map (range_with_len low 16) f ∙ length-range_with_len low 16, each_digest_fits f len (range_with_len low 16))

pub inner_fit : (rows : OwnRows) → digests.Fits (inner_digests rows)
inner_fit rows = sixteen_fit (inner_digest rows) (inner_digest_len rows) 0

pub leaves_fit : (rows : OwnRows) (inner : ℕ) → digests.Fits (leaf_digests rows inner)
leaves_fit rows inner = sixteen_fit (leaf_digest rows) (leaf_digest_len rows) (16 * inner)

-- ---- few

length_filter : {A : Type 0} (p : A → Bool) (xs : List A) → length (filter p xs) ≤ length xs
length_filter p [] = omega arith
length_filter p (x ∷ xs) =
    let less : length (filter p xs) ≤ length xs = length_filter p xs in
    elim (p x) as (λ b. length (cond b (x ∷ filter p xs) (filter p xs)) ≤ suc (length xs)) [
      | true ↦ omega arith
      | false ↦ omega arith
    ]

length_dedup_from : (q : Prefix) (ps : List Prefix) → length (dedup_from prefix_eq q ps) ≤ suc (length ps)
length_dedup_from q [] = omega arith
length_dedup_from q (p ∷ ps) =
    let same : length (dedup_from prefix_eq q ps) ≤ suc (length ps) = length_dedup_from q ps in
    let other : length (dedup_from prefix_eq p ps) ≤ suc (length ps) = length_dedup_from p ps in
    elim (prefix_eq p q) as (λ b. length
    (cond b (dedup_from prefix_eq q ps) (q ∷ dedup_from prefix_eq p ps)) ≤ suc (suc (length ps))) [
      | true ↦ omega arith
      | false ↦ omega arith
    ]

length_dedup : (ps : List Prefix) → length (dedup prefix_eq ps) ≤ length ps
length_dedup [] = omega arith
length_dedup (p ∷ ps) = length_dedup_from p ps

-- ---- rising

abbrev rises : {A K : Type 0} → (K → K → Ordering) → (A → K × Digest) → List A → Bool
rises cmp parts xs = is_sorted cmp (map parts xs)

next_place : {A K : Type 0} (cmp : K → K → Ordering) (parts : A → K × Digest) (xs : List A) → T (rises cmp parts xs)
    → (i : ℕ) (d : A) → suc i < length xs
    → cmp (parts (get_or xs i d)).0 (parts (get_or xs (suc i) d)).0 ≡ Less
next_place cmp parts [] rising i d lt = absurd (omega arith)
next_place cmp parts (x ∷ []) rising i d lt = absurd (omega arith)
next_place cmp parts (x ∷ y ∷ ys) rising zero d lt =
    let below : T (below_all cmp (parts x).0 (map parts (y ∷ ys))) =
    first (below_all cmp (parts x).0 (map parts (y ∷ ys))) (rises cmp parts (y ∷ ys)) rising in
    is_less (cmp (parts x).0 (parts y).0)
    (first (is_lt (cmp (parts x).0 (parts y).0)) (below_all cmp (parts x).0 (map parts ys)) below)
next_place cmp parts (x ∷ y ∷ ys) rising (suc i) d lt =
    next_place cmp parts (y ∷ ys) (second (below_all cmp (parts x).0 (map parts (y ∷ ys))) (rises cmp parts (y ∷ ys)) rising) i d
    (omega arith)

keys_next : (rows : List KeyDigest) → do_keys_rise rows ≡ true → IsRising (λ row next. BytesBefore row.key next.key) rows
keys_next rows rising i d lt =
    let less = next_place bytes_cmp key_row_parts rows (passes (do_keys_rise rows) rising) i d (omega arith) in
    let next : BytesBefore (get_or rows i d).key (get_or rows (suc i) d).key =
    (bytes_before (bytes_cmp (get_or rows i d).key (get_or rows (suc i) d).key) (get_or rows i d).key
    (get_or rows (suc i) d).key refl).0 less in
    subst (λ j. BytesBefore (get_or rows i d).key (get_or rows j d).key) (sym (add-one i)) next

prefixes_next : (rows : List PrefixDigest) → do_prefixes_rise rows ≡ true
    → IsRising (λ row next. PrefixBefore row.prefix next.prefix) rows
prefixes_next rows rising i d lt =
    let less = next_place prefix_cmp prefix_row_parts rows (passes (do_prefixes_rise rows) rising) i d (omega arith) in
    let next : PrefixBefore (get_or rows i d).prefix (get_or rows (suc i) d).prefix =
    (prefix_before (prefix_cmp (get_or rows i d).prefix (get_or rows (suc i) d).prefix) (get_or rows i d).prefix
    (get_or rows (suc i) d).prefix refl).0 less in
    subst (λ j. PrefixBefore (get_or rows i d).prefix (get_or rows j d).prefix) (sym (add-one i)) next

-- ---- the rows of one full prefix rise by the keys' own bytes

abbrev own_row : Key × Digest → List ℕ × Digest
own_row row = (row.0.key, row.1)

both_so : (a b : Bool) → T a → T b → T (a && b)
both_so true b one other = other
both_so false b one other = absurd one

tied : (r : Ordering) → is_eq r ≡ true → r ≡ Equal
tied Less e = absurd (cc)
tied Equal e = refl
tied Greater e = absurd (cc)

-- under one full prefix the keys' own bytes decide
own_less : (k l : Key) → k.prefix ≡ l.prefix → T (is_lt (key_cmp k l)) → T (is_lt (bytes_cmp k.key l.key))
own_less k l same less =
    subst (λ r. T (is_lt (ordering_then r (bytes_cmp k.key l.key))))
    (ap (prefix_cmp k.prefix) (sym same) ∙ tied_itself prefix_total k.prefix) less

module _ (p : Prefix) where
  abbrev of_prefix : DigestRows → DigestRows
  of_prefix rows = filter (λ row. prefix_eq p row.0.prefix) rows

  own_below : (k : Key) (rows : DigestRows) → p ≡ k.prefix → T (below_all key_cmp k rows)
      → T (below_all bytes_cmp k.key (own_rows p rows))
  own_below k [] of below = tt
  own_below k (row ∷ rows) of below =
      let later = own_below k rows of (second (is_lt (key_cmp k row.0)) (below_all key_cmp k rows) below) in
      elim (prefix_eq p row.0.prefix) as (λ b. prefix_eq p row.0.prefix ≡ b
      → T (below_all bytes_cmp k.key (map own_row (cond b (row ∷ of_prefix rows) (of_prefix rows))))) [
        | true ↦ λ e.
            let same : p ≡ row.0.prefix = same_prefix p row.0.prefix (tied (prefix_cmp p row.0.prefix) e) in
            both_so (is_lt (bytes_cmp k.key row.0.key)) (below_all bytes_cmp k.key (own_rows p rows))
            (own_less k row.0 (sym of ∙ same) (first (is_lt (key_cmp k row.0)) (below_all key_cmp k rows) below)) later
        | false ↦ λ e. later
      ] refl

  own_sorted : (rows : DigestRows) → T (is_sorted key_cmp rows) → T (is_sorted bytes_cmp (own_rows p rows))
  own_sorted [] sorted = tt
  own_sorted (row ∷ rows) sorted =
      let below = first (below_all key_cmp row.0 rows) (is_sorted key_cmp rows) sorted in
      let later = own_sorted rows (second (below_all key_cmp row.0 rows) (is_sorted key_cmp rows) sorted) in
      elim (prefix_eq p row.0.prefix) as (λ b. prefix_eq p row.0.prefix ≡ b
      → T (is_sorted bytes_cmp (map own_row (cond b (row ∷ of_prefix rows) (of_prefix rows))))) [
        | true ↦ λ e.
            let same : p ≡ row.0.prefix = same_prefix p row.0.prefix (tied (prefix_cmp p row.0.prefix) e) in
            both_so (below_all bytes_cmp row.0.key (own_rows p rows)) (is_sorted bytes_cmp (own_rows p rows))
            (own_below row.0 rows same below) later
        | false ↦ λ e. later
      ] refl

  pub bucket_rises : (leaf : ℕ) (rows : DigestRows) → T (is_sorted key_cmp rows)
      → do_keys_rise (bucket (own_rows p rows) leaf) ≡ true
  bucket_rises leaf rows sorted =
      is_true (do_keys_rise (bucket (own_rows p rows) leaf))
      (subst (λ xs. T (is_sorted bytes_cmp xs)) (sym (listed_again (in_leaf leaf (own_rows p rows))))
      (is_sorted-where_key bytes_cmp (λ k. leaf == leaf_of k) (own_rows p rows) (own_sorted rows sorted)))

-- ---- full prefixes rise: rows that rise are those of parts

abbrev Parts : Type 0
Parts = PartsOf Digest

put_first : (k : Key) (d : Digest) (rows : DigestRows) → T (below_all key_cmp k rows) → put key_cmp k d rows ≡ (k, d) ∷ rows
put_first k d [] below = refl
put_first k d (row ∷ rows) below =
    ap (λ r. by_order r ((k, d) ∷ row ∷ rows) ((row.0, d) ∷ rows) (row ∷ put key_cmp k d rows))
    (is_less (key_cmp k row.0) (first (is_lt (key_cmp k row.0)) (below_all key_cmp k rows) below))

record HasParts (rows : DigestRows) : Type 0 where
  parts : Parts
  are : AreTreeParts parts
  same : table_of parts ≡ rows

has_parts : (rows : DigestRows) → T (is_sorted key_cmp rows) → HasParts rows
has_parts [] sorted =
    record { parts = []; are = record { rising = refl; filled = All-nil (λ (part : Prefix × OwnRows). part.1 ≢ []) }; same = refl }
has_parts (row ∷ rows) sorted =
    let below = first (below_all key_cmp row.0 rows) (is_sorted key_cmp rows) sorted in
    let later = has_parts rows (second (below_all key_cmp row.0 rows) (is_sorted key_cmp rows) sorted) in
    let k = row.0 in
    let new : Parts = put prefix_cmp k.prefix (put bytes_cmp k.key row.1 (rows_at k.prefix later.parts)) later.parts in
    record {
      parts = new;
      are = parts_put k row.1 later.parts new later.are refl;
      same = table_put k row.1 later.parts new later.are refl ∙ ap (put key_cmp k row.1) later.same ∙ put_first k row.1 rows below;
    }

roots_sorted : (rows : DigestRows) → T (is_sorted key_cmp rows) → do_prefixes_rise (prefix_roots rows) ≡ true
roots_sorted rows sorted =
    let has = has_parts rows sorted in
    subst (λ (rows : DigestRows). do_prefixes_rise (prefix_roots rows) ≡ true) has.same
    (ap do_prefixes_rise (roots_of_parts has.parts has.are) ∙ roots_rise has.parts has.are)

-- ---- the rows of a table's tree

abbrev IsRow : Key × Digest → Type 0
IsRow row = IsKey row.0 × (length row.1 ≡ 32)

are_rows : (table : Table) → IsTable table → All IsRow (rows_of table)
are_rows table is =
    All-map IsRow (λ row. (row.0, object_digest row.1)) table
    (All-weaker (λ (row : Key × List Entry). IsKey row.0) (λ row. IsRow (row.0, object_digest row.1))
    (λ row keyed. (keyed, object_digest_len row.1)) table is.keys)

digested_below : (k : Key) (table : Table) → below_all key_cmp k (rows_of table) ≡ below_all key_cmp k table
digested_below k [] = refl
digested_below k (row ∷ rows) = ap (λ b. is_lt (key_cmp k row.0) && b) (digested_below k rows)

digested_sorted : (table : Table) → is_sorted key_cmp (rows_of table) ≡ is_sorted key_cmp table
digested_sorted [] = refl
digested_sorted (row ∷ rows) = λ i. digested_below row.0 rows i && digested_sorted rows i

module _ (table : Table) (is : IsTable table) where
  abbrev rows : DigestRows
  rows = rows_of table

  sorted : T (is_sorted key_cmp rows)
  sorted = passes (is_sorted key_cmp rows) (digested_sorted table ∙ is.rising)

  few_rows : length rows ≤ 8192
  few_rows =
      let few : length table ≤ 8192 = is.few in omega
      (arith, length-map {B = Key × Digest} table (λ row. (row.0, object_digest row.1)))

  few_keys : (p : Prefix) (leaf : ℕ) → length (bucket (rows_below p table) leaf) ≤ 8192
  few_keys p leaf =
      omega (
        arith,
        few_rows,
        length-map {B = KeyDigest} (in_leaf leaf (own_rows p rows)) (λ row. record { key = row.0; digest = row.1 }),
        length_filter (λ (row : List ℕ × Digest). leaf == leaf_of row.0) (own_rows p rows),
        length-map {B = List ℕ × Digest} (filter (λ (row : Key × Digest). prefix_eq p row.0.prefix) rows) own_row,
        length_filter (λ (row : Key × Digest). prefix_eq p row.0.prefix) rows,
      )

  pub lawful_keys : (p : Prefix) (leaf : ℕ) → All IsKeyRow (bucket (rows_below p table) leaf)
  lawful_keys p leaf =
      All-map IsKeyRow (λ row. record { key = row.0; digest = row.1 }) (in_leaf leaf (own_rows p rows))
      (All-filter (λ (row : List ℕ × Digest). leaf == leaf_of row.0) (λ row. IsKeyRow (record { key = row.0; digest = row.1 }))
      (own_rows p rows)
      (All-map (λ row. IsKeyRow (record { key = row.0; digest = row.1 })) own_row
      (filter (λ (row : Key × Digest). prefix_eq p row.0.prefix) rows)
      (All-filter (λ (row : Key × Digest). prefix_eq p row.0.prefix)
      (λ row. IsKeyRow (record { key = row.0.key; digest = row.1 })) rows
      (All-weaker IsRow (λ row. IsKeyRow (record { key = row.0.key; digest = row.1 }))
      (λ row lawful. record { key = lawful.0.1; digest = lawful.1 }) rows (are_rows table is)))))

  pub keys_fit : (p : Prefix) (leaf : ℕ) → keys.Fits (bucket (rows_below p table) leaf)
  keys_fit p leaf =
      (keys_rise (bucket (rows_below p table) leaf)).1 (record {
        few = few_keys p leaf;
        lawful = lawful_keys p leaf;
        rising = keys_next (bucket (rows_below p table) leaf) (bucket_rises p leaf rows sorted);
      })

  few_prefixes : length (prefix_roots rows) ≤ 8192
  few_prefixes =
      omega (
        arith,
        few_rows,
        length-map {B = PrefixDigest} (prefixes_of rows) (λ p. record { prefix = p; digest = prefix_root (own_rows p rows) }),
        length_dedup (map (λ (row : Key × Digest). row.0.prefix) rows),
        length-map {B = Prefix} rows (λ row. row.0.prefix),
      )

  pub lawful_prefixes : All IsPrefixRow (prefix_roots rows)
  lawful_prefixes =
      All-map IsPrefixRow (λ p. record { prefix = p; digest = prefix_root (own_rows p rows) }) (prefixes_of rows)
      (All-weaker IsFullPrefix (λ p. IsPrefixRow (record { prefix = p; digest = prefix_root (own_rows p rows) }))
      (λ p lawful. record { prefix = lawful; digest = prefix_root_len (own_rows p rows) }) (prefixes_of rows)
      (All-dedup IsFullPrefix (map (λ row. row.0.prefix) rows)
      (All-map IsFullPrefix (λ row. row.0.prefix) rows
      (All-weaker IsRow (λ row. IsFullPrefix row.0.prefix) (λ row lawful. lawful.0.0) rows (are_rows table is)))))

  pub prefixes_fit : prefixes.Fits (prefix_roots rows)
  prefixes_fit =
      (prefixes_rise (prefix_roots rows)).1 (record {
        few = few_prefixes;
        lawful = lawful_prefixes;
        rising = prefixes_next (prefix_roots rows) (roots_sorted rows sorted);
      })
