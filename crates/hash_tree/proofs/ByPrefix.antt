-- The parts of a tree by full prefix: what its readers find in them.
use Rattle.std.proofs.Common.{◌≡◌, ◌≢◌, ℕ, true, false, cond, not, ◌&&◌, T, List, [], ◌∷◌, ◌++◌, map, All, Some, refl, sym, ap, subst, ◌∙◌}
use Rattle.std.specs.Bool.{passes}
use Rattle.std.specs.List.{flat_map}
use Rattle.std.specs.Option.{unwrap_or}
use Rattle.std.specs.Ordering.{is_eq, is_lt}
use Rattle.std.specs.declared.cmp.Ordering.TheVariants.{Less, Equal, Greater}
use Rattle.std.specs.Cmp.{tied_itself}
use Rattle.std.specs.FinMap.{find, put, is_sorted}
use Rattle.std.specs.FinMap.Entries.{below_all, by_order, is_sorted-put}
use Rattle.std.specs.BTreeMap.{insert_entry}
use Rattle.std.proofs.lemmas.List.Elements.{All-cons, All-head, All-tail, All-nil}
use Rattle.std.proofs.lemmas.List.Folds.{flat_map-map}
use Rattle.std.proofs.lemmas.List.{map-append}
use Rattle.sha2.specs.Sha256.{sha256}
use Rattle.meta_types.specs.Name.{Prefix, Key}
use Rattle.meta_types.specs.Order.{bytes_cmp, key_cmp, prefix_cmp, prefix_eq}
use Rattle.dvvset.specs.Object.{Entry}
use Rattle.frame_fields.specs.Field.{prefix, prefix_row_parts}
use Rattle.frame_fields.specs.declared.prefixes.PrefixDigest.{PrefixDigest}
use Rattle.meta_store.specs.Table.{IsHeld, without_object}
use Rattle.meta_store.specs.Kept as store
use Rattle.meta_store.specs.Kept.{PartsOf, RowsOf, rows_at, rows_under, table_of, with_rows, without_row}
use Rattle.meta_store.proofs.Forgetting.{filled_with, rises_with, table_without}
use Rattle.meta_store.proofs.Kept.{all_prefixes, bytes_total, own_part, prefix_total, put_part, rows_left_out}
use Rattle.meta_store.proofs.Maps.{All-put, below_rest, filled_up, first, greater_back, is_less, is_true, put_last, rest_sorted, second}
use Rattle.hash_tree.specs.Tree.{Digest, OwnRows, DigestRows, digest_rows, object_digest, own_rows, prefix_root, prefix_roots, tree_root, without_digest}
use Rattle.hash_tree.specs.Kept.{AreTreeParts}
use Rattle.hash_tree.specs.Rising.{do_prefixes_rise}
use Rattle.hash_tree.proofs.ByLeaf.{never_empty}

abbrev Filled : Prefix × OwnRows → Type 0
Filled part = part.1 ≢ []

abbrev Parts : Type 0
Parts = PartsOf Digest

-- ---- roots

abbrev rooted : DigestRows → Prefix → PrefixDigest
rooted rows p = record { prefix = p; digest = prefix_root (own_rows p rows) }

abbrev pub part_root : Prefix × OwnRows → PrefixDigest
part_root part = record { prefix = part.0; digest = prefix_root part.1 }

abbrev pub part_text : Prefix × OwnRows → List ℕ
part_text part = prefix.spell part.0 ++ prefix_root part.1

-- a part before all of these doesn't count for them
skipped : (q : Prefix) (rows : OwnRows) (rest : DigestRows) (parts : Parts) → T (below_all prefix_cmp q parts) → map (rooted (rows_under q rows ++ rest)) (map (λ part. part.0) parts) ≡ map (rooted rest) (map (λ part. part.0) parts)
skipped q rows rest [] below = refl
skipped q rows rest (part ∷ parts) below =
    let less : prefix_cmp q part.0 ≡ Less = is_less (prefix_cmp q part.0) (first (is_lt (prefix_cmp q part.0)) (below_all prefix_cmp q parts) below) in
    let apart : prefix_eq part.0 q ≡ false = ap is_eq (greater_back prefix_cmp prefix_total q part.0 less) in
    let later = skipped q rows rest parts (second (is_lt (prefix_cmp q part.0)) (below_all prefix_cmp q parts) below) in
    λ i. record { prefix = part.0; digest = prefix_root (rows_left_out part.0 q rows rest apart i) } ∷ later i

each_root : (parts : Parts) → T (is_sorted prefix_cmp parts) → map (rooted (table_of parts)) (map (λ part. part.0) parts) ≡ map part_root parts
each_root [] sorted = refl
each_root (part ∷ parts) sorted =
    let here : own_rows part.0 (table_of (part ∷ parts)) ≡ part.1 =
    own_part part.0 (part ∷ parts) sorted ∙ ap (λ r. unwrap_or (cond (is_eq r) (Some part.1) (find prefix_cmp part.0 parts)) []) (tied_itself prefix_total part.0) in
    let later = skipped part.0 part.1 (table_of parts) parts (below_rest prefix_cmp prefix_total part parts sorted) ∙ each_root parts (rest_sorted prefix_cmp prefix_total part parts sorted) in
    λ i. record { prefix = part.0; digest = prefix_root (here i) } ∷ later i

below_roots : (p : Prefix) (parts : Parts) → below_all prefix_cmp p (map prefix_row_parts (map part_root parts)) ≡ below_all prefix_cmp p parts
below_roots p [] = refl
below_roots p (part ∷ parts) = ap (λ b. is_lt (prefix_cmp p part.0) && b) (below_roots p parts)

sorted_roots : (parts : Parts) → do_prefixes_rise (map part_root parts) ≡ is_sorted prefix_cmp parts
sorted_roots [] = refl
sorted_roots (part ∷ parts) = λ i. below_roots part.0 parts i && sorted_roots parts i

module _ (parts : Parts) (are : AreTreeParts parts) where
  abbrev sorted : T (is_sorted prefix_cmp parts)
  sorted = passes (is_sorted prefix_cmp parts) are.rising

  pub roots_of_parts : prefix_roots (table_of parts) ≡ map part_root parts
  roots_of_parts = ap (map (rooted (table_of parts))) (all_prefixes parts sorted are.filled) ∙ each_root parts sorted

  pub roots_rise : do_prefixes_rise (map part_root parts) ≡ true
  roots_rise = sorted_roots parts ∙ are.rising

  pub root_of_parts : tree_root (table_of parts) ≡ sha256 (flat_map part_text parts)
  unfolding tree_root
  root_of_parts =
      ap (λ rows. sha256 (flat_map (λ (row : PrefixDigest). prefix.spell row.prefix ++ row.digest) rows)) roots_of_parts
      ∙ ap sha256 (flat_map-map (λ (row : PrefixDigest). prefix.spell row.prefix ++ row.digest) part_root parts)

-- ---- a row put there

module _ (k : Key) (d : Digest) (parts new : Parts) (are : AreTreeParts parts) (e : new ≡ put prefix_cmp k.prefix (put bytes_cmp k.key d (rows_at k.prefix parts)) parts) where
  pub table_put : table_of new ≡ put key_cmp k d (table_of parts)
  table_put = ap table_of e ∙ put_part k.prefix k.key d parts (passes (is_sorted prefix_cmp parts) are.rising) are.filled

  pub parts_put : AreTreeParts new
  parts_put =
      let rows : OwnRows = put bytes_cmp k.key d (rows_at k.prefix parts) in
      record {
        rising = is_true (is_sorted prefix_cmp new) (subst (λ ps. T (is_sorted prefix_cmp ps)) (sym e) (is_sorted-put prefix_cmp prefix_total k.prefix rows parts (passes (is_sorted prefix_cmp parts) are.rising)));
        filled = subst (All Filled) (sym e) (All-put prefix_cmp Filled k.prefix rows parts are.filled (never_empty k.key d (rows_at k.prefix parts)) (λ part filled. never_empty k.key d (rows_at k.prefix parts)));
      }

-- ---- a key taken out

module _ (k : Key) (parts new : Parts) (are : AreTreeParts parts) (e : new ≡ with_rows k.prefix (without_row k.key (rows_at k.prefix parts)) parts) where
  pub table_left : table_of new ≡ without_digest k (table_of parts)
  table_left = ap table_of e ∙ table_without k.prefix k.key parts (passes (is_sorted prefix_cmp parts) are.rising)

  pub parts_left : AreTreeParts new
  parts_left =
      let rows : OwnRows = without_row k.key (rows_at k.prefix parts) in
      let sorted : T (is_sorted prefix_cmp parts) = passes (is_sorted prefix_cmp parts) are.rising in
      record {
        rising = is_true (is_sorted prefix_cmp new) (subst (λ ps. T (is_sorted prefix_cmp ps)) (sym e) (rises_with k.prefix parts sorted rows));
        filled = subst (All Filled) (sym e) (filled_with k.prefix parts sorted are.filled rows);
      }

-- ---- the parts of a store

pub digested_put : (k : Key) (o : List Entry) (table : List (Key × List Entry)) → digest_rows (put key_cmp k o table) ≡ put key_cmp k (object_digest o) (digest_rows table)
digested_put k o [] = refl
digested_put k o (row ∷ rows) =
    elim (key_cmp k row.0) as (λ r. digest_rows (by_order r ((k, o) ∷ row ∷ rows) ((row.0, o) ∷ rows) (row ∷ put key_cmp k o rows))
    ≡ by_order r ((k, object_digest o) ∷ (row.0, object_digest row.1) ∷ digest_rows rows) ((row.0, object_digest o) ∷ digest_rows rows) ((row.0, object_digest row.1) ∷ put key_cmp k (object_digest o) (digest_rows rows))) [
      | Less ↦ refl
      | Equal ↦ refl
      | Greater ↦ ap (λ xs. (row.0, object_digest row.1) ∷ xs) (digested_put k o rows)
    ]

pub digested_without : (k : Key) (table : List (Key × List Entry)) → digest_rows (without_object k table) ≡ without_digest k (digest_rows table)
digested_without k [] = refl
digested_without k (row ∷ rows) =
    let later = digested_without k rows in
    elim (is_eq (key_cmp k row.0)) as (λ b. digest_rows (cond (not b) (row ∷ without_object k rows) (without_object k rows)) ≡ cond (not b) ((row.0, object_digest row.1) ∷ without_digest k (digest_rows rows)) (without_digest k (digest_rows rows))) [
      | true ↦ later
      | false ↦ ap (λ xs. (row.0, object_digest row.1) ∷ xs) later
    ]

digested_under : (p : Prefix) (rows : RowsOf (List Entry)) → digest_rows (rows_under p rows) ≡ rows_under p (digest_rows rows)
digested_under p [] = refl
digested_under p (row ∷ rows) = ap (λ xs. (record { prefix = p; key = row.0 }, object_digest row.1) ∷ xs) (digested_under p rows)

abbrev pub digested_part : Prefix × RowsOf (List Entry) → Prefix × OwnRows
digested_part part = (part.0, digest_rows part.1)

pub digested_parts : (parts : PartsOf (List Entry)) → table_of (map digested_part parts) ≡ digest_rows (table_of parts)
digested_parts [] = refl
digested_parts (part ∷ parts) =
    ap (λ xs. rows_under part.0 (digest_rows part.1) ++ xs) (digested_parts parts)
    ∙ ap (λ xs. xs ++ digest_rows (table_of parts)) (sym (digested_under part.0 part.1))
    ∙ sym (map-append (λ (row : Key × List Entry). (row.0, object_digest row.1)) (rows_under part.0 part.1) (table_of parts))

-- ---- rows of a store that are taken in, in order

below_digested : (k : List ℕ) (rows : RowsOf (List Entry)) → below_all bytes_cmp k (digest_rows rows) ≡ below_all bytes_cmp k rows
below_digested k [] = refl
below_digested k (row ∷ rows) = ap (λ b. is_lt (bytes_cmp k row.0) && b) (below_digested k rows)

sorted_digested : (rows : RowsOf (List Entry)) → is_sorted bytes_cmp (digest_rows rows) ≡ is_sorted bytes_cmp rows
sorted_digested [] = refl
sorted_digested (row ∷ rows) = λ i. below_digested row.0 rows i && sorted_digested rows i

pub row_taken : (done new : OwnRows) (k : List ℕ) (object : List Entry) (d : Digest) (rest from rows : RowsOf (List Entry)) → T (is_sorted bytes_cmp rows) → done ++ digest_rows from ≡ digest_rows rows → from ≡ (k, object) ∷ rest
    → d ≡ object_digest object → new ≡ put bytes_cmp k d done → new ++ digest_rows rest ≡ digest_rows rows
row_taken done new k object d rest from rows sorted so_far is_first is_digest is =
    let whole : done ++ (k, object_digest object) ∷ digest_rows rest ≡ digest_rows rows = ap (λ xs. done ++ digest_rows xs) (sym is_first) ∙ so_far in
    let are : T (is_sorted bytes_cmp (done ++ (k, object_digest object) ∷ digest_rows rest)) =
    subst T (sym (ap (is_sorted bytes_cmp) whole ∙ sorted_digested rows)) sorted in
    ap (λ xs. xs ++ digest_rows rest) (is ∙ ap (λ x. put bytes_cmp k x done) is_digest)
    ∙ put_last bytes_cmp bytes_total done k (object_digest object) (digest_rows rest) are
    ∙ whole

below_parts : (p : Prefix) (parts : PartsOf (List Entry)) → below_all prefix_cmp p (map digested_part parts) ≡ below_all prefix_cmp p parts
below_parts p [] = refl
below_parts p (part ∷ parts) = ap (λ b. is_lt (prefix_cmp p part.0) && b) (below_parts p parts)

sorted_parts : (parts : PartsOf (List Entry)) → is_sorted prefix_cmp (map digested_part parts) ≡ is_sorted prefix_cmp parts
sorted_parts [] = refl
sorted_parts (part ∷ parts) = λ i. below_parts part.0 parts i && sorted_parts parts i

pub part_taken : (done new : Parts) (p : Prefix) (rows : RowsOf (List Entry)) (tree : OwnRows) (rest from all : PartsOf (List Entry)) → is_sorted prefix_cmp all ≡ true → done ++ map digested_part from ≡ map digested_part all → from ≡ (p, rows) ∷ rest
    → tree ≡ digest_rows rows → new ≡ insert_entry prefix_cmp done p tree → new ++ map digested_part rest ≡ map digested_part all
part_taken done new p rows tree rest from all sorted so_far is_first is_tree is =
    filled_up prefix_cmp prefix_total done new (map digested_part rest) (map digested_part all) p tree
    (subst T (sym (sorted_parts all)) (passes (is_sorted prefix_cmp all) sorted))
    (ap (λ t. done ++ (p, t) ∷ map digested_part rest) is_tree ∙ ap (λ xs. done ++ map digested_part xs) (sym is_first) ∙ so_far)
    is

-- ---- and what was filled so

some_digested : (rows : RowsOf (List Entry)) → rows ≢ [] → digest_rows rows ≢ []
some_digested [] some e = some refl
some_digested (row ∷ rows) some e = cc

filled_parts : (parts : PartsOf (List Entry)) → All (λ part. part.1 ≢ []) parts → All Filled (map digested_part parts)
filled_parts [] all = All-nil Filled
filled_parts (part ∷ parts) all =
    All-cons Filled (digested_part part) (map digested_part parts) (some_digested part.1 (All-head (λ (p : Prefix × RowsOf (List Entry)). p.1 ≢ []) part parts all)) (filled_parts parts (All-tail (λ (p : Prefix × RowsOf (List Entry)). p.1 ≢ []) part parts all))

pub are_parts : (all : PartsOf (List Entry)) → store.AreParts all → AreTreeParts (map digested_part all)
are_parts all are = record { rising = sorted_parts all ∙ are.rising; filled = filled_parts all are.filled }

All-left : {A : Type 0} (P : A → Type 0) (xs ys : List A) → All P (xs ++ ys) → All P xs
All-left P [] ys all = All-nil P
All-left P (x ∷ xs) ys all = All-cons P x xs (All-head P x (xs ++ ys) all) (All-left P xs ys (All-tail P x (xs ++ ys) all))

All-right : {A : Type 0} (P : A → Type 0) (xs ys : List A) → All P (xs ++ ys) → All P ys
All-right P [] ys all = all
All-right P (x ∷ xs) ys all = All-right P xs ys (All-tail P x (xs ++ ys) all)

held_under : (p : Prefix) (rows : RowsOf (List Entry)) → All (λ (row : Key × List Entry). IsHeld row.1) (rows_under p rows) → All (λ (row : List ℕ × List Entry). IsHeld row.1) rows
held_under p [] all = All-nil (λ (row : List ℕ × List Entry). IsHeld row.1)
held_under p (row ∷ rows) all =
    All-cons (λ (r : List ℕ × List Entry). IsHeld r.1) row rows (All-head (λ (r : Key × List Entry). IsHeld r.1) (record { prefix = p; key = row.0 }, row.1) (rows_under p rows) all)
    (held_under p rows (All-tail (λ (r : Key × List Entry). IsHeld r.1) (record { prefix = p; key = row.0 }, row.1) (rows_under p rows) all))

abbrev pub HeldPart : Prefix × RowsOf (List Entry) → Type 0
HeldPart part = All (λ (row : List ℕ × List Entry). IsHeld row.1) part.1

pub held_parts : (parts : PartsOf (List Entry)) → All (λ (row : Key × List Entry). IsHeld row.1) (table_of parts) → All HeldPart parts
held_parts [] all = All-nil HeldPart
held_parts (part ∷ parts) all =
    All-cons HeldPart part parts (held_under part.0 part.1 (All-left (λ (row : Key × List Entry). IsHeld row.1) (rows_under part.0 part.1) (table_of parts) all))
    (held_parts parts (All-right (λ (row : Key × List Entry). IsHeld row.1) (rows_under part.0 part.1) (table_of parts) all))
