-- What a message of an exchange is answered has a spelling.
use Rattle.std.proofs.Common.{◌≡◌, ℕ, zero, suc, ◌+◌, ◌*◌, ◌^◌, ◌<◌, ◌≤◌, List, [], ◌∷◌, ◌++◌, length, map, nat_le, All, Option, Some, None, refl, arith}
use Rattle.std.specs.Int.{w8, w16}
use Rattle.std.specs.List.{flat_map, range_with_len}
use Rattle.std.specs.Prelude.{slice_get}
use Rattle.std.specs.declared.cmp.Ordering.{Ordering}
use Rattle.std.specs.FinMap.{find, put}
use Rattle.std.proofs.lemmas.Bool.{cond_both}
use Rattle.std.proofs.lemmas.List.Concat.{flat_map-cons}
use Rattle.std.proofs.lemmas.List.Elements.{All-append, All-cons, All-filter, All-head, All-map, All-nil, All-same, All-tail, All-weaker}
use Rattle.meta_types.specs.Name.{IsFullPrefix, IsName, Key, Prefix}
use Rattle.meta_types.specs.Order.{bytes_cmp, key_cmp, prefix_cmp}
use Rattle.dvvset.specs.Object.{Entry}
use Rattle.frame_fields.specs.Field.{key_row_parts, keys, prefix, prefix_row_parts, prefixes}
use Rattle.frame_fields.specs.Rising.{IsKeyRow, IsPrefixRow}
use Rattle.frame_fields.specs.declared.keys.KeyDigest.{KeyDigest}
use Rattle.frame_fields.specs.declared.prefixes.PrefixDigest.{PrefixDigest}
use Rattle.frame_fields.proofs.Ordered.{keys_rise, prefixes_rise}
use Rattle.frame_fields.proofs.Spellable.{key_fits, number_within, place_fits}
use Rattle.meta_frame.specs.Frame.{IsMessage}
use Rattle.meta_frame.specs.declared.message.Message.{Message}
use Rattle.meta_frame.specs.declared.message.Message.TheVariants.{XRoot, XPrefixes, XInner, XLeaves, XBucket, XObject, XWant}
use Rattle.meta_store.specs.Table.{IsTable, Table}
use Rattle.meta_store.proofs.Maps.{All-put}
use Rattle.meta_store.proofs.Sizes.{held_fits}
use Rattle.meta_store.proofs.Tables.{found_row}
use Rattle.hash_tree.specs.Tree.{Digest, bucket, inner_digests, leaf_digests, prefix_roots, rows_of, tree_root}
use Rattle.hash_tree.specs.Hashed.{rows_below}
use Rattle.exchange.specs.Answers.{answers_to, answer_bucket, answer_inner, answer_key, answer_leaves, answer_prefixes, answer_root, bucket_message, inner_message, leaves_message, object_if_held, object_messages, want_if_listed, want_messages}
use Rattle.exchange.specs.Sides.{differ, differing_keys, differing_places, of_either, same_digest}
use Rattle.node_overlay.proofs.Sendable.{prefix_fits}
use Rattle.node_outcomes.proofs.Told.{inner_fit, keys_fit, lawful_keys, lawful_prefixes, leaves_fit, prefixes_fit}

one : (m : Message) → IsMessage m → All IsMessage (m ∷ [])
one m fits = All-cons IsMessage m [] fits (All-nil IsMessage)

All-flat_map_of : {A B : Type 0} {Q : A → Type 0} (P : B → Type 0) (f : A → List B) (xs : List A) → ((x : A) → Q x → All P (f x))
    → All Q xs → All P (flat_map f xs)
All-flat_map_of P f [] each all = All-nil P
All-flat_map_of {Q = Q} P f (x ∷ xs) each all =
    All-same P (flat_map f (x ∷ xs)) (f x ++ flat_map f xs) (flat_map-cons f x xs)
    (All-append P (f x) (flat_map f xs) (each x (All-head Q x xs all)) (All-flat_map_of P f xs each (All-tail Q x xs all)))

-- ---- what holds of the keys of both sides holds of those that differ

module _ {K : Type 0} (cmp : K → K → Ordering) (P : K → Type 0) where
  abbrev Keyed : K × Digest → Type 0
  Keyed row = P row.0

  All-of_either : (theirs own : List (K × Digest)) → All Keyed theirs → All Keyed own → All Keyed (of_either cmp theirs own)
  All-of_either [] own all own_all = own_all
  All-of_either (row ∷ theirs) own all own_all =
      All-of_either theirs (put cmp row.0 row.1 own) (All-tail Keyed row theirs all)
      (All-put cmp Keyed row.0 row.1 own own_all (All-head Keyed row theirs all) (λ _ is. is))

  All-differing : (theirs own : List (K × Digest)) → All Keyed theirs → All Keyed own → All P (differing_keys cmp theirs own)
  All-differing theirs own all own_all =
      All-filter (λ k. differ (find cmp k theirs) (find cmp k own)) P (map (λ (row : K × Digest). row.0) (of_either cmp theirs own))
      (All-map P (λ (row : K × Digest). row.0) (of_either cmp theirs own) (All-of_either theirs own all own_all))

named_rows : (rows : List KeyDigest) → All IsKeyRow rows
    → All (λ (row : List ℕ × Digest). IsName 256 row.0) (map key_row_parts rows)
named_rows rows all =
    All-map (λ (row : List ℕ × Digest). IsName 256 row.0) key_row_parts rows
    (All-weaker IsKeyRow (λ row. IsName 256 row.key) (λ row is. is.key) rows all)

full_rows : (rows : List PrefixDigest) → All IsPrefixRow rows
    → All (λ (row : Prefix × Digest). IsFullPrefix row.0) (map prefix_row_parts rows)
full_rows rows all =
    All-map (λ (row : Prefix × Digest). IsFullPrefix row.0) prefix_row_parts rows
    (All-weaker IsPrefixRow (λ row. IsFullPrefix row.prefix) (λ row is. is.prefix) rows all)

-- ---- prefixes

pub prefix_in_range : (p : Prefix) → prefix.Fits p → IsFullPrefix p
prefix_in_range p fits =
    let first = number_within w16 1 64 (length p.prefix) fits.0.0 in
    let second = number_within w16 1 64 (length p.sub) fits.1.0 in
    ((first.least, first.most), (second.least, second.most))

-- ---- places

below_sum : (low count most : ℕ) → low + count ≤ most → All (λ n. n < most) (range_with_len low count)
below_sum low zero most few = All-nil (λ n. n < most)
below_sum low (suc count) most few =
    All-cons (λ n. n < most) low (range_with_len (low + 1) count) (omega arith) (below_sum (low + 1) count most (omega arith))

places_below : (theirs own : List Digest) → All (λ n. n < 16) (differing_places theirs own)
places_below theirs own =
    All-filter (λ place. differ (slice_get theirs place) (slice_get own place)) (λ n. n < 16) (range_with_len 0 16)
    (below_sum 0 16 16 (omega arith))

-- one of sixteen leaves under one of sixteen inner nodes
leaf_below : (inner n : ℕ) → inner ≤ 15 → n < 16 → 16 * inner + n < 2 ^ 8
leaf_below inner n few lt = omega arith

module _ (table : Table) (is : IsTable table) where
  found_fits : (k : Key) (object : Option (List Entry)) → find key_cmp k table ≡ object → All IsMessage (object_messages k object)
  found_fits k None absent = All-nil IsMessage
  found_fits k (Some object) here =
      let row = found_row k table object is.held is.keys here in
      one (XObject k object) (key_fits k row.key, held_fits object row.held)

  held_fit : (k : Key) → All IsMessage (object_if_held table k)
  held_fit k = found_fits k (find key_cmp k table) refl

  wanted_fits : (k : Key) (digest : Option Digest) → prefix.Fits k.prefix → IsName 256 k.key
      → All IsMessage (want_messages k digest)
  wanted_fits k None full named = All-nil IsMessage
  wanted_fits k (Some digest) full named = one (XWant k) (key_fits k (prefix_in_range k.prefix full, named))

  root_fits : (theirs : Digest) → All IsMessage (answer_root table theirs)
  root_fits theirs =
      cond_both (same_digest theirs (tree_root (rows_of table))) [] (XPrefixes (prefix_roots (rows_of table)) ∷ []) (All IsMessage)
      (λ _. All-nil IsMessage) (λ _. one (XPrefixes (prefix_roots (rows_of table))) (prefixes_fit table is))

  prefixes_answered : (theirs : List PrefixDigest) → prefixes.Fits theirs → All IsMessage (answer_prefixes table theirs)
  prefixes_answered theirs fits =
      let own = prefix_roots (rows_of table) in
      let differing = differing_keys prefix_cmp (map prefix_row_parts theirs) (map prefix_row_parts own) in
      All-map IsMessage (inner_message table) differing
      (All-weaker IsFullPrefix (λ p. IsMessage (inner_message table p))
      (λ p full. (prefix_fits p full, inner_fit (rows_below p table))) differing
      (All-differing prefix_cmp IsFullPrefix (map prefix_row_parts theirs) (map prefix_row_parts own)
      (full_rows theirs ((prefixes_rise theirs).0 fits).lawful) (full_rows own (lawful_prefixes table is))))

  inner_answered : (p : Prefix) (theirs : List Digest) → prefix.Fits p → All IsMessage (answer_inner table p theirs)
  inner_answered p theirs full =
      let places = differing_places theirs (inner_digests (rows_below p table)) in
      All-map IsMessage (leaves_message table p) places
      (All-weaker (λ n. n < 16) (λ n. IsMessage (leaves_message table p n))
      (λ n lt. (full, (place_fits n lt, leaves_fit (rows_below p table) n))) places
      (places_below theirs (inner_digests (rows_below p table))))

  leaves_answered : (p : Prefix) (inner : ℕ) (theirs : List Digest) → prefix.Fits p → inner ≤ 15
      → All IsMessage (answer_leaves table p inner theirs)
  leaves_answered p inner theirs full few =
      let bucket_at = λ (n : ℕ). bucket_message table p (16 * inner + n) in
      let places = differing_places theirs (leaf_digests (rows_below p table) inner) in
      cond_both (nat_le 16 inner) [] (map bucket_at places) (All IsMessage) (λ _. All-nil IsMessage)
      (λ _. All-map IsMessage bucket_at places
      (All-weaker (λ n. n < 16) (λ n. IsMessage (bucket_at n))
      (λ n lt. (full, (leaf_below inner n few lt, keys_fit table is p (16 * inner + n)))) places
      (places_below theirs (leaf_digests (rows_below p table) inner))))

  bucket_answered : (p : Prefix) (leaf : ℕ) (theirs : List KeyDigest) → prefix.Fits p → keys.Fits theirs
      → All IsMessage (answer_bucket table p leaf theirs)
  bucket_answered p leaf theirs full fits =
      let own = bucket (rows_below p table) leaf in
      let key_of = λ (bytes : List ℕ). let k : Key = record { prefix = p; key = bytes } in k in
      let differing = differing_keys bytes_cmp (map key_row_parts theirs) (map key_row_parts own) in
      All-flat_map_of IsMessage (λ bytes. answer_key table theirs (key_of bytes)) differing
      (λ bytes named. All-append IsMessage (object_if_held table (key_of bytes)) (want_if_listed theirs (key_of bytes))
      (held_fit (key_of bytes))
      (wanted_fits (key_of bytes) (find bytes_cmp bytes (map key_row_parts theirs)) full named))
      (All-differing bytes_cmp (IsName 256) (map key_row_parts theirs) (map key_row_parts own)
      (named_rows theirs ((keys_rise theirs).0 fits).lawful) (named_rows own (lawful_keys table is p leaf)))

  pub answers_fit : (m : Message) → IsMessage m → All IsMessage (answers_to table m)
  unfolding answers_to
  answers_fit (XRoot root) fits = root_fits root
  answers_fit (XPrefixes theirs) fits = prefixes_answered theirs fits
  answers_fit (XInner p theirs) fits = inner_answered p theirs fits.0
  answers_fit (XLeaves p inner theirs) fits = leaves_answered p inner theirs fits.0 (number_within w8 0 15 inner fits.1.0).most
  answers_fit (XBucket p leaf theirs) fits = bucket_answered p leaf theirs fits.0 fits.1.1
  answers_fit (XWant k) fits = held_fit k
  answers_fit _ fits = All-nil IsMessage
