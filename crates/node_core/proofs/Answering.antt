-- What a message of an exchange is answered may be sent, and a question changes nothing.
use Rattle.std.proofs.Common.{◌≡◌, ◌≢◌, ℕ, ◌+◌, ◌*◌, ◌<◌, nat_le, List, [], ◌∷◌, ◌++◌, map, All, Option, Some, None, refl, arith}
use Rattle.std.specs.List.{flat_map, range_with_len}
use Rattle.std.specs.FinMap.{find}
use Rattle.std.specs.Prelude.{slice_get}
use Rattle.std.proofs.lemmas.Bool.{cond_both}
use Rattle.std.proofs.lemmas.List.Concat.{flat_map-cons}
use Rattle.std.proofs.lemmas.List.Elements.{All-append, All-cons, All-filter, All-from_recursion, All-map, All-nil, All-same, All-weaker}
use Rattle.meta_types.specs.Name.{Key, Prefix}
use Rattle.meta_types.specs.Order.{bytes_cmp, key_cmp}
use Rattle.dvvset.specs.Object.{Entry}
use Rattle.frame_fields.specs.Field.{key_row_parts}
use Rattle.frame_fields.specs.declared.keys.KeyDigest.{KeyDigest}
use Rattle.frame_fields.proofs.Spellable.{place_fits}
use Rattle.meta_frame.specs.declared.message.Message.{Message}
use Rattle.meta_frame.specs.declared.message.Message.TheVariants.{XRoot, XPrefixes, XInner, XLeaves, XBucket, XObject, XWant}
use Rattle.meta_store.specs.Table.{IsTable, Table}
use Rattle.meta_store.proofs.Tables.{found_row}
use Rattle.hash_tree.specs.Tree.{Digest, bucket, inner_digests, leaf_digests, prefix_roots, rows_of, tree_root}
use Rattle.hash_tree.specs.Hashed.{rows_below}
use Rattle.exchange.specs.Answers.{answers_to, answer_bucket, answer_inner, answer_key, answer_leaves, answer_root, bucket_message, inner_message, leaves_message, object_if_held, object_messages, want_if_listed, want_messages}
use Rattle.exchange.specs.Sides.{differ, differing_keys, differing_places, same_digest}
use Rattle.node_overlay.specs.Outbox.{IsSendable, MaySend}
use Rattle.node_overlay.specs.Overlay.{envelope}

-- ---- lists

pub All-flat_map : {A B : Type 0} (P : B → Type 0) (f : A → List B) → ((x : A) → All P (f x)) → (xs : List A) → All P (flat_map f xs)
All-flat_map P f each [] = All-nil P
All-flat_map P f each (x ∷ xs) =
    All-same P (flat_map f (x ∷ xs)) (f x ++ flat_map f xs) (flat_map-cons f x xs)
    (All-append P (f x) (flat_map f xs) (each x) (All-flat_map P f each xs))

-- if whatever the function gives has the property
pub All-mapped : {A B : Type 0} (P : B → Type 0) (f : A → B) → ((x : A) → P (f x)) → (xs : List A) → All P (map f xs)
All-mapped P f each xs = All-map P f xs (λ k d inside. each _)

one : (m : Message) → IsSendable m → All IsSendable (m ∷ [])
one m sendable = All-cons IsSendable m [] sendable (All-nil IsSendable)

places_below : (theirs own : List Digest) → All (λ n. n < 16) (differing_places theirs own)
places_below theirs own =
    All-filter (λ place. differ (slice_get theirs place) (slice_get own place)) (λ n. n < 16) (range_with_len 0 16)
    (All-from_recursion (λ n. n < 16) (range_with_len 0 16) (omega arith, (omega arith, (omega arith, (omega arith, (omega arith, (omega arith, (omega arith, (omega arith, (omega arith, (omega arith, (omega arith, (omega arith, (omega arith, (omega arith, (omega arith, (omega arith, tt)))))))))))))))))

-- ---- an object that is held may be sent, and a number of one of sixteen places

wanted : (key : Key) (digest : Option Digest) → All IsSendable (want_messages key digest)
wanted key None = All-nil IsSendable
wanted key (Some digest) = one (XWant key) tt

module _ (table : Table) (is : IsTable table) where
  found : (key : Key) (object : Option (List Entry)) → find key_cmp key table ≡ object → All IsSendable (object_messages key object)
  found key None absent = All-nil IsSendable
  found key (Some object) here = one (XObject key object) (found_row key table object is.held is.keys here).held

  held : (key : Key) → All IsSendable (object_if_held table key)
  held key = found key (find key_cmp key table) refl

  rooted : (theirs : Digest) → All IsSendable (answer_root table theirs)
  rooted theirs =
      cond_both (same_digest theirs (tree_root (rows_of table))) [] (XPrefixes (prefix_roots (rows_of table)) ∷ []) (All IsSendable)
      (λ _. All-nil IsSendable) (λ _. one (XPrefixes (prefix_roots (rows_of table))) tt)

  inner : (p : Prefix) (theirs : List Digest) → All IsSendable (answer_inner table p theirs)
  inner p theirs =
      let places = differing_places theirs (inner_digests (rows_below p table)) in
      All-map IsSendable (leaves_message table p) places
      (All-weaker (λ n. n < 16) (λ n. IsSendable (leaves_message table p n)) place_fits places (places_below theirs (inner_digests (rows_below p table))))

  leaves : (p : Prefix) (number : ℕ) (theirs : List Digest) → All IsSendable (answer_leaves table p number theirs)
  leaves p number theirs =
      let bucket_at = λ (n : ℕ). bucket_message table p (16 * number + n) in
      let places = differing_places theirs (leaf_digests (rows_below p table) number) in
      cond_both (nat_le 16 number) [] (map bucket_at places) (All IsSendable)
      (λ _. All-nil IsSendable) (λ _. All-mapped IsSendable bucket_at (λ _. tt) places)

  buckets : (p : Prefix) (leaf : ℕ) (theirs : List KeyDigest) → All IsSendable (answer_bucket table p leaf theirs)
  buckets p leaf theirs =
      All-flat_map IsSendable (λ bytes. answer_key table theirs (record { prefix = p; key = bytes }))
      (λ bytes.
      let key : Key = record { prefix = p; key = bytes } in
      All-append IsSendable (object_if_held table key) (want_if_listed theirs key) (held key)
      (wanted key (find bytes_cmp bytes (map key_row_parts theirs))))
      (differing_keys bytes_cmp (map key_row_parts theirs) (map key_row_parts (bucket (rows_below p table) leaf)))

  sendable : (m : Message) → All IsSendable (answers_to table m)
  unfolding answers_to
  sendable (XRoot root) = rooted root
  sendable (XPrefixes theirs) = All-mapped IsSendable (inner_message table) (λ _. tt) _
  sendable (XInner p theirs) = inner p theirs
  sendable (XLeaves p number theirs) = leaves p number theirs
  sendable (XBucket p leaf theirs) = buckets p leaf theirs
  sendable (XWant key) = held key
  sendable _ = All-nil IsSendable

  -- each goes to another node
  pub answers_may : (node to : ℕ) → to ≢ node → (m : Message) → All (MaySend node) (map (envelope to) (answers_to table m))
  answers_may node to another m =
      All-map (MaySend node) (envelope to) (answers_to table m)
      (All-weaker IsSendable (λ message. MaySend node (envelope to message)) (λ message may. record { apart = another; sendable = may }) (answers_to table m) (sendable m))
