-- Steps of the loops over what differs between two lists of rows.
use Rattle.std.proofs.Common.{◌≡◌, ℕ, ◌<◌, Bool, true, false, cond, ◌&&◌, suc, List, [], ◌∷◌, ◌++◌, length, map, get_or, Option, refl, sym, ap, ◌∙◌, append_assoc, arith}
use Rattle.std.specs.List.{flat_map}
use Rattle.std.specs.Ordering.{is_lt}
use Rattle.std.specs.declared.cmp.Ordering.{Ordering}
use Rattle.std.specs.declared.cmp.Ordering.TheVariants.{Less}
use Rattle.std.specs.FinMap.{find, is_sorted}
use Rattle.std.specs.FinMap.Entries.{below_all}
use Rattle.std.proofs.lemmas.List.{append-nil}
use Rattle.std.proofs.lemmas.List.Elements.{All-weaker}
use Rattle.meta_types.specs.Name.{Prefix, Key, IsName}
use Rattle.meta_types.specs.Order.{bytes_cmp, prefix_cmp}
use Rattle.meta_types.proofs.Comparing.{bytes_before, prefix_before}
use Rattle.frame_fields.specs.Field.{key_row_parts, keys, prefix_row_parts, prefixes}
use Rattle.frame_fields.specs.Rising.{IsKeyRow}
use Rattle.frame_fields.specs.declared.keys.KeyDigest.{KeyDigest}
use Rattle.frame_fields.specs.declared.prefixes.PrefixDigest.{PrefixDigest}
use Rattle.frame_fields.proofs.Ordered.{keys_rise, keys_rise_throughout, prefixes_rise_throughout}
use Rattle.meta_frame.specs.declared.message.Message.{Message}
use Rattle.meta_store.specs.Table.{Table}
use Rattle.hash_tree.specs.Tree.{Digest, bucket, prefix_roots, rows_of}
use Rattle.hash_tree.specs.Hashed.{rows_below}
use Rattle.exchange.specs.Answers.{answer_bucket, answer_prefixes, inner_message, object_if_held, want_messages}
use Rattle.exchange.specs.Sides.{AreNamed, differing, differing_keys, then_rest}

-- ---- lists that fit a frame rise

both_true : (a b : Bool) → a ≡ true → b ≡ true → (a && b) ≡ true
both_true true b e f = f
both_true false b e f = absurd (cc)

module _ {A K : Type 0} (R : K → K → Ordering) (parts : A → K × Digest) where
  stands_below : (x : A) (ys : List A) → ((j : ℕ) (d : A) → j < length ys → R (parts x).0 (parts (get_or ys j d)).0 ≡ Less) → below_all R (parts x).0 (map parts ys) ≡ true
  stands_below x [] all = refl
  stands_below x (y ∷ ys) all =
      both_true (is_lt (R (parts x).0 (parts y).0)) (below_all R (parts x).0 (map parts ys))
      (ap is_lt (all 0 y (omega arith)))
      (stands_below x ys (λ j d lt. all (suc j) d (omega arith)))

  pub sorted_throughout : (xs : List A) → ((i j : ℕ) (d : A) → i < j → j < length xs → R (parts (get_or xs i d)).0 (parts (get_or xs j d)).0 ≡ Less) → is_sorted R (map parts xs) ≡ true
  sorted_throughout [] all = refl
  sorted_throughout (x ∷ xs) all =
      both_true (below_all R (parts x).0 (map parts xs)) (is_sorted R (map parts xs))
      (stands_below x xs (λ j d lt. all 0 (suc j) d (omega arith) (omega arith)))
      (sorted_throughout xs (λ i j d less lt. all (suc i) (suc j) d (omega arith) (omega arith)))

pub keys_sorted : (rows : List KeyDigest) → keys.Fits rows → is_sorted bytes_cmp (map key_row_parts rows) ≡ true
keys_sorted rows fits =
    sorted_throughout bytes_cmp key_row_parts rows (λ i j d less lt.
    (bytes_before (bytes_cmp (get_or rows i d).key (get_or rows j d).key) (get_or rows i d).key (get_or rows j d).key refl).1
    (keys_rise_throughout rows fits i j d less lt))

pub prefixes_sorted : (rows : List PrefixDigest) → prefixes.Fits rows → is_sorted prefix_cmp (map prefix_row_parts rows) ≡ true
prefixes_sorted rows fits =
    sorted_throughout prefix_cmp prefix_row_parts rows (λ i j d less lt.
    (prefix_before (prefix_cmp (get_or rows i d).prefix (get_or rows j d).prefix) (get_or rows i d).prefix (get_or rows j d).prefix refl).1
    (prefixes_rise_throughout rows fits i j d less lt))

pub keys_named : (rows : List KeyDigest) → keys.Fits rows → AreNamed rows
keys_named rows fits =
    All-weaker IsKeyRow (λ row. IsName 256 row.key) (λ row is. is.key) rows ((keys_rise rows).0 fits).lawful

-- ---- what is told of each that differs

flat_map_map : {A B C : Type 0} (g : B → List C) (f : A → B) (xs : List A) → flat_map g (map f xs) ≡ flat_map (λ x. g (f x)) xs
flat_map_map g f [] = refl
flat_map_map g f (x ∷ xs) = ap (λ ys. g (f x) ++ ys) (flat_map_map g f xs)

pub each_told : {K M : Type 0} (f : K → M) (h : K → Option Digest) (ks : List K) → flat_map (λ (row : K × Option Digest). f row.0 ∷ []) (map (λ k. (k, h k)) ks) ≡ map f ks
each_told f h [] = refl
each_told f h (k ∷ ks) = ap (λ ys. f k ∷ ys) (each_told f h ks)

pub all_told : {K M : Type 0} (g : K × Option Digest → List M) (h : K → Option Digest) (ks : List K) → flat_map g (map (λ k. (k, h k)) ks) ≡ flat_map (λ k. g (k, h k)) ks
all_told g h ks = flat_map_map g (λ k. (k, h k)) ks

-- one more that is told, or passed over
pub goes_on : {K M : Type 0} (g : K × Option Digest → List M) (done new total : List M) (k : K) (d : Option Digest) (b : Bool) (rest all : List (K × Option Digest))
    → all ≡ then_rest k d b rest → new ≡ done ++ cond b (g (k, d)) [] → done ++ flat_map g all ≡ total → new ++ flat_map g rest ≡ total
goes_on g done new total k d b rest all is made so_far =
    ap (λ xs. xs ++ flat_map g rest) made
    ∙ append_assoc done (cond b (g (k, d)) []) (flat_map g rest)
    ∙ ap (λ xs. done ++ xs) (told b)
    ∙ ap (λ xs. done ++ flat_map g xs) (sym is)
    ∙ so_far where
      told : (b : Bool) → cond b (g (k, d)) [] ++ flat_map g rest ≡ flat_map g (then_rest k d b rest)
      told true = refl
      told false = refl

module _ (table : Table) where
  abbrev pub tell_prefix : Prefix × Option Digest → List Message
  tell_prefix row = inner_message table row.0 ∷ []

  pub prefixes_begun : (theirs own their_rest own_rest : List PrefixDigest) (done : List Message) → done ≡ [] → their_rest ≡ theirs → own_rest ≡ own → own ≡ prefix_roots (rows_of table)
      → done ++ flat_map tell_prefix (differing prefix_cmp (map prefix_row_parts their_rest) (map prefix_row_parts own_rest)) ≡ answer_prefixes table theirs
  prefixes_begun theirs own their_rest own_rest done nothing t o are =
      (λ i. nothing i ++ flat_map tell_prefix (differing prefix_cmp (map prefix_row_parts (t i)) (map prefix_row_parts ((o ∙ are) i))))
      ∙ each_told (inner_message table) (λ p. find prefix_cmp p (map prefix_row_parts theirs)) (differing_keys prefix_cmp (map prefix_row_parts theirs) (map prefix_row_parts (prefix_roots (rows_of table))))

  module _ (p : Prefix) where
    abbrev key_of : List ℕ → Key
    key_of own_bytes = record { prefix = p; key = own_bytes }

    abbrev pub tell_key : List ℕ × Option Digest → List Message
    tell_key row = object_if_held table (record { prefix = p; key = row.0 }) ++ want_messages (record { prefix = p; key = row.0 }) row.1

    pub keys_begun : (leaf : ℕ) (theirs own their_rest own_rest : List KeyDigest) (done : List Message) → done ≡ [] → their_rest ≡ theirs → own_rest ≡ own → own ≡ bucket (rows_below p table) leaf
        → done ++ flat_map tell_key (differing bytes_cmp (map key_row_parts their_rest) (map key_row_parts own_rest)) ≡ answer_bucket table p leaf theirs
    keys_begun leaf theirs own their_rest own_rest done nothing t o are =
        (λ i. nothing i ++ flat_map tell_key (differing bytes_cmp (map key_row_parts (t i)) (map key_row_parts ((o ∙ are) i))))
        ∙ all_told tell_key (λ k. find bytes_cmp k (map key_row_parts theirs)) (differing_keys bytes_cmp (map key_row_parts theirs) (map key_row_parts (bucket (rows_below p table) leaf)))

-- nothing is left on either side
pub ended : {A K M : Type 0} (R : K → K → Ordering) (parts : A → K × Digest) (g : K × Option Digest → List M) (done total : List M) (theirs own : List A) → theirs ≡ [] → own ≡ []
    → done ++ flat_map g (differing R (map parts theirs) (map parts own)) ≡ total → done ≡ total
ended R parts g done total theirs own t o so_far =
    sym (append-nil done) ∙ (λ i. done ++ flat_map g (differing R (map parts (sym t i)) (map parts (sym o i)))) ∙ so_far
