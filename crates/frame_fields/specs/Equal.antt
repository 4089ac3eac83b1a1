-- The comparisons of lists of fields: equal exactly if all parts are.
use Rattle.std.specs.Prelude.{◌≡◌, ℕ, nat_eq, Bool, List}
use Rattle.std.specs.Ordering.{on, eq_of_both}
use Rattle.std.specs.Bool.{Decides}
use Rattle.std.specs.Cmp.{IsEquivalence, decided}
use Rattle.std.specs.Cmp.Lexicographic.{pointwise, pointwise_decides, bytes_decides}
use Rattle.meta_types.specs.Equal.{prefix_parts_eq, prefixes_decide}
use Rattle.meta_types.specs.Ties.{both_decide}
use Rattle.frame_fields.specs.declared.prefixes.PrefixDigest.{PrefixDigest}
use Rattle.frame_fields.specs.declared.keys.KeyDigest.{KeyDigest}

abbrev pub nodes_eq : List ℕ → List ℕ → Bool
nodes_eq = pointwise nat_eq

abbrev pub digests_eq : List (List ℕ) → List (List ℕ) → Bool
digests_eq = pointwise (pointwise nat_eq)

abbrev pub prefix_row_eq : PrefixDigest → PrefixDigest → Bool
prefix_row_eq =
    eq_of_both (on (λ r. r.prefix) prefix_parts_eq) (on (λ r. r.digest) (pointwise nat_eq))

abbrev pub prefixes_eq : List PrefixDigest → List PrefixDigest → Bool
prefixes_eq = pointwise prefix_row_eq

abbrev pub key_row_eq : KeyDigest → KeyDigest → Bool
key_row_eq = eq_of_both (on (λ r. r.key) (pointwise nat_eq)) (on (λ r. r.digest) (pointwise nat_eq))

abbrev pub keys_eq : List KeyDigest → List KeyDigest → Bool
keys_eq = pointwise key_row_eq

pub nodes_eq-Decides : (ns ms : List ℕ) → Decides (nodes_eq ns ms) (ns ≡ ms)
nodes_eq-Decides = bytes_decides

pub nodes_equivalence : IsEquivalence nodes_eq
nodes_equivalence = decided nodes_eq nodes_eq-Decides

pub digests_eq-Decides : (ds es : List (List ℕ)) → Decides (digests_eq ds es) (ds ≡ es)
digests_eq-Decides = pointwise_decides bytes_decides

pub digests_equivalence : IsEquivalence digests_eq
digests_equivalence = decided digests_eq digests_eq-Decides

prefix_row_eq-Decides : (r s : PrefixDigest) → Decides (prefix_row_eq r s) (r ≡ s)
prefix_row_eq-Decides r s = both_decide
    (prefix_parts_eq r.prefix s.prefix) (pointwise nat_eq r.digest s.digest)
    (prefixes_decide r.prefix s.prefix) (bytes_decides r.digest s.digest)
    (λ prefixes digests i. record { prefix = prefixes i; digest = digests i })
    (λ same i. (same i).prefix) (λ same i. (same i).digest)

pub prefixes_eq-Decides : (rs ss : List PrefixDigest) → Decides (prefixes_eq rs ss) (rs ≡ ss)
prefixes_eq-Decides = pointwise_decides prefix_row_eq-Decides

pub prefixes_equivalence : IsEquivalence prefixes_eq
prefixes_equivalence = decided prefixes_eq prefixes_eq-Decides

key_row_eq-Decides : (r s : KeyDigest) → Decides (key_row_eq r s) (r ≡ s)
key_row_eq-Decides r s = both_decide
    (pointwise nat_eq r.key s.key) (pointwise nat_eq r.digest s.digest)
    (bytes_decides r.key s.key) (bytes_decides r.digest s.digest)
    (λ keys digests i. record { key = keys i; digest = digests i })
    (λ same i. (same i).key) (λ same i. (same i).digest)

pub keys_eq-Decides : (rs ss : List KeyDigest) → Decides (keys_eq rs ss) (rs ≡ ss)
keys_eq-Decides = pointwise_decides key_row_eq-Decides

pub keys_equivalence : IsEquivalence keys_eq
keys_equivalence = decided keys_eq keys_eq-Decides
