-- The comparisons of plain parts: equal exactly if all parts are.
use Rattle.std.specs.Prelude.{◌≡◌, ℕ, nat_eq, Bool, ◌&&◌, List, Option, Some, None, refl}
use Rattle.std.specs.Ordering.{on, eq_of_both}
use Rattle.std.specs.Option.{option_eq}
use Rattle.std.specs.Bool.{Decides}
use Rattle.std.specs.Cmp.{IsEquivalence, decided, unsigned_Decides}
use Rattle.std.specs.Cmp.Lexicographic.{pointwise, pointwise_decides, bytes_decides}
use Rattle.meta_types.specs.Value.{ValueParts}
use Rattle.meta_types.specs.Ties.{both_decide}
use Rattle.dvvset.specs.Object.{Entry, Counter}

abbrev pub value_eq : ValueParts → ValueParts → Bool
value_eq = eq_of_both (on (λ v. v.stamp) nat_eq) (on (λ v. v.body) (option_eq (pointwise nat_eq)))

abbrev pub values_eq : List ValueParts → List ValueParts → Bool
values_eq = pointwise value_eq

abbrev pub entry_eq : Entry → Entry → Bool
entry_eq = eq_of_both (on (λ e. e.id) nat_eq)
    (eq_of_both (on (λ e. e.count) nat_eq) (on (λ e. e.values) values_eq))

abbrev pub entries_eq : List Entry → List Entry → Bool
entries_eq = pointwise entry_eq

abbrev pub counter_eq : Counter → Counter → Bool
counter_eq = eq_of_both (on (λ c. c.id) nat_eq) (on (λ c. c.count) nat_eq)

abbrev pub counters_eq : List Counter → List Counter → Bool
counters_eq = pointwise counter_eq

-- Each comparison decides equality of all parts, and so meets the laws of `==`.
body_eq-Decides : (v w : Option (List ℕ)) → Decides (option_eq (pointwise nat_eq) v w) (v ≡ w)
body_eq-Decides None None = ((λ h. refl), (λ h. refl))
body_eq-Decides None (Some ys) = ((λ h. cc), (λ h. cc))
body_eq-Decides (Some xs) None = ((λ h. cc), (λ h. cc))
body_eq-Decides (Some xs) (Some ys) =
    let bytes = bytes_decides xs ys in
    ((λ h i. Some (bytes.0 h i)), (λ h. bytes.1 (let same : xs ≡ ys = cc in same)))

pub value_eq-Decides : (v w : ValueParts) → Decides (value_eq v w) (v ≡ w)
value_eq-Decides v w = both_decide
    (nat_eq v.stamp w.stamp) (option_eq (pointwise nat_eq) v.body w.body)
    (unsigned_Decides v.stamp w.stamp) (body_eq-Decides v.body w.body)
    (λ stamps bodies i. record { stamp = stamps i; body = bodies i })
    (λ same i. (same i).stamp) (λ same i. (same i).body)

pub values_eq-Decides : (vs ws : List ValueParts) → Decides (values_eq vs ws) (vs ≡ ws)
values_eq-Decides = pointwise_decides value_eq-Decides

counted_eq : Entry → Entry → Bool
counted_eq x y = nat_eq x.count y.count && values_eq x.values y.values

counted_eq-Decides : (x y : Entry)
    → Decides (counted_eq x y) ((x.count ≡ y.count) × (x.values ≡ y.values))
unfolding counted_eq
counted_eq-Decides x y = both_decide
    (nat_eq x.count y.count) (values_eq x.values y.values)
    (unsigned_Decides x.count y.count) (values_eq-Decides x.values y.values)
    (λ counts values. (counts, values)) (λ same. same.0) (λ same. same.1)

pub entry_eq-Decides : (x y : Entry) → Decides (entry_eq x y) (x ≡ y)
unfolding counted_eq
entry_eq-Decides x y = both_decide
    (nat_eq x.id y.id) (counted_eq x y)
    (unsigned_Decides x.id y.id) (counted_eq-Decides x y)
    (λ ids rest i. record { id = ids i; count = rest.0 i; values = rest.1 i })
    (λ same i. (same i).id) (λ same. ((λ i. (same i).count), (λ i. (same i).values)))

pub entries_eq-Decides : (es fs : List Entry) → Decides (entries_eq es fs) (es ≡ fs)
entries_eq-Decides = pointwise_decides entry_eq-Decides

pub counter_eq-Decides : (c d : Counter) → Decides (counter_eq c d) (c ≡ d)
counter_eq-Decides c d = both_decide
    (nat_eq c.id d.id) (nat_eq c.count d.count)
    (unsigned_Decides c.id d.id) (unsigned_Decides c.count d.count)
    (λ ids counts i. record { id = ids i; count = counts i })
    (λ same i. (same i).id) (λ same i. (same i).count)

pub counters_eq-Decides : (cs ds : List Counter) → Decides (counters_eq cs ds) (cs ≡ ds)
counters_eq-Decides = pointwise_decides counter_eq-Decides

pub entry_equivalence : IsEquivalence entry_eq
entry_equivalence = decided entry_eq entry_eq-Decides

pub entries_equivalence : IsEquivalence entries_eq
entries_equivalence = decided entries_eq entries_eq-Decides

pub counters_equivalence : IsEquivalence counters_eq
counters_equivalence = decided counters_eq counters_eq-Decides
