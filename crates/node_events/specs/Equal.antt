-- Lists of values, of changes and of frames are equal if all their parts are.
use Rattle.std.specs.Prelude.{◌≡◌, ℕ, Bool, List, nat_eq}
use Rattle.std.specs.Bool.{Decides}
use Rattle.std.specs.Ordering.{on, eq_of_both}
use Rattle.std.specs.Cmp.{IsEquivalence, decided}
use Rattle.std.specs.Cmp.Lexicographic.{pointwise, pointwise_decides, bytes_decides}
use Rattle.meta_types.specs.Equal.{key_eq, keys_decide}
use Rattle.meta_types.specs.Ties.{both_decide}
use Rattle.dvvset.specs.Equal.{counters_eq, counters_eq-Decides, values_eq, values_eq-Decides}
use Rattle.subscriptions.specs.declared.change.Change.{Change}

abbrev pub change_eq : Change → Change → Bool
change_eq = eq_of_both (on (λ c. c.key) key_eq) (on (λ c. c.vector) counters_eq)

abbrev pub changes_eq : List Change → List Change → Bool
changes_eq = pointwise change_eq

-- frames, as their bytes
abbrev pub frames_eq : List (List ℕ) → List (List ℕ) → Bool
frames_eq = pointwise (pointwise nat_eq)

pub frames_eq-Decides : (fs gs : List (List ℕ)) → Decides (frames_eq fs gs) (fs ≡ gs)
frames_eq-Decides = pointwise_decides bytes_decides

pub frames_equivalence : IsEquivalence frames_eq
frames_equivalence = decided frames_eq frames_eq-Decides

pub values_equivalence : IsEquivalence values_eq
values_equivalence = decided values_eq values_eq-Decides

change_eq-Decides : (c d : Change) → Decides (change_eq c d) (c ≡ d)
change_eq-Decides c d = both_decide
    (key_eq c.key d.key) (counters_eq c.vector d.vector)
    (keys_decide c.key d.key) (counters_eq-Decides c.vector d.vector)
    (λ keys vectors i. record { key = keys i; vector = vectors i })
    (λ same i. (same i).key) (λ same i. (same i).vector)

pub changes_eq-Decides : (cs ds : List Change) → Decides (changes_eq cs ds) (cs ≡ ds)
changes_eq-Decides = pointwise_decides change_eq-Decides

pub changes_equivalence : IsEquivalence changes_eq
changes_equivalence = decided changes_eq changes_eq-Decides
