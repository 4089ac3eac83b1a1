-- The best so far of a loop, by either order, is at the end the first of the greatest.
use Rattle.std.proofs.Common.{rules, ◌≡◌, ◌<◌, ℕ, Bool, true, false, not, List, length, slice_index_or, Option, None, ap, sym, arith}
use Rattle.std.specs.Cmp.{IsTotalOrder, IsStrictWeakOrder}
use Rattle.std.specs.Cmp.Rules.{comparing}
use Rattle.std.specs.List.{IsFirstBest, All}
use Rattle.std.specs.Ordering.{is_lt}
use Rattle.std.proofs.lemmas.List.Elements.{All-from_get_or}
use Rattle.std.proofs.lemmas.List.Folds.{list_all_at}
use Rattle.std.proofs.lemmas.List.MinMax.{ranks_by, IsStrictWeakOrder-flip}
use Rattle.std.proofs.lemmas.List.Sums.{list_all-from_AllPass, position_or_len_is}
use Rattle.meta_types.specs.Value.{ValueParts}
use Rattle.resolvers.specs.declared.resolver.Rank.{Rank}
use Rattle.resolvers.specs.declared.resolver.Rank.TheVariants.{ByStamp, ByBody}
use Rattle.resolvers.specs.Greatest.{first_greatest, is_greatest}
use Rattle.resolvers.specs.Ranks.{order_of}

-- whether x is the greater of the two
abbrev pub beats : Rank → ValueParts → ValueParts → Bool
beats rank x y = is_lt (order_of rank y x)

is_total : (rank : Rank) → IsTotalOrder (order_of rank)
is_total ByStamp = Prim.search (comparing, rules)
is_total ByBody = Prim.search (comparing, rules)

pub beats_is_an_order : (rank : Rank) → IsStrictWeakOrder (beats rank)
beats_is_an_order rank =
    IsStrictWeakOrder-flip (λ x y. is_lt (order_of rank x y)) (ranks_by (is_total rank) (λ v. v))

pub first_best_is_first_greatest : (rank : Rank) (values : List ValueParts) (i b : ℕ)
    → IsFirstBest (beats rank) values i b → i ≡ length values
    → b ≡ first_greatest (order_of rank) values
first_best_is_first_greatest rank values i b best end =
    let d : ValueParts = record { stamp = 0; body = None } in
    let is_best = is_greatest (order_of rank) values in
    let inside : b < length values = omega (arith, best.0, end) in
    let earlier : (k : ℕ) → k < b → is_best (slice_index_or values k d) ≡ false =
    λ k before. list_all_at _ values b d inside (ap not (best.2 k d before)) in
    let passes : is_best (slice_index_or values b d) ≡ true =
    list_all-from_AllPass _ values
    (All-from_get_or (λ w. not (beats rank w (slice_index_or values b d)) ≡ true) values d (λ k in_list. ap not (best.1 k d (omega (arith, in_list, end))))) in
    sym (position_or_len_is is_best values b d (omega (arith, inside)) earlier (λ _. passes))
