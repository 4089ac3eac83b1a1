-- The order of keys is total, and only equal keys tie.
use Rattle.std.proofs.Common.{◌≡◌, ap, ◌∙◌}
use Rattle.std.specs.declared.cmp.Ordering.{Ordering}
use Rattle.std.specs.declared.cmp.Ordering.TheVariants.{Equal}
use Rattle.std.specs.Ordering.{ordering_reverse}
use Rattle.std.specs.Cmp.{IsTotalOrder, then_total, on_total}
use Rattle.std.specs.Cmp.Lexicographic.{nat_list_cmp_total}
use Rattle.meta_types.specs.Name.{Key}
use Rattle.meta_types.specs.Order.{bytes_cmp, prefix_cmp, key_cmp}
use Rattle.meta_types.proofs.Comparing.{equal_from_then, same_prefix, same_bytes}

pub key_total : IsTotalOrder key_cmp
key_total =
    then_total
    (on_total (λ k. k.prefix) (then_total (on_total (λ p. p.prefix) nat_list_cmp_total) (on_total (λ p. p.sub) nat_list_cmp_total)))
    (on_total (λ k. k.key) nat_list_cmp_total)

-- only equal keys tie
pub same_key : (k l : Key) → key_cmp k l ≡ Equal → k ≡ l
same_key k l h =
    let both = equal_from_then (prefix_cmp k.prefix l.prefix) (bytes_cmp k.key l.key) h in
    λ i. record { prefix = same_prefix k.prefix l.prefix both.0 i; key = same_bytes k.key l.key both.1 i }

-- the comparison the other way round
pub flipped : (k l : Key) (o : Ordering) → key_cmp k l ≡ o → key_cmp l k ≡ ordering_reverse o
flipped k l o e = key_total.antisymm l k ∙ ap ordering_reverse e
