use Rattle.std.proofs.Common.{◌≡◌, ◌≤◌, true, length, sym, subst, ◌∙◌, arith}
use Rattle.std.specs.List.{list_all}
use Rattle.std.proofs.lemmas.Bool.{leb-true}
use Rattle.meta_store.specs.Table.{has_few_values, most_entries}
use Rattle.meta_store.proofs.Sizes.{few_values_fit}
use Rattle.meta_store.proofs.size.is_small_enough.Goals as goal
use Rattle.meta_store.proofs.size.is_small_enough.Goals.{then-entries-le-MAX_ENTRIES, else-entries-le-MAX_ENTRIES}

pub object_len-requires : goal.object_len-requires
object_len-requires c =
    elim c.if-entries-le-MAX_ENTRIES.branch [
      | then-entries-le-MAX_ENTRIES w ↦
          let few : length c.args.object.now ≤ most_entries = subst (λ es. length es ≤ most_entries) c.entries-entries.ensures.value w.if-entries-le-MAX_ENTRIES.true in
          few_values_fit c.args.object.now c.entries-entries.ensures.lawful c.requires few
          (subst (λ es. list_all has_few_values es ≡ true) c.entries-entries.ensures.value (sym w.have_few_values.ensures ∙ sym w.value-is ∙ c.if-have_few_values.true))
      | else-entries-le-MAX_ENTRIES w ↦ let low : length c.entries-entries.result.now ≤ most_entries = leb-true (length c.entries-entries.result.now) most_entries (sym w.value-is ∙ c.if-have_few_values.true) in
          absurd (omega (arith, low, w.if-entries-le-MAX_ENTRIES.false))
    ]
