-- What the limits of a store say of records, and of the tables that records make.
use Rattle.std.proofs.Common.{◌≡◌, ℕ, ◌+◌, ◌<◌, ◌≤◌, Bool, true, false, not, T, ◌&&◌, cond, List, [], ◌∷◌, length, Option, Some, None, is_some, is_none, refl, subst, arith, leb}
use Rattle.std.specs.Bool.{passes}
use Rattle.std.specs.Cmp.{first_so, second_so}
use Rattle.std.specs.List.{list_all}
use Rattle.std.specs.FinMap.{find, put, is_sorted}
use Rattle.std.specs.FinMap.Entries.{length-put}
use Rattle.std.proofs.lemmas.Bool.{leb-true, leb-false}
use Rattle.meta_types.specs.First.{first_that_applies}
use Rattle.meta_types.specs.Name.{Key}
use Rattle.meta_types.specs.Order.{key_cmp}
use Rattle.dvvset.specs.Object.{Entry, IsObject}
use Rattle.frame_fields.specs.Field.{has_value, object}
use Rattle.meta_store.specs.Table.{Table, IsHeld, IsTable, has_few_values, is_small_enough, most_entries, most_keys, most_merged, with_object}
use Rattle.meta_store.specs.Step.{is_full_for}
use Rattle.meta_store.proofs.Keys.{key_total}
use Rattle.meta_store.proofs.Sizes.{few_values_fit, held_fits}
use Rattle.node_file.specs.declared.record.Record.TheVariants.{Object}
use Rattle.node_file.specs.Fold.{Contents}
use Rattle.meta_store.specs.declared.fault.StoreFault.TheVariants.{ObjectTooLarge}
use Rattle.node_file.specs.declared.fault.FileFault.TheVariants.{FileFull, Stopped, Store}
use Rattle.node_file.specs.Record.{payload}
use Rattle.node_file.specs.Refusal.{has_spelling, is_too_long_with, most_file, refusal_of_append}
use Rattle.node_file.proofs.Parting.{at_least}
use Rattle.node_file.specs.Reads.{WouldBeTooMany}

pub held_spells : (es : List Entry) → IsHeld es → object.Fits es
held_spells es is = held_fits es is

pub recorded_fits : (es : List Entry) → IsObject es → has_value es ≡ true → has_spelling es ≡ true → object.Fits es
recorded_fits es is shows record_ =
    few_values_fit es is shows (leb-true (length es) most_entries (first_so (leb (length es) most_entries) (list_all has_few_values es) record_)) (second_so (leb (length es) most_entries) (list_all has_few_values es) record_)

large : (few values short : Bool) → (few && values) ≡ false → (few && (values && short)) ≡ false
large true true short e = absurd cc
large true false short e = refl
large false values short e = refl

pub unrecorded_is_large : (es : List Entry) → has_spelling es ≡ false → is_small_enough most_merged es ≡ false
unrecorded_is_large es none = large (leb (length es) most_entries) (list_all has_few_values es) (leb (length (object.spell es)) most_merged) none

not_true : (b : Bool) → (b ≡ true → ⊥) → b ≡ false
not_true true isnt = absurd (isnt refl)
not_true false isnt = refl

pub unheld_is_large : (es : List Entry) → IsObject es → has_value es ≡ true → (IsHeld es → ⊥) → is_small_enough most_merged es ≡ false
unheld_is_large es is shows isnt = not_true (is_small_enough most_merged es) (λ small. isnt (record { lawful = is; shows = shows; small = small }))

-- when an object is refused
pub ruleset of_refusals = (recorded_fits, unrecorded_is_large, unheld_is_large)

-- the record of an object that isn't refused doesn't make the file too long
not_long : (spelled long small : Bool) → (spelled ≡ false → small ≡ false)
    → first_that_applies ((false, Stopped) ∷ (spelled && long, FileFull) ∷ (not small, Store ObjectTooLarge) ∷ []) ≡ None → long ≡ false
not_long true true small large e = absurd cc
not_long true false small large e = refl
not_long false long true large e = absurd (subst T (large refl) tt)
not_long false long false large e = absurd cc

pub object_short : (gate : ℕ) (k : Key) (o : List Entry) → refusal_of_append false gate k o ≡ None → gate + 38 + length (payload (Object k o)) ≤ most_file
object_short gate k o none =
    at_least most_file (gate + 38 + length (payload (Object k o)))
    (not_long (has_spelling o) (is_too_long_with gate (Object k o)) (is_small_enough most_merged o) (unrecorded_is_large o) none)

-- ---- how many keys there are

size_put : (found : Option (List Entry)) (n m : ℕ) → m ≡ cond (is_some found) n (n + 1) → (is_none found && leb most_keys n) ≡ false → n ≤ most_keys → m ≤ most_keys
size_put None n m is room few = let less : n < most_keys = leb-false most_keys n room in omega (arith, is, less)
size_put (Some o) n m is room few = omega (arith, is, few)

-- if there is room for a key, they aren't too many with it
pub few_with : (k : Key) (o : List Entry) (table : Table) → is_sorted key_cmp table ≡ true → length table ≤ most_keys → is_full_for table k ≡ false → length (with_object k o table) ≤ most_keys
few_with k o table sorted few room = size_put (find key_cmp k table) (length table) (length (put key_cmp k o table)) (length-put key_cmp key_total k o table (passes (is_sorted key_cmp table) sorted)) room few

size_over : (found : Option (List Entry)) (n m : ℕ) → m ≡ cond (is_some found) n (n + 1) → (is_none found && leb most_keys n) ≡ true → most_keys < m
size_over None n m is full = let most : most_keys ≤ n = leb-true most_keys n full in omega (arith, is, most)
size_over (Some o) n m is full = absurd cc

pub would_be_too_many : (c : Contents) (k : Key) (o : List Entry) → IsTable c.table → is_full_for c.table k ≡ true → WouldBeTooMany c c (Object k o)
would_be_too_many c k o is full = record {
  may = refl;
  same = refl;
  life = refl;
  many = size_over (find key_cmp k c.table) (length c.table) (length (put key_cmp k o c.table)) (length-put key_cmp key_total k o c.table (passes (is_sorted key_cmp c.table) is.rising)) full;
}
