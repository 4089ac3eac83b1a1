-- A write that isn't refused, and a merge that isn't, leave an object that may be held, and there is room for it.
use Rattle.std.proofs.Common.{◌≡◌, ◌≢◌, ℕ, ◌<◌, ◌≤◌, ◌^◌, ◌==◌, max, Bool, true, false, cond, List, [], Option, Some, None, refl, sym, ap, subst, ◌∙◌, arith}
use Rattle.std.specs.FinMap.{find}
use Rattle.std.specs.Option.{unwrap_or}
use Rattle.std.proofs.lemmas.Bool.{eqb-false, not-false}
use Rattle.std.proofs.lemmas.List.Elements.{All-nil}
use Rattle.meta_types.specs.Actor.{IsWriter, writer_number}
use Rattle.meta_types.specs.Name.{Key}
use Rattle.meta_types.specs.Node.{IsNode}
use Rattle.meta_types.specs.Order.{key_cmp}
use Rattle.meta_types.specs.Value.{IsValue, ValueParts}
use Rattle.dvvset.specs.Object.{Counter, Entry, IsEntry, IsObject, IsVector}
use Rattle.dvvset.specs.Clock.{blanks, count_for, join, sync, update}
use Rattle.dvvset.specs.Writer.{count_of, entry_of}
use Rattle.dvvset.proofs.Writers.{IsObject-blanks, IsObject-raise, IsObject-sync, IsOf, count_at, count_of-entry, entry_is_of, known_counts, raise_shows}
use Rattle.frame_fields.specs.Field.{greatest_count, has_value}
use Rattle.meta_store.specs.Context.{Reading, vector_read}
use Rattle.meta_store.specs.Step.{is_full_for, merge_of, object_after_put, refusal_of_merge, refusal_of_put, refusal_of_sync}
use Rattle.meta_store.specs.Table.{IsHeld, IsTable, Table, is_small_enough, is_stale, most_merged, most_written, object_at}
use Rattle.meta_store.proofs.Sizes.{has_value_from_values, small_more}
use Rattle.meta_store.proofs.Tables.{found_row}

-- ---- what is held

object_of : (found : Option (List Entry)) → ((o : List Entry) → found ≡ Some o → IsObject o) → IsObject (unwrap_or found [])
object_of None each = record { rising = tt; entries = All-nil IsEntry }
object_of (Some o) each = each o refl

pub held_lawful : (table : Table) (key : Key) → IsTable table → IsObject (object_at table key)
held_lawful table key is = object_of (find key_cmp key table) (λ o e. (found_row key table o is.held is.keys e).held.lawful)

-- ---- counts

count_below : (w : ℕ) (found : Option Entry) → IsOf w found → count_at found < 2 ^ 64
count_below w None is = omega arith
count_below w (Some e) is = is.0.counted.most

counted_below : (es : List Entry) (w : ℕ) → IsObject es → count_of es w < 2 ^ 64
counted_below es w is =
    subst (λ n. n < 2 ^ 64) (sym (count_of-entry es w)) (count_below w (entry_of es w) (entry_is_of es w is.entries))

not_greatest : (n : ℕ) → n < 2 ^ 64 → n ≢ greatest_count → n < 18446744073709551615
not_greatest n most other = omega arith

-- ---- a list of refusals of which none applies

pub none_first : {F : Type 0} (b : Bool) (x : F) (rest : Option F) → cond b (Some x) rest ≡ None → (b ≡ false) × (rest ≡ None)
none_first true x rest e = absurd (cc)
none_first false x rest e = (refl, e)

-- ---- a write

pub writer_of_life : (node incarnation : ℕ) → IsNode node → incarnation < 2 ^ 32 → IsWriter (writer_number node incarnation)
writer_of_life node incarnation is life = omega arith

written_below : most_written ≤ most_merged
written_below = omega arith

-- an object for which there is room, and which may be held
pub record Holds (table : Table) (key : Key) (object : List Entry) : Type 0 where
  pub room : is_full_for table key ≡ false
  pub held : IsHeld object

module _ (table : Table) (is : IsTable table) (key : Key) where
  raised : (read : List Counter) (id : ℕ) (value : ValueParts) → IsWriter id → IsValue value → IsVector read
      → (max (count_for read id) (count_of (object_at table key) id) == greatest_count) ≡ false
      → IsObject (update read (object_at table key) id value)
  raised read id value writer lawful vector left =
      let old = object_at table key in
      let known = sync (blanks read) old in
      let object = held_lawful table key is in
      let whole : IsObject known = IsObject-sync (blanks read) old (IsObject-blanks read vector) object in
      let counts : count_of known id ≡ max (count_for read id) (count_of old id) = known_counts read old vector object id in
      let unequal : max (count_for read id) (count_of old id) ≢ greatest_count =
      eqb-false (max (count_for read id) (count_of old id)) greatest_count left in
      IsObject-raise id value known writer lawful whole
      (not_greatest (count_of known id) (counted_below known id whole) (λ e. unequal (sym counts ∙ e)))

  pub put_holds : (id : ℕ) (value : ValueParts) (context : Option Reading) → IsWriter id → IsValue value
      → IsVector (vector_read context)
      → refusal_of_put table id key value context ≡ None → Holds table key (object_after_put table id key value context)
  put_holds id value context writer lawful vector accepted =
      let object = object_after_put table id key value context in
      let known = sync (blanks (vector_read context)) (object_at table key) in
      let own = none_first _ _ _ accepted in
      let room = none_first _ _ _ own.1 in
      let left = none_first _ _ _ room.1 in
      let small = none_first _ _ _ left.1 in
      record {
        room = room.0;
        held = record {
          lawful = raised (vector_read context) id value writer lawful vector left.0;
          shows = has_value_from_values object (raise_shows id value known);
          small =
              small_more object most_written most_merged written_below (not-false (is_small_enough most_written object) small.0);
        };
      }

  -- ---- a merge

  pub merge_holds : (came : List Entry) → IsObject came → is_stale table key (join came) ≡ false
      → refusal_of_merge table key came ≡ None
      → Holds table key (merge_of table key came)
  merge_holds came lawful fresh accepted =
      let refusal = refusal_of_sync (object_at table key) came (is_full_for table key) in
      let none : refusal ≡ None = sym (ap (λ b. cond b None refusal) fresh) ∙ accepted in
      let shows = none_first _ _ _ none in
      let room = none_first _ _ _ shows.1 in
      let small = none_first _ _ _ room.1 in
      record {
        room = room.0;
        held = record {
          lawful = IsObject-sync (object_at table key) came (held_lawful table key is) lawful;
          shows = not-false (has_value (merge_of table key came)) shows.0;
          small = not-false (is_small_enough most_merged (merge_of table key came)) small.0;
        };
      }
