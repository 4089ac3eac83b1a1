-- A store after an object was held: its parts, its table and how many keys there are.
use Rattle.std.proofs.Common.{◌≡◌, ◌≢◌, ℕ, ◌+◌, Bool, true, false, cond, T, List, [], ◌∷◌, length, All, Option, Some, None, is_some, is_none, refl, sym, ap, subst, ◌∙◌, Bor}
use Rattle.std.specs.Bool.{passes}
use Rattle.std.specs.Option.{IfSome, option_copied}
use Rattle.std.specs.declared.cmp.Ordering.TheVariants.{Less, Equal, Greater}
use Rattle.std.specs.FinMap.{find, put, is_sorted}
use Rattle.std.specs.FinMap.Entries.{by_order, is_sorted-put, length-put}
use Rattle.meta_types.specs.Name.{Key, IsKey}
use Rattle.meta_types.specs.Order.{bytes_cmp, prefix_cmp, key_cmp}
use Rattle.dvvset.specs.Object.{Entry}
use Rattle.meta_store.specs.Table.{Table, IsHeld, IsTable, with_object}
use Rattle.meta_store.specs.Step.{is_full_for}
use Rattle.meta_store.specs.Kept.{AreParts, AreRows, Parts, Rows, rows_at, table_of}
use Rattle.meta_store.proofs.Keys.{key_total}
use Rattle.meta_store.proofs.Kept.{Filled, IsNamed, bytes_total, find_row, prefix_total, put_part}
use Rattle.meta_store.proofs.Maps.{All-put, All-put-found, is_true}
use Rattle.meta_store.proofs.Tables.{found_row, table_put}

never_empty : (n : List ℕ) (o : List Entry) (rows : Rows) → put bytes_cmp n o rows ≢ []
never_empty n o [] e = cc
never_empty n o (row ∷ rows) e = elim (bytes_cmp n row.0) as (λ c. by_order c ((n, o) ∷ row ∷ rows) ((row.0, o) ∷ rows) (row ∷ put bytes_cmp n o rows) ≡ [] → ⊥) [
  | Less ↦ λ is. cc
  | Equal ↦ λ is. cc
  | Greater ↦ λ is. cc
] e

counts : (found : Option (List Entry)) (b : Bool) (n : ℕ) → b ≡ is_none found → cond b (n + 1) n ≡ cond (is_some found) n (n + 1)
counts None true n e = refl
counts None false n e = cc
counts (Some x) true n e = cc
counts (Some x) false n e = refl

module _ (k : Key) (o : List Entry) (parts new : Parts) (are : AreParts parts) (e : new ≡ put prefix_cmp k.prefix (put bytes_cmp k.key o (rows_at k.prefix parts)) parts) where
  abbrev sorted : T (is_sorted prefix_cmp parts)
  sorted = passes (is_sorted prefix_cmp parts) are.rising

  pub table_after : table_of new ≡ with_object k o (table_of parts)
  table_after = ap table_of e ∙ put_part k.prefix k.key o parts sorted are.filled

  pub parts_after : IsKey k → IsHeld o → is_full_for (table_of parts) k ≡ false → AreParts new
  parts_after key held room =
      let rows : Rows = put bytes_cmp k.key o (rows_at k.prefix parts) in
      record {
        rising = is_true (is_sorted prefix_cmp new) (subst (λ ps. T (is_sorted prefix_cmp ps)) (sym e) (is_sorted-put prefix_cmp prefix_total k.prefix rows parts sorted));
        filled = subst (All Filled) (sym e) (All-put prefix_cmp Filled k.prefix rows parts are.filled (never_empty k.key o (rows_at k.prefix parts)) (λ part filled. never_empty k.key o (rows_at k.prefix parts)));
        table = subst IsTable (sym table_after) (table_put k o (table_of parts) are.table key held room);
      }

  pub length_after : (b : Bool) → b ≡ is_none (find bytes_cmp k.key (rows_at k.prefix parts)) → cond b (length (table_of parts) + 1) (length (table_of parts)) ≡ length (table_of new)
  length_after b is =
      counts (find bytes_cmp k.key (rows_at k.prefix parts)) b (length (table_of parts)) is
      ∙ ap (λ f. cond (is_some f) (length (table_of parts)) (length (table_of parts) + 1)) (sym (find_row k parts sorted))
      ∙ sym (length-put key_cmp key_total k o (table_of parts) (passes (is_sorted key_cmp (table_of parts)) are.table.rising))
      ∙ ap length (sym table_after)

-- rows with another object under a key that is among them
pub rows_with : (n : List ℕ) (held o : List Entry) (rows : Rows) → find bytes_cmp n rows ≡ Some held → AreRows rows → AreRows (put bytes_cmp n o rows)
rows_with n held o rows found are =
    let sorted : T (is_sorted bytes_cmp rows) = passes (is_sorted bytes_cmp rows) are.rising in
    record {
      rising = is_true (is_sorted bytes_cmp (put bytes_cmp n o rows)) (is_sorted-put bytes_cmp bytes_total n o rows sorted);
      named = All-put-found bytes_cmp bytes_total IsNamed n held o rows sorted found are.named (λ row named. named);
    }

-- what is found under a key may be held
pub held_if_found : (k : Key) (table : Table) (r : Option (Bor (List Entry))) → IsTable table → option_copied r ≡ find key_cmp k table → IfSome r (λ object. IsHeld object.now)
held_if_found k table None is e = tt
held_if_found k table (Some x) is e = (found_row k table x.now is.held is.keys (sym e)).held
