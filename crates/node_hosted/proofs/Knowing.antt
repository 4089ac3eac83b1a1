-- Tables with one object more, and which of them know all that others do.
use Rattle.std.proofs.Common.{◌≡◌, ◌≢◌, true, cond, List, [], Option, Some, None, refl, sym, subst}
use Rattle.std.specs.Option.{unwrap_or}
use Rattle.std.specs.Ordering.{is_eq}
use Rattle.std.specs.declared.cmp.Ordering.{Ordering}
use Rattle.std.specs.declared.cmp.Ordering.TheVariants.{Less, Equal, Greater}
use Rattle.std.specs.FinMap.{find}
use Rattle.std.specs.FinMap.Entries.{find-put}
use Rattle.meta_types.specs.Name.{Key}
use Rattle.meta_types.specs.Order.{key_cmp}
use Rattle.dvvset.specs.Clock.{descends, join}
use Rattle.dvvset.specs.Object.{Entry}
use Rattle.meta_store.specs.Table.{IsTable, Table, object_at, with_object}
use Rattle.meta_store.proofs.Keys.{key_total, same_key}
use Rattle.node_core.specs.Growing.{Descends, KeepsKeys}
use Rattle.node_core.proofs.Growing.{descends_itself}

-- with an object that is known to the other table too, the one is still known to it
pub put_known : (one other : Table) (key : Key) (o : List Entry) → Descends one other
    → descends (join (object_at other key)) (join o) ≡ true → Descends (with_object key o one) other
put_known one other key o known it k =
    subst (λ (found : Option (List Entry)). descends (join (object_at other k)) (join (unwrap_or found [])) ≡ true)
    (sym (find-put key_cmp key_total k key o one))
    (elim (key_cmp k key) as (λ (r : Ordering). key_cmp k key ≡ r → descends (join (object_at other k)) (join (unwrap_or (cond (is_eq r) (Some o) (find key_cmp k one)) [])) ≡ true) [
      | Less ↦ λ is. known k
      | Equal ↦ λ is. subst (λ (q : Key). descends (join (object_at other q)) (join o) ≡ true) (sym (same_key k key is)) it
      | Greater ↦ λ is. known k
    ] refl)

-- with an object that knows all events of the one before it, the table knows all that it knew
pub put_grows : (one : Table) (key : Key) (o : List Entry) → IsTable one → descends (join o) (join (object_at one key)) ≡ true
    → Descends one (with_object key o one)
put_grows one key o rows it k =
    subst (λ (found : Option (List Entry)). descends (join (unwrap_or found [])) (join (object_at one k)) ≡ true)
    (sym (find-put key_cmp key_total k key o one))
    (elim (key_cmp k key) as (λ (r : Ordering). key_cmp k key ≡ r → descends (join (unwrap_or (cond (is_eq r) (Some o) (find key_cmp k one)) [])) (join (object_at one k)) ≡ true) [
      | Less ↦ λ is. descends_itself one rows k
      | Equal ↦ λ is. subst (λ (q : Key). descends (join o) (join (object_at one q)) ≡ true) (sym (same_key k key is)) it
      | Greater ↦ λ is. descends_itself one rows k
    ] refl)

-- and it keeps its keys
pub put_keeps : (one : Table) (key : Key) (o : List Entry) → KeepsKeys one (with_object key o one)
put_keeps one key o k some =
    subst (λ (found : Option (List Entry)). found ≢ None) (sym (find-put key_cmp key_total k key o one))
    (elim (key_cmp k key) as (λ (r : Ordering). cond (is_eq r) (Some o) (find key_cmp k one) ≢ None) [
      | Less ↦ some
      | Equal ↦ λ none. let clash : Some o ≡ None = none in absurd (cc)
      | Greater ↦ some
    ])
