use Rattle.std.proofs.Common.{refl, ◌≡◌, Some, None, [], IfOk, IfNone, IfSome, OnErr, false, is_none, sym, ap, subst, ◌∙◌}
use Rattle.std.specs.Bool.{passes}
use Rattle.std.specs.BTreeMap.{BTreeMap, is_at}
use Rattle.std.specs.Option.{unwrap_or}
use Rattle.meta_types.specs.Name.{Prefix}
use Rattle.meta_store.proofs.Kept.{find_row, rows_absent}
use Rattle.std.specs.FinMap.{find, is_sorted, put}
use Rattle.std.specs.Map.{lookup, set_value}
use Rattle.dvvset.specs.Clock.{update}
use Rattle.meta_types.specs.Failing.{FailsBy}
use Rattle.meta_types.specs.Order.{bytes_cmp, prefix_cmp}
use Rattle.meta_store.specs.Kept.{Rows, object_of_row, table_of}
use Rattle.meta_store.specs.Table.{IsHeld, object_at, with_object}
use Rattle.meta_store.specs.Step.{is_full_for, refusal_of_update}
use Rattle.meta_store.specs.declared.fault.StoreFault.TheVariants.{Memory}
use Rattle.meta_store.proofs.Maps.{on_err_more}
use Rattle.meta_store.proofs.Writing.{if_none_more, if_some_more, kept_after, object_there, parts_left, room_there, table_put_there}
use Rattle.meta_store.proofs.store.Store.put_held.Goals as goal

pub returns-in_default-clause-left : goal.returns-in_default-clause-left
returns-in_default-clause-left c =
    let parts = c.self.inside.parts.entries in
    let k = c.args.key.now in
    let absent : object_at (table_of parts) k ≡ [] =
    ap (λ x. unwrap_or x [])
    (find_row k parts (passes (is_sorted prefix_cmp parts) c.self.invariant.parts.rising)
    ∙ ap (find bytes_cmp k.key) (rows_absent k.prefix parts (rw (← c.prefix.ensures.value) c.in_default.ensures.value))) in
    let same : c.get_mut.follows.lender-at-none.entries ≡ parts = ap (λ (m : BTreeMap Prefix Rows). m.entries) c.get_mut.follows.holds-at-none in
    (refl, (ap (λ table. object_at table k) (sym c.self.view_is) ∙ absent, ap table_of same ∙ c.self.view_is))

pub invariant_of-self-2 : goal.invariant_of-self-2
invariant_of-self-2 c =
    let parts = c.self.inside.parts.entries in
    let k = c.args.key.now in
    let before = c.in-Some.rows.now in
    let found : Some before ≡ lookup (is_at (prefix_cmp k.prefix)) parts = rw (← c.prefix.ensures.value) c.in-Some.ensures.value in
    let after = c.put_held.new.self in
    let new = (c.get_mut.follows.lender after).entries in
    let lent : new ≡ set_value (is_at (prefix_cmp k.prefix)) parts after = rw (← c.prefix.ensures.value) (c.get_mut.follows.holds after).0 in
    let object = update c.args.read.now (object_of_row k.key before) c.args.id c.args.value in
    let written : IfOk c.put_held.result (λ left. IfNone left (after ≡ put bytes_cmp k.key object before)) = rw (← c.own_bytes.ensures.value) c.put_held.ensures.value in
    let held : IfOk c.put_held.result (λ left. IfNone left (IsHeld object)) = rw (← c.own_bytes.ensures.value) c.put_held.ensures.held in
    let is : IfOk c.put_held.result (λ left. IfNone left (is_none (find bytes_cmp k.key before) ≡ false)) = rw (← c.own_bytes.ensures.value) c.put_held.ensures.found in
    let left : IfOk c.put_held.result (λ left. IfSome left (λ back. (back ≡ c.args.value) × ((object_of_row k.key before ≡ []) × (after ≡ before)))) = rw (← c.own_bytes.ensures.value) c.put_held.ensures.left in
    let all = kept_after k parts c.self.invariant.parts before found after new lent c.args.value object c.put_held.result c.self.inside.len c.own_bytes.ensures.in_range c.self.invariant.counted
    written held is left c.put_held.ensures.same in
    record { parts = all.0; counted = all.1 }

pub returns-clause-value : goal.returns-clause-value
returns-clause-value c =
    let parts = c.self.inside.parts.entries in
    let k = c.args.key.now in
    let before = c.in-Some.rows.now in
    let found : Some before ≡ lookup (is_at (prefix_cmp k.prefix)) parts = rw (← c.prefix.ensures.value) c.in-Some.ensures.value in
    let after = c.put_held.new.self in
    let new = (c.get_mut.follows.lender after).entries in
    let lent : new ≡ set_value (is_at (prefix_cmp k.prefix)) parts after = rw (← c.prefix.ensures.value) (c.get_mut.follows.holds after).0 in
    let object = update c.args.read.now (object_of_row k.key before) c.args.id c.args.value in
    let written : IfOk c.put_held.result (λ left. IfNone left (after ≡ put bytes_cmp k.key object before)) = rw (← c.own_bytes.ensures.value) c.put_held.ensures.value in
    let same : object_of_row k.key before ≡ object_at c.args.self.now k = object_there k parts c.self.invariant.parts before found ∙ ap (λ table. object_at table k) c.self.view_is in
    if_none_more c.put_held.result (λ is.
    table_put_there k parts c.self.invariant.parts before found after new lent object is
    ∙ ap (with_object k object) c.self.view_is
    ∙ ap (λ held. with_object k (update c.args.read.now held c.args.id c.args.value) c.args.self.now) same)
    written

pub returns-clause-no_refusal : goal.returns-clause-no_refusal
returns-clause-no_refusal c =
    let parts = c.self.inside.parts.entries in
    let k = c.args.key.now in
    let before = c.in-Some.rows.now in
    let found : Some before ≡ lookup (is_at (prefix_cmp k.prefix)) parts = rw (← c.prefix.ensures.value) c.in-Some.ensures.value in
    let same : object_of_row k.key before ≡ object_at c.args.self.now k = object_there k parts c.self.invariant.parts before found ∙ ap (λ table. object_at table k) c.self.view_is in
    let none : IfOk c.put_held.result (λ left. IfNone left (refusal_of_update c.args.read.now (object_of_row k.key before) c.args.id c.args.value ≡ None)) =
    rw (← c.own_bytes.ensures.value) c.put_held.ensures.no_refusal in
    if_none_more c.put_held.result (λ is. ap (λ held. refusal_of_update c.args.read.now held c.args.id c.args.value) (sym same) ∙ is) none

pub returns-clause-found : goal.returns-clause-found
returns-clause-found c =
    let parts = c.self.inside.parts.entries in
    let k = c.args.key.now in
    let before = c.in-Some.rows.now in
    let found : Some before ≡ lookup (is_at (prefix_cmp k.prefix)) parts = rw (← c.prefix.ensures.value) c.in-Some.ensures.value in
    let is : IfOk c.put_held.result (λ left. IfNone left (is_none (find bytes_cmp k.key before) ≡ false)) = rw (← c.own_bytes.ensures.value) c.put_held.ensures.found in
    if_none_more c.put_held.result (λ there. ap (λ table. is_full_for table k) (sym c.self.view_is) ∙ room_there k parts c.self.invariant.parts before found there) is

pub returns-clause-left : goal.returns-clause-left
returns-clause-left c =
    let parts = c.self.inside.parts.entries in
    let k = c.args.key.now in
    let before = c.in-Some.rows.now in
    let found : Some before ≡ lookup (is_at (prefix_cmp k.prefix)) parts = rw (← c.prefix.ensures.value) c.in-Some.ensures.value in
    let after = c.put_held.new.self in
    let new = (c.get_mut.follows.lender after).entries in
    let lent : new ≡ set_value (is_at (prefix_cmp k.prefix)) parts after = rw (← c.prefix.ensures.value) (c.get_mut.follows.holds after).0 in
    let same : object_of_row k.key before ≡ object_at c.args.self.now k = object_there k parts c.self.invariant.parts before found ∙ ap (λ table. object_at table k) c.self.view_is in
    let left : IfOk c.put_held.result (λ left. IfSome left (λ back. (back ≡ c.args.value) × ((object_of_row k.key before ≡ []) × (after ≡ before)))) = rw (← c.own_bytes.ensures.value) c.put_held.ensures.left in
    if_some_more c.put_held.result (λ back is. (is.0, (sym same ∙ is.1.0, ap table_of (parts_left k parts c.self.invariant.parts before found after new lent is.1.1) ∙ c.self.view_is))) left

pub returns-clause-fault : goal.returns-clause-fault
returns-clause-fault c =
    let parts = c.self.inside.parts.entries in
    let k = c.args.key.now in
    let before = c.in-Some.rows.now in
    let found : Some before ≡ lookup (is_at (prefix_cmp k.prefix)) parts = rw (← c.prefix.ensures.value) c.in-Some.ensures.value in
    let same : object_of_row k.key before ≡ object_at c.args.self.now k = object_there k parts c.self.invariant.parts before found ∙ ap (λ table. object_at table k) c.self.view_is in
    let fails : FailsBy Memory (refusal_of_update c.args.read.now (object_of_row k.key before) c.args.id c.args.value) c.put_held.result = rw (← c.own_bytes.ensures.value) c.put_held.ensures.fault in
    subst (λ held. FailsBy Memory (refusal_of_update c.args.read.now held c.args.id c.args.value) c.put_held.result) same fails

pub returns-clause-refused : goal.returns-clause-refused
returns-clause-refused c =
    let parts = c.self.inside.parts.entries in
    let k = c.args.key.now in
    let before = c.in-Some.rows.now in
    let found : Some before ≡ lookup (is_at (prefix_cmp k.prefix)) parts = rw (← c.prefix.ensures.value) c.in-Some.ensures.value in
    let is : OnErr c.put_held.result (is_none (find bytes_cmp k.key before) ≡ false) = rw (← c.own_bytes.ensures.value) c.put_held.ensures.refused in
    on_err_more c.put_held.result (λ there. ap (λ table. is_full_for table k) (sym c.self.view_is) ∙ room_there k parts c.self.invariant.parts before found there) is

pub returns-clause-same : goal.returns-clause-same
returns-clause-same c =
    let parts = c.self.inside.parts.entries in
    let k = c.args.key.now in
    let before = c.in-Some.rows.now in
    let found : Some before ≡ lookup (is_at (prefix_cmp k.prefix)) parts = rw (← c.prefix.ensures.value) c.in-Some.ensures.value in
    let after = c.put_held.new.self in
    let new = (c.get_mut.follows.lender after).entries in
    let lent : new ≡ set_value (is_at (prefix_cmp k.prefix)) parts after = rw (← c.prefix.ensures.value) (c.get_mut.follows.holds after).0 in
    on_err_more c.put_held.result (λ is. ap table_of (parts_left k parts c.self.invariant.parts before found after new lent is) ∙ c.self.view_is) c.put_held.ensures.same
