use Rattle.std.proofs.Common.{◌≡◌, [], Some, T, is_none, sym, ap, subst, ◌∙◌, List, ℕ, refl}
use Rattle.std.specs.Bool.{passes}
use Rattle.std.specs.BTreeMap.{BTreeMap}
use Rattle.dvvset.specs.Object.{Entry}
use Rattle.std.specs.FinMap.{find, is_sorted, put}
use Rattle.std.specs.Option.{unwrap_or}
use Rattle.dvvset.specs.Clock.{update}
use Rattle.meta_types.specs.Order.{bytes_cmp}
use Rattle.meta_store.specs.Kept.{AreRows, object_of_row}
use Rattle.meta_store.specs.Table.{IsHeld}
use Rattle.meta_store.specs.Step.{refusal_of_update}
use Rattle.meta_store.proofs.Kept.{bytes_total}
use Rattle.meta_store.proofs.Maps.{always, looked_up, written, written_back}
use Rattle.meta_store.proofs.Holding.{rows_with}
use Rattle.meta_store.proofs.Writing.{fault_passed}
use Rattle.meta_store.specs.declared.fault.StoreFault.TheVariants.{Memory}
use Rattle.meta_store.proofs.rows.Rows.put_held.Goals as goal

pub invariant_of-self-in_err-object : goal.invariant_of-self-in_err-object
invariant_of-self-in_err-object c =
    let es = c.self.inside.by_key.entries in
    let key = c.args.key.now in
    let found : find bytes_cmp key es ≡ Some c.in-Some.held.now = sym (looked_up bytes_cmp key es) ∙ sym c.in-Some.ensures.value in
    subst AreRows (sym ((c.get_mut.follows.holds c.in-Some.held.now).0 ∙ written_back bytes_cmp key c.in-Some.held.now es found)) c.self.invariant

pub returns-in_err-object-clause-fault : goal.returns-in_err-object-clause-fault
returns-in_err-object-clause-fault c =
    let es = c.self.inside.by_key.entries in
    let key = c.args.key.now in
    let found : find bytes_cmp key es ≡ Some c.in-Some.held.now = sym (looked_up bytes_cmp key es) ∙ sym c.in-Some.ensures.value in
    let is : object_of_row key es ≡ c.in-Some.held.now = ap (λ x. unwrap_or x []) found in
    rw (← c.self.view_is) (fault_passed c.from_residual.result Memory _
    (refusal_of_update c.args.read.now c.in-Some.held.now c.args.id c.args.value)
    (refusal_of_update c.args.read.now (object_of_row key es) c.args.id c.args.value)
    (ap (λ held. refusal_of_update c.args.read.now held c.args.id c.args.value) (sym is))
    c.in_err-object.ensures.fault c.from_residual.ensures.1)

pub returns-in_err-object-clause-refused : goal.returns-in_err-object-clause-refused
returns-in_err-object-clause-refused c =
    let es = c.self.inside.by_key.entries in
    let key = c.args.key.now in
    let found : find bytes_cmp key es ≡ Some c.in-Some.held.now = sym (looked_up bytes_cmp key es) ∙ sym c.in-Some.ensures.value in
    always c.from_residual.result (rw (← c.self.view_is) (ap is_none found))

pub returns-in_err-object-clause-same : goal.returns-in_err-object-clause-same
returns-in_err-object-clause-same c =
    let es = c.self.inside.by_key.entries in
    let key = c.args.key.now in
    let found : find bytes_cmp key es ≡ Some c.in-Some.held.now = sym (looked_up bytes_cmp key es) ∙ sym c.in-Some.ensures.value in
    always c.from_residual.result (rw (← c.self.view_is) ((c.get_mut.follows.holds c.in-Some.held.now).0 ∙ written_back bytes_cmp key c.in-Some.held.now es found))

pub returns-in_default-clause-left : goal.returns-in_default-clause-left
returns-in_default-clause-left c =
    let es = c.self.inside.by_key.entries in
    let key = c.args.key.now in
    let absent : object_of_row key es ≡ [] = ap (λ x. unwrap_or x []) (sym (looked_up bytes_cmp key es) ∙ sym c.in_default.ensures.value) in
    let same : c.get_mut.follows.lender-at-none.entries ≡ es = ap (λ (m : BTreeMap (List ℕ) (List Entry)). m.entries) c.get_mut.follows.holds-at-none in
    (refl, (ap (object_of_row key) (sym c.self.view_is) ∙ absent, same ∙ c.self.view_is))

pub invariant_of-self-2 : goal.invariant_of-self-2
invariant_of-self-2 c =
    let es = c.self.inside.by_key.entries in
    let key = c.args.key.now in
    let sorted : T (is_sorted bytes_cmp es) = passes (is_sorted bytes_cmp es) c.self.invariant.rising in
    let found : find bytes_cmp key es ≡ Some c.in-Some.held.now = sym (looked_up bytes_cmp key es) ∙ sym c.in-Some.ensures.value in
    subst AreRows
    (sym ((c.get_mut.follows.holds c.in_ok-object.object).0 ∙ written bytes_cmp bytes_total key c.in-Some.held.now c.in_ok-object.object es sorted found))
    (rows_with key c.in-Some.held.now c.in_ok-object.object es found c.self.invariant)

pub returns-clause-value : goal.returns-clause-value
returns-clause-value c =
    let es = c.self.inside.by_key.entries in
    let key = c.args.key.now in
    let sorted : T (is_sorted bytes_cmp es) = passes (is_sorted bytes_cmp es) c.self.invariant.rising in
    let found : find bytes_cmp key es ≡ Some c.in-Some.held.now = sym (looked_up bytes_cmp key es) ∙ sym c.in-Some.ensures.value in
    let is : object_of_row key es ≡ c.in-Some.held.now = ap (λ x. unwrap_or x []) found in
    rw (← c.self.view_is) (
    (c.get_mut.follows.holds c.in_ok-object.object).0
    ∙ written bytes_cmp bytes_total key c.in-Some.held.now c.in_ok-object.object es sorted found
    ∙ ap (λ o. put bytes_cmp key o es) (c.in_ok-object.ensures.value ∙ ap (λ held. update c.args.read.now held c.args.id c.args.value) (sym is)))

pub returns-clause-held : goal.returns-clause-held
returns-clause-held c =
    let es = c.self.inside.by_key.entries in
    let key = c.args.key.now in
    let found : find bytes_cmp key es ≡ Some c.in-Some.held.now = sym (looked_up bytes_cmp key es) ∙ sym c.in-Some.ensures.value in
    let is : object_of_row key es ≡ c.in-Some.held.now = ap (λ x. unwrap_or x []) found in
    rw (← c.self.view_is) (subst IsHeld (c.in_ok-object.ensures.value ∙ ap (λ held. update c.args.read.now held c.args.id c.args.value) (sym is)) c.in_ok-object.ensures.held)

pub returns-clause-no_refusal : goal.returns-clause-no_refusal
returns-clause-no_refusal c =
    let es = c.self.inside.by_key.entries in
    let key = c.args.key.now in
    let found : find bytes_cmp key es ≡ Some c.in-Some.held.now = sym (looked_up bytes_cmp key es) ∙ sym c.in-Some.ensures.value in
    let is : object_of_row key es ≡ c.in-Some.held.now = ap (λ x. unwrap_or x []) found in
    rw (← c.self.view_is) (ap (λ held. refusal_of_update c.args.read.now held c.args.id c.args.value) is ∙ c.in_ok-object.ensures.no_refusal)

pub returns-clause-found : goal.returns-clause-found
returns-clause-found c =
    let es = c.self.inside.by_key.entries in
    let key = c.args.key.now in
    let found : find bytes_cmp key es ≡ Some c.in-Some.held.now = sym (looked_up bytes_cmp key es) ∙ sym c.in-Some.ensures.value in
    rw (← c.self.view_is) (ap is_none found)
