use Rattle.std.proofs.Common.{◌≡◌, List, Option, Some, None, refl, subst, sym, ap, ◌∙◌}
use Rattle.std.specs.FinMap.{find}
use Rattle.std.specs.Option.{option_map}
use Rattle.meta_types.specs.Order.{key_cmp}
use Rattle.dvvset.specs.Object.{Entry}
use Rattle.meta_store.specs.Table.{with_object, without_object}
use Rattle.meta_store.proofs.Forgetting.{taken_back}
use Rattle.meta_store.proofs.Keys.{key_total}
use Rattle.hash_tree.specs.Tree.{DigestRows, object_digest, rows_of, with_digest}
use Rattle.hash_tree.proofs.ByPrefix.{digested_put}
use Rattle.hash_tree.proofs.Lookups.{find_digested}
use Rattle.hash_tree.proofs.held.Held.hold_new.Goals as goal

not_held : (x : Option (List Entry)) → option_map object_digest x ≡ None → x ≡ None
not_held None e = refl
not_held (Some x) e = cc

pub invariant_of-self-in-Ok : goal.invariant_of-self-in-Ok
invariant_of-self-in-Ok c =
    let key = c.args.key.now in
    let store = c.self.inside.store in
    let held = c.in_ok-hold.ensures.value ∙ ap (λ k. with_object k c.args.object store) c.in_ok-own.ensures in
    c.in-Ok.ensures.value ∙ ap (with_digest key c.args.digest) c.self.invariant
    ∙ ap (λ d. with_digest key d (rows_of store)) c.requires.digest
    ∙ sym (digested_put key c.args.object store) ∙ sym (ap rows_of held)

pub returns-in-Err-clause-same : goal.returns-in-Err-clause-same
returns-in-Err-clause-same c =
    let key = c.args.key.now in
    let store = c.self.inside.store in
    let held = c.in_ok-hold.ensures.value ∙ ap (λ k. with_object k c.args.object store) c.in_ok-own.ensures in
    let absent = subst (λ (rows : DigestRows). find key_cmp key rows ≡ None) c.self.invariant c.in-Err.ensures.absent in
    c.forget.ensures ∙ ap (without_object key) held
    ∙ taken_back key_cmp key_total key c.args.object store (not_held (find key_cmp key store) (sym (find_digested key store) ∙ absent))
    ∙ c.self.view_is

pub invariant_of-self-in-Err : goal.invariant_of-self-in-Err
invariant_of-self-in-Err c =
    c.in-Err.ensures.same ∙ c.self.invariant ∙ ap rows_of (c.self.view_is ∙ sym (returns-in-Err-clause-same c))
