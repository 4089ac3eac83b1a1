use Rattle.std.proofs.Common.{sym, ap, ◌∙◌}
use Rattle.std.specs.FinMap.{find}
use Rattle.std.specs.Option.{option_map}
use Rattle.meta_types.specs.Order.{key_cmp}
use Rattle.meta_store.proofs.Kept.{not_some}
use Rattle.hash_tree.specs.Tree.{object_digest, rows_of, with_digest}
use Rattle.hash_tree.proofs.ByPrefix.{digested_put}
use Rattle.hash_tree.proofs.Lookups.{find_digested}
use Rattle.hash_tree.proofs.held.Held.replace_held.Goals as goal

pub set-requires : goal.set-requires
set-requires c = λ none.
    not_some (object_digest c.in_ok-before.before) (
    sym (ap (option_map object_digest) c.in_ok-before.ensures.before)
    ∙ sym (find_digested c.args.key.now c.self.inside.store)
    ∙ ap (find key_cmp c.args.key.now) (sym c.self.invariant)
    ∙ none)

pub invariant_of-self-2 : goal.invariant_of-self-2
invariant_of-self-2 c =
    let key = c.args.key.now in
    let store = c.self.inside.store in
    c.set.ensures ∙ ap (with_digest key c.args.digest) c.self.invariant
    ∙ ap (λ d. with_digest key d (rows_of store)) c.requires.digest
    ∙ sym (digested_put key c.args.object store) ∙ sym (ap rows_of c.in_ok-before.ensures.value)
