use Rattle.std.proofs.Common.{sym, ap, ◌∙◌}
use Rattle.hash_tree.specs.Tree.{rows_of, without_digest}
use Rattle.hash_tree.proofs.ByPrefix.{digested_without}
use Rattle.hash_tree.proofs.held.Held.forget.Goals as goal

pub invariant_of-self : goal.invariant_of-self
invariant_of-self c =
    let key = c.args.key.now in
    c.forget-2.ensures ∙ ap (without_digest key) c.self.invariant
    ∙ sym (digested_without key c.self.inside.store) ∙ sym (ap rows_of c.forget.ensures)
