use Rattle.std.proofs.Common.{sym, subst, ◌∙◌}
use Rattle.meta_store.specs.Table.{Table}
use Rattle.node_core.specs.Attempt.{committed}
use Rattle.node_call.specs.Ready.{HoldsChanged}
use Rattle.node_call.proofs.Listing.{holds_changed}
use Rattle.node_call.proofs.ready.prepare_on.Goals as goal

pub make-requires-clause-held : goal.make-requires-clause-held
make-requires-clause-held c =
    let event = c.args.event.now in
    let a = c.in_ok-attempt.attempt in
    let new = committed a c.attempt_known.new.state in
    let known = c.in_ok-attempt.ensures.known in
    subst (λ (t : Table). HoldsChanged event a.reply t) (sym (c.store.ensures ∙ c.in_ok-attempt.ensures.attempt.table))
    (holds_changed event a.reply c.args.state.now.table new.table known.grows.changes)
