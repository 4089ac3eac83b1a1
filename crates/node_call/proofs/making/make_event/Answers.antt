use Rattle.std.proofs.Common.{sym, subst}
use Rattle.meta_store.specs.Table.{Table}
use Rattle.node_call.specs.Ready.{HoldsChanged}
use Rattle.node_call.proofs.Listing.{holds_changed}
use Rattle.node_call.proofs.making.make_event.Goals as goal

pub hand_out-handed-requires-clause-held : goal.hand_out-handed-requires-clause-held
hand_out-handed-requires-clause-held c =
    let event = c.args.event.now in
    let s = c.in_ok-stepped.stepped in
    let known = c.in_ok-stepped.ensures.known in
    subst (λ (t : Table). HoldsChanged event s.reply t) (sym c.store.ensures)
    (holds_changed event s.reply c.args.state.now.table c.step_known.new.state.table known.grows.changes)
