use Rattle.std.proofs.Common.{◌≢◌, None, Option, IfSome, sym, subst}
use Rattle.std.specs.FinMap.{find}
use Rattle.meta_types.specs.Name.{Key}
use Rattle.meta_types.specs.Order.{key_cmp}
use Rattle.node_call.proofs.Batching.{written_is_held}
use Rattle.node_call.proofs.making.hand_out.Goals as goal

pub held_under-change-requires : goal.held_under-change-requires
held_under-change-requires c =
    subst (λ (key : Option Key). IfSome key (λ key. find key_cmp key c.args.store.now ≢ None)) (sym c.stored_key.ensures)
    (written_is_held c.args.event.now c.args.stepped.now.reply c.args.store.now c.requires.write c.requires.held)
