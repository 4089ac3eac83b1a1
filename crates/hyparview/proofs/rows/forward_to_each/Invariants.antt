use Rattle.std.proofs.Common.{◌≡◌, ◌++◌, drop, map}
use Rattle.meta_frame.specs.declared.message.Message.TheVariants.{ForwardJoin}
use Rattle.hyparview.specs.declared.event.ViewOut.TheVariants.{Send}
use Rattle.hyparview.specs.Limits.{active_random_walk_length}
use Rattle.hyparview.proofs.rows.forward_to_each.Given as goal

abbrev pub invariant-loop-peer : goal.invariant-loop-peer
invariant-loop-peer l = l.out.items ++ map (λ to. Send to (ForwardJoin l.node active_random_walk_length)) (drop l.peer-index l.to) ≡ l.initial.out.items ++ map (λ to. Send to (ForwardJoin l.node active_random_walk_length)) l.to
