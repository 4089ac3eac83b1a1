use Rattle.std.proofs.Common.{◌≡◌, ◌++◌, drop, map}
use Rattle.meta_frame.specs.declared.message.Message.TheVariants.{Bye}
use Rattle.hyparview.specs.declared.event.ViewOut.TheVariants.{Send}
use Rattle.hyparview.proofs.rows.say_bye.Given as goal

abbrev pub invariant-loop-peer : goal.invariant-loop-peer
invariant-loop-peer l = l.out.items ++ map (λ to. Send to Bye) (drop l.peer-index l.to) ≡ l.initial.out.items ++ map (λ to. Send to Bye) l.to
