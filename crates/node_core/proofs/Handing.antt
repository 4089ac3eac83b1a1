-- What a watch hands out is what the step replies.
use Rattle.std.proofs.Common.{◌≡◌, Option, None, Some}
use Rattle.subscriptions.specs.Watches.{AreChangesOf}
use Rattle.subscriptions.specs.Watching.{Watching}
use Rattle.subscriptions.specs.declared.watches.HandedOut.{HandedOut}
use Rattle.node_events.specs.declared.reply.Reply.TheVariants.{Changed}
use Rattle.node_core.specs.Step.{reply_of_changes}

pub replied : (found : Option Watching) (out : HandedOut) → AreChangesOf found out
    → Changed out.missed out.changes.items ≡ reply_of_changes found
replied None out is = absurd is
replied (Some w) out is = λ i. Changed (is.0 i) (is.1 i)
