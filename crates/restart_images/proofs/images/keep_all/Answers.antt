use Rattle.std.proofs.Common.{[], ◌∷◌, ◌++◌, take, sym, ap, subst, ◌∙◌}
use Rattle.std.proofs.lemmas.List.{take_more}
use Rattle.restart_images.specs.Logs.{Keeps}
use Rattle.restart_images.proofs.Growing.{grow_on}
use Rattle.restart_images.proofs.Placing.{one_more}
use Rattle.restart_images.proofs.images.keep_all.Goals as goal

pub returns-in_err-keep_entry-clause-grow : goal.returns-in_err-keep_entry-clause-grow
returns-in_err-keep_entry-clause-grow c = grow_on c.args.logs.now c.loop-entry.logs c.keep_entry.new.logs c.loop-entry.invariant.grow c.keep_entry.ensures.grow

pub returns-in_err-push-clause-grow : goal.returns-in_err-push-clause-grow
returns-in_err-push-clause-grow c = grow_on c.args.logs.now c.loop-entry.logs c.keep_entry.new.logs c.loop-entry.invariant.grow c.keep_entry.ensures.grow

pub loop-entry-preserved : goal.loop-entry-preserved
loop-entry-preserved c =
    one_more c.args.logs.now c.loop-entry.logs c.keep_entry.new.logs c.loop-entry.kept.items c.push.new.self.items c.args.entries.now c.loop-entry.entry-index c.entry-item.result c.in_ok-keep_entry.field-0
    c.loop-entry.invariant (subst (Keeps c.loop-entry.logs c.keep_entry.new.logs c.entry-item.result) c.in_ok-keep_entry.was c.keep_entry.ensures) c.in_ok-push.ensures.items
    (take_more c.args.entries.now c.loop-entry.entry-index c.entry-item.result c.loop-entry-test.true ∙ ap (λ e. take c.loop-entry.entry-index c.args.entries.now ++ e ∷ []) (sym c.entry-item.is))
