use Rattle.std.proofs.Common.{◌++◌, ap, ◌∙◌, length, reverse, set, take}
use Rattle.restart_images.specs.Logs.{log_at}
use Rattle.restart_images.proofs.Placing.{keeps_gone_on}
use Rattle.restart_images.proofs.logs.Logs.go_on.Goals as goal

pub returns : goal.returns
returns c =
    keeps_gone_on c.args.self.now c.extend.new.self c.args.entry.now c.args.log c.args.place.start c.args.place.fresh _ c.requires.there c.requires.continues
    (c.in_ok-extend.ensures.value ∙ ap (λ values. set c.args.self.now c.args.log (log_at c.args.self.now c.args.log ++ reverse (take c.args.place.fresh values))) c.values-2.ensures)
    (λ i. record { id = c.id-id.ensures i; count = c.count-count.ensures i; log = c.args.log; start = c.args.place.start; len = length (c.values.ensures i) })
