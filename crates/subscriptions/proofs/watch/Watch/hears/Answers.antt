use Rattle.std.proofs.Common.{◌∙◌, ap}
use Rattle.meta_types.specs.Order.{prefix_eq}
use Rattle.subscriptions.specs.Watching.{hears}
use Rattle.subscriptions.proofs.Prefixes.{prefix_eq-by_parts}
use Rattle.subscriptions.proofs.watch.Watch.hears.Goals as goal

pub returns : goal.returns
returns c =
    let own = c.self.inside.prefix in
    c.eq.ensures ∙ prefix_eq-by_parts own c.prefix.result.now
    ∙ ap (prefix_eq own) c.prefix.ensures.value ∙ ap (λ w. hears w c.args.key.now) c.self.view_is
