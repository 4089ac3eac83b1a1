use Rattle.run_text.proofs.Spellings.{watch_spelled}
use Rattle.run_text.proofs.spelling.is_spelled_watch.Goals as goal

pub returns : goal.returns
returns c =
    let plain = c.is_plain_prefix.ensures.plain in
    let spelled = watch_spelled c.args.node c.args.prefix.now c.args.capacity c.is_plain_prefix.ensures.in_range c.ranges.node.fits c.ranges.capacity.fits in
    (λ yes. spelled.0 (plain.0 yes), λ is. plain.1 (spelled.1 is))
