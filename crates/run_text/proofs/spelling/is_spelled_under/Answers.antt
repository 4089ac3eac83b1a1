use Rattle.run_text.proofs.Spellings.{keep_spelled, read_spelled}
use Rattle.run_text.proofs.spelling.is_spelled_under.Goals as goal

pub returns-clause-read : goal.returns-clause-read
returns-clause-read c =
    let plain = c.is_plain_key.ensures.plain in
    let spelled = read_spelled c.args.node c.args.key.now c.is_plain_key.ensures.in_range c.ranges.node.fits in
    (λ yes. spelled.0 (plain.0 yes), λ is. plain.1 (spelled.1 is))

pub returns-clause-keep : goal.returns-clause-keep
returns-clause-keep c =
    let plain = c.is_plain_key.ensures.plain in
    let spelled = keep_spelled c.args.node c.args.key.now c.is_plain_key.ensures.in_range c.ranges.node.fits in
    (λ yes. spelled.0 (plain.0 yes), λ is. plain.1 (spelled.1 is))
