use Rattle.run_text.proofs.Spellings.{write_spelled}
use Rattle.run_text.proofs.spelling.is_spelled_write.Goals as goal

pub returns : goal.returns
returns c =
    let value = c.args.value.now in
    let keeps = c.know_value.ensures in
    let plain = c.is_plain_key.ensures.plain in
    let spelled = write_spelled c.args.node c.args.key.now value.stamp value.body c.args.read c.is_plain_key.ensures.in_range c.ranges.node.fits keeps.in_range.0 keeps.in_range.1 keeps.bytes c.know_read.ensures in
    (λ yes. spelled.0 (plain.0 yes), λ is. plain.1 (spelled.1 is))
