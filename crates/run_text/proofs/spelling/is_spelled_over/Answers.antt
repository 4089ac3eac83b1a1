use Rattle.std.proofs.Common.{ap, sym, ◌∙◌}
use Rattle.std.specs.Option.{option_copied}
use Rattle.run_text.proofs.Spellings.{over_spelled}
use Rattle.run_text.proofs.spelling.is_spelled_over.Goals as goal

pub returns-in-Some : goal.returns-in-Some
returns-in-Some c =
    let value = c.args.value.now in
    let keeps = c.know_value.ensures in
    let plain = c.is_plain_key.ensures.plain in
    let there = sym c.body.ensures.value ∙ ap option_copied c.in-Some.is in
    let spelled = over_spelled c.args.node c.args.key.now value.stamp value.body _ there c.is_plain_key.ensures.in_range c.ranges.node.fits keeps.in_range.0 keeps.in_range.1 keeps.bytes in
    (λ yes. spelled.0 (plain.0 yes), λ is. plain.1 (spelled.1 is))
