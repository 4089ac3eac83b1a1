use Rattle.meta_types.specs.Order.{bytes_cmp}
use Rattle.frame_fields.specs.Field.{key_row_parts}
use Rattle.meta_store.proofs.Kept.{bytes_total}
use Rattle.meta_types.proofs.Comparing.{same_bytes}
use Rattle.exchange.proofs.Heads.{named_rest, of_own_alone}
use Rattle.exchange.proofs.sides.own_key.Goals as goal

pub returns-clause-value : goal.returns-clause-value
returns-clause-value c =
    of_own_alone bytes_cmp bytes_total same_bytes key_row_parts c.args.own.now c.in_ok-first.first.now c.in_ok-first.rest.now c.requires.rise c.in_ok-first.ensures.cases.0

pub returns-clause-own_named : goal.returns-clause-own_named
returns-clause-own_named c =
    named_rest c.args.own.now c.in_ok-first.first.now c.in_ok-first.rest.now c.in_ok-first.ensures.cases.0 c.requires.named
