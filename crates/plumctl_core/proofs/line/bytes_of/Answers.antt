use Rattle.std.proofs.Common.{◌≡◌}
use Rattle.plumctl_core.specs.Output.{without_spaces}
use Rattle.plumctl_core.proofs.Texts.{none_found}
use Rattle.plumctl_core.proofs.line.bytes_of.Goals as goal

pub returns-then-is_none-clause-ok : goal.returns-then-is_none-clause-ok
returns-then-is_none-clause-ok c =
    let same : without_spaces c.args.line.now ≡ c.args.line.now = none_found c.args.line.now c.memchr.result c.memchr.ensures c.if-is_none.ensures in
    rw same c.decode.ensures.ok

pub returns-then-is_none-clause-err : goal.returns-then-is_none-clause-err
returns-then-is_none-clause-err c =
    let same : without_spaces c.args.line.now ≡ c.args.line.now = none_found c.args.line.now c.memchr.result c.memchr.ensures c.if-is_none.ensures in
    rw same c.decode.ensures.err
