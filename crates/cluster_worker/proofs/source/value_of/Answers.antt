use Rattle.std.proofs.Common.{ap, arith}
use Rattle.std.proofs.lemmas.Fmt.{length-decimal-le}
use Rattle.cluster_worker.proofs.source.value_of.Goals as goal

-- a number has at most 20 digits
pub unwrap-requires : goal.unwrap-requires
unwrap-requires c =
    let short = length-decimal-le 20 c.args.turn (omega arith) (omega arith) (omega arith) in
    c.new.ensures.range.1 (rw (ap (λ v. v.items) c.into_bytes.ensures.value, c.in_ok-text.ensures.ok) (omega (arith, short)))
