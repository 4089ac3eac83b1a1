use Rattle.std.proofs.Common.{◌<◌}
use Rattle.std.proofs.lemmas.List.Elements.{All-from_get_or}
use Rattle.node_outcomes.proofs.laws.reveal_bytes.Goals as goal

pub returns : goal.returns
returns c = All-from_get_or (λ b. b < 256) c.args.bytes.now 0 (λ i lt. (c.type_inv.bytes i).fits)
