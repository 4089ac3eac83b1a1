use Rattle.std.proofs.Common.{◌+◌, ◌*◌, ap, length, ◌∙◌}
use Rattle.frame_fields.proofs.Spellable.{all_nodes_size}
use Rattle.frame_fields.proofs.lengths.nodes_len.Goals as goal

pub returns-clause-value : goal.returns-clause-value
returns-clause-value c = ap (λ ns. 2 + 2 * length ns) c.as_slice.ensures.value ∙ all_nodes_size c.args.n.now
