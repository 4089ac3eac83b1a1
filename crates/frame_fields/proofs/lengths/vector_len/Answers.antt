use Rattle.std.proofs.Common.{◌+◌, ◌*◌, ap, length, ◌∙◌}
use Rattle.frame_fields.proofs.Spellable.{vector_size}
use Rattle.frame_fields.proofs.lengths.vector_len.Goals as goal

pub returns-clause-value : goal.returns-clause-value
returns-clause-value c = ap (λ cs. 2 + 14 * length cs) c.counters.ensures.value ∙ vector_size c.args.v.now
