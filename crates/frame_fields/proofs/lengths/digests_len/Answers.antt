use Rattle.frame_fields.proofs.Spellable.{sixteen_size}
use Rattle.frame_fields.proofs.lengths.digests_len.Goals as goal

pub returns-clause-value : goal.returns-clause-value
returns-clause-value c = sixteen_size c.args.d.now c.as_slice-sixteen.ensures.lawful
