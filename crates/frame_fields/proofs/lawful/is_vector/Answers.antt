use Rattle.frame_fields.proofs.Spellable.{counted_vector}
use Rattle.frame_fields.proofs.lawful.is_vector.Goals as goal

pub returns : goal.returns
returns c = counted_vector c.args.v.now c.counters.result.now c.is_count.result c.counters.ensures.value c.counters.ensures.lawful c.is_count.ensures
