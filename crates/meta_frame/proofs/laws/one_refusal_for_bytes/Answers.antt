use Rattle.meta_frame.proofs.Frames.{one_refusal}
use Rattle.meta_frame.proofs.laws.one_refusal_for_bytes.Goals as goal

pub returns : goal.returns
returns c = one_refusal
