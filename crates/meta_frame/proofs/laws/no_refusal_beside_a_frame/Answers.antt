use Rattle.meta_frame.proofs.Frames.{never_both}
use Rattle.meta_frame.proofs.laws.no_refusal_beside_a_frame.Goals as goal

pub returns : goal.returns
returns c = never_both
