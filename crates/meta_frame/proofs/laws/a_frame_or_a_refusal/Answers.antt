use Rattle.meta_frame.proofs.Frames.{frame_or_refusal}
use Rattle.meta_frame.proofs.laws.a_frame_or_a_refusal.Goals as goal

pub returns : goal.returns
returns c = frame_or_refusal
