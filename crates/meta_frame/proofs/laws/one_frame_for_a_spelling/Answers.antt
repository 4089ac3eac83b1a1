use Rattle.meta_frame.proofs.Frames.{one_frame}
use Rattle.meta_frame.proofs.laws.one_frame_for_a_spelling.Goals as goal

pub returns : goal.returns
returns c = one_frame
