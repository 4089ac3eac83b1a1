use Rattle.meta_frame.proofs.Frames.{one_spelling}
use Rattle.meta_frame.proofs.laws.one_spelling_for_a_frame.Goals as goal

pub returns : goal.returns
returns c = one_spelling
