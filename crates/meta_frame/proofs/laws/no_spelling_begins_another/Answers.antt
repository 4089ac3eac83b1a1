use Rattle.meta_frame.proofs.Frames.{no_proper_prefix}
use Rattle.meta_frame.proofs.laws.no_spelling_begins_another.Goals as goal

pub returns : goal.returns
returns c = no_proper_prefix
