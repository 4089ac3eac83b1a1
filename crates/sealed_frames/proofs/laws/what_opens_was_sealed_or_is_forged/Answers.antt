use Rattle.sealed_frames.proofs.Opening.{sealed_or_forged}
use Rattle.sealed_frames.proofs.laws.what_opens_was_sealed_or_is_forged.Goals as goal

pub returns : goal.returns
returns c = sealed_or_forged
