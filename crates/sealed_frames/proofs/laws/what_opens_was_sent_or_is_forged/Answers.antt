use Rattle.sealed_frames.proofs.Opening.{sent_or_forged}
use Rattle.sealed_frames.proofs.laws.what_opens_was_sent_or_is_forged.Goals as goal

pub returns : goal.returns
returns c = sent_or_forged
