use Rattle.std.proofs.Common.{refl}
use Rattle.sealed_frames.specs.Seal.{sealed_frame}
use Rattle.sealed_frames.proofs.Opening.{frame_in_sealed, is_sealed}
use Rattle.sealed_frames.proofs.laws.what_was_sealed_opens.Goals as goal

pub returns : goal.returns
returns c keys key frame is_key =
    (is_sealed keys key frame (sealed_frame key frame) is_key refl, frame_in_sealed key frame (sealed_frame key frame) refl)
