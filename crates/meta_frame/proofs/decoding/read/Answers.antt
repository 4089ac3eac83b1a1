use Rattle.std.proofs.Common.{sym, ◌∙◌}
use Rattle.meta_frame.proofs.Frames.{decoded}
use Rattle.meta_frame.proofs.decoding.read.Goals as goal

pub returns : goal.returns
returns c =
    decoded c.args.bytes.now c.split_at.result.1.now c.u8_at.result c.in-Ok.found.0 c.in-Ok.found.1.now c.frame_of.result c.in_default.ensures.value c.u8_at.ensures c.split_at.ensures.back c.in-Ok.ensures
    (sym c.if-not-is_empty.false ∙ c.is_empty.ensures) c.frame_of.ensures
