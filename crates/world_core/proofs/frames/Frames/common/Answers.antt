use Rattle.std.proofs.Common.{◌<◌, length, sym, ap, subst, ◌∙◌}
use Rattle.world_core.proofs.Keeping.{how_many}
use Rattle.world_core.proofs.frames.Frames.common.Goals as goal

pub bytes-requires : goal.bytes-requires
bytes-requires c =
    subst (λ n. c.in-Some.place < n) (c.len.ensures ∙ c.self.inside.kept.ok.0 ∙ sym (how_many c.self.inside.kept.items) ∙ ap length c.self.view_is) c.if-place-len.true
