use Rattle.std.proofs.Common.{◌<◌, length, sym, ap, subst, ◌∙◌}
use Rattle.world_core.proofs.Keeping.{how_many}
use Rattle.world_core.proofs.frames.Frames.bytes.Goals as goal

pub bytes_at-requires-clause-there : goal.bytes_at-requires-clause-there
bytes_at-requires-clause-there c =
    subst (λ kept. c.args.place < length kept) (sym c.as_slice.ensures.value)
    (subst (λ n. c.args.place < n) (sym (ap length c.self.view_is) ∙ how_many c.self.inside.kept.items) c.requires)
