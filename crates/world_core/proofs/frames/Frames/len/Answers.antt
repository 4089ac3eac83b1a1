use Rattle.std.proofs.Common.{sym, ap, length, ◌∙◌}
use Rattle.world_core.proofs.Keeping.{how_many}
use Rattle.world_core.proofs.frames.Frames.len.Goals as goal

pub returns-clause-value : goal.returns-clause-value
returns-clause-value c = c.len.ensures ∙ c.self.inside.kept.ok.0 ∙ sym (how_many c.self.inside.kept.items) ∙ ap length c.self.view_is
