use Rattle.std.proofs.Common.{[], take, sym, ap, subst, ◌∙◌}
use Rattle.world_core.specs.Sharing.{AreShared, frames_after}
use Rattle.world_core.proofs.Keeping.{fewer, fewer_shared}
use Rattle.world_core.proofs.frames.Frames.truncate.Goals as goal

pub invariant_of-self : goal.invariant_of-self
invariant_of-self c = subst (AreShared []) (sym c.truncate.ensures.items) (fewer_shared [] c.self.inside.kept.items c.args.len c.self.invariant)

pub returns : goal.returns
returns c = ap (frames_after []) c.truncate.ensures.items ∙ fewer c.self.inside.kept.items c.args.len ∙ ap (take c.args.len) c.self.view_is
