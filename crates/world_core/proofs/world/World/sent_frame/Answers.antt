use Rattle.std.proofs.Common.{rules, ◌≡◌, Some, inl, inr, subst}
use Rattle.world_core.specs.Numbers.{numbered}
use Rattle.world_core.specs.World.{World}
use Rattle.world_core.specs.Invariant.{IsWholeWorld, IsWorld}
use Rattle.world_core.proofs.Outcomes.{world_of}
use Rattle.world_core.proofs.Retelling.{never_refused, sent}
use Rattle.world_core.proofs.world.World.sent_frame.Goals as goal

pub out_of_memory-requires : goal.out_of_memory-requires
out_of_memory-requires c =
    let w : World = c.args.self.now in
    let is : IsWorld w = world_of w (subst IsWholeWorld c.self.view_is c.self.invariant) in
    let there : numbered w.frames c.args.number ≡ Some c.as_slice.result.now = search rules in
    elim c.in-Err.ensures.refused [
      | inl memory ↦ memory
      | inr cause ↦ absurd (never_refused w c.args.number (sent w is c.args.number c.requires.first c.requires.there) c.as_slice.result.now there c.in-Err.fault cause)
    ]
