-- What a handle owns: a box of a hosted node, or of a plan, or nothing.
use base.Fml.{Fml, ftrue}
use denote.RawPtr.{Ptr}
use Rattle.std.specs.Prelude.{Option, Some, None}
use Rattle.std.specs.Box.Ownership.{box_owns}
use Rattle.std.specs.Global.{Global}
use Rattle.std_heap.specs.contracts.GlobalAllocator.TheImpl.{ghosts}
use Rattle.node_hosted.specs.contracts.node.HostedNode.{the_row}
use Rattle.driver.specs.contracts.plan.Plan as plan

unfoldable pub held_owns : Global → Ptr → Option the_row.Denot → Fml
held_owns alloc p None = ftrue
held_owns alloc p (Some c) = box_owns (ghosts.dealloc_token alloc) the_row p c

unfoldable pub plan_owns : Global → Ptr → Option plan.the_row.Denot → Fml
plan_owns alloc p None = ftrue
plan_owns alloc p (Some c) = box_owns (ghosts.dealloc_token alloc) plan.the_row p c
