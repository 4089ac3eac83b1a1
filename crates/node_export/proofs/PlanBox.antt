-- A handle and its parts own what a box of a plan owns.
use mir.Syntax.{impl, tnil, dnil}
use mathlib.Core.List.{[]}
use Rattle.std.proofs.Common.{◌≡◌, refl, arith}
use Rattle.std.specs.Prelude.{Option, Some, None, IsSome}
use denote.Signature.{Slot, plain}
use Rattle.std_alloc.proofs.BoxSteps.Form.{Bx}
use Rattle.std_heap.specs.contracts.Global as Heap
use Rattle.std_heap.specs.contracts.GlobalAllocator.TheImpl.{ghosts, dict}
use Rattle.std_heap.proofs.Global.TheLaws as heap
use Rattle.driver.specs.contracts.plan.Plan as Counter
use Rattle.driver.proofs.plan.Plan.TheLaws as counter
use Rattle.node_export.specs.contracts.parts.Parts as Parts
use Rattle.node_export.specs.contracts.plan_slot.PlanHandle as Handle

abbrev pub E : Bx
E = record { row = Counter.the_row; laws = counter.the_row_laws; al = record { row = Heap.the_row; laws = heap.the_row_laws; g = ghosts; d = dict; drops = impl [] tnil dnil } }

abbrev pub FromParts : Slot 0
FromParts = plain (λ _. Parts.the_row Counter.the_row Heap.the_row ghosts)

abbrev pub FromHandle : Slot 0
FromHandle = plain (λ _. Handle.the_row)

pub some_of : {X : Type 0} → (o : Option X) → IsSome o → (x : X) × (o ≡ Some x)
some_of (Some x) e = (x, refl)
some_of None e = grind arith
