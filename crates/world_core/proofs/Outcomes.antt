-- Outcomes, from what was accepted and what was refused.
use Rattle.std.proofs.Common.{◌≡◌, inl, ℕ, ◌<◌, ◌≤◌, List, length, Result, Ok, Err, refl, sym, subst, ◌∙◌}
use Rattle.std.specs.Prelude.{get_or}
use Rattle.std.proofs.lemmas.List.{get_or_default}
use Rattle.meta_store.specs.Context.{Reading}
use Rattle.restart_images.specs.Node.{ImagedNode, new_node}
use Rattle.world_core.specs.declared.answer.Accepted.{Accepted}
use Rattle.world_core.specs.declared.answer.Answer.{Answer}
use Rattle.world_core.specs.declared.event.Event.{Event}
use Rattle.world_core.specs.declared.fault.WorldFault.{WorldFault}
use Rattle.world_core.specs.declared.fault.WorldFault.TheVariants.{Memory}
use Rattle.world_core.specs.Outcome.{Accepts, Outcome, Declines}
use Rattle.world_core.specs.Refusal.{node_at}
use Rattle.world_core.specs.Steps.{MayRefuse}
use Rattle.world_core.specs.World.{World}
use Rattle.world_core.specs.Invariant.{IsWholeWorld, IsWorld}

pub kept : (w : World) → IsWorld w → IsWholeWorld w
unfolding IsWholeWorld
kept w is = is

pub world_of : (w : World) → IsWholeWorld w → IsWorld w
unfolding IsWholeWorld
world_of w is = is

pub few_nodes : (w : World) → IsWholeWorld w → length w.nodes ≤ 16
few_nodes w is = (world_of w is).few

-- a node of a list of nodes is one of the world
pub same_node : (w : World) (n : ℕ) (node : ImagedNode) → n < length w.nodes → node ≡ get_or w.nodes n node → node ≡ node_at w n
same_node w n node low at = at ∙ get_or_default w.nodes n node (new_node n) low

-- a world is what its parts are
pub world_is : {nodes : List ImagedNode} {accepted : List Accepted} {frames : List (List ℕ)} {contexts : List Reading} (w : World)
    → nodes ≡ w.nodes → accepted ≡ w.accepted → frames ≡ w.frames → contexts ≡ w.contexts
    → (record { nodes = nodes; accepted = accepted; frames = frames; contexts = contexts }) ≡ w
world_is w n a f c = λ i. record { nodes = n i; accepted = a i; frames = f i; contexts = c i }

-- ---- refused

rejected : (old new : World) (event : Event) (fault : WorldFault) → Declines old event fault new → Outcome old event (Err fault) new
unfolding Outcome
rejected old new event fault is = is

pub refused : {old new : World} (event : Event) {result : Result Answer WorldFault} (fault : WorldFault) → result ≡ Err fault → MayRefuse old event fault → new ≡ old
    → Outcome old event result new
refused {old} {new} event {result} fault e may same =
    subst (λ r. Outcome old event r new) (sym e) (rejected old new event fault (record { cause = may; same = same }))

pub memory : {old new : World} (event : Event) {result : Result Answer WorldFault} → result ≡ Err Memory → new ≡ old → Outcome old event result new
memory {old} {new} event {result} e same = refused event Memory e (inl refl) same

-- ---- accepted

pub accepted : (old new : World) (event : Event) (answer : Answer) → Accepts old event answer new → Outcome old event (Ok answer) new
unfolding Outcome
accepted old new event answer is = is

-- the same, of a world that is that which is left
pub accepts_left : {old new left : World} (event : Event) {result : Result Answer WorldFault} (answer : Answer) → result ≡ Ok answer → new ≡ left → Accepts old event answer left
    → Outcome old event result new
accepts_left {old} {new} {left} event {result} answer e is accepts =
    subst (λ r. Outcome old event r new) (sym e) (accepted old new event answer (subst (Accepts old event answer) (sym is) accepts))
