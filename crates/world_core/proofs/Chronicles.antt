-- A world whose chronicle was given room, and then an event.
use Rattle.std.proofs.Common.{◌≡◌, ℕ, ◌+◌, List, [], ◌∷◌, ◌++◌, length, ap, ◌∙◌}
use Rattle.std.specs.Prelude.{get_or, slice_set}
use Rattle.std.proofs.lemmas.List.{set-get_or}
use Rattle.node_events.specs.declared.reply.Reply.{Reply}
use Rattle.restart_images.specs.declared.node.ImagedStep.{ImagedStep}
use Rattle.restart_images.specs.Node.{ImagedNode}
use Rattle.world_core.specs.declared.answer.Answer.{Answer}
use Rattle.world_core.specs.declared.chronicle.Chronicle.{Chronicle}
use Rattle.world_core.specs.declared.event.Event.{Event}
use Rattle.world_core.specs.declared.event.Event.TheVariants.{Restart}
use Rattle.world_core.specs.Chronicle.{IsSame, frames_in, world_in}
use Rattle.world_core.specs.Events.{node_of_event}
use Rattle.world_core.specs.Outcome.{list_of, read_after}
use Rattle.world_core.proofs.Accepting.{answer_of, restart_answer, left, left_restarted}

-- room changes nothing
pub same_world : {new_nodes nodes : List ImagedNode} (old new : Chronicle) → IsSame old new → new_nodes ≡ nodes → world_in new_nodes new ≡ world_in nodes old
same_world old new same nodes = λ i. record { nodes = nodes i; accepted = same.accepted i; frames = same.frames i; contexts = same.contexts i }

-- a node that is put back as it was
pub put_back : (nodes : List ImagedNode) (n : ℕ) (old new : ImagedNode) → old ≡ get_or nodes n old → new ≡ old → slice_set nodes n new ≡ nodes
put_back nodes n old new at same = ap (slice_set nodes n) (same ∙ at) ∙ set-get_or nodes n old

-- ---- a step

-- what a step gave, as it is answered by a chronicle
abbrev pub answer_in : Chronicle → Reply → ImagedStep → Answer
answer_in c reply given = record {
  reply = reply;
  read = read_after c.contexts.items given.context;
  sent = record { first = length (frames_in c) + 1; count = length given.outbox };
}

answer_same : (nodes : List ImagedNode) (old mid : Chronicle) (given : ImagedStep) → IsSame old mid → answer_in mid given.reply given ≡ answer_of (world_in nodes old) given
answer_same nodes old mid given same = λ i. record {
  reply = given.reply;
  read = read_after (same.contexts i) given.context;
  sent = record { first = length (same.frames i) + 1; count = length given.outbox };
}

-- the answer that is handed out
pub answered : (nodes : List ImagedNode) (old mid : Chronicle) (given : ImagedStep) (answer : Answer) → IsSame old mid → given.copy ≡ given.reply → answer ≡ answer_in mid given.copy given
    → answer ≡ answer_of (world_in nodes old) given
answered nodes old mid given answer same copy is = is ∙ ap (λ reply. answer_in mid reply given) copy ∙ answer_same nodes old mid given same

pub after_step : {new_nodes : List ImagedNode} (nodes : List ImagedNode) (old mid new : Chronicle) (event : Event) (node : ImagedNode) (given : ImagedStep) → IsSame old mid
    → new_nodes ≡ slice_set nodes (node_of_event event) node
    → new.accepted.items ≡ mid.accepted.items ++ (record { event = event; answer = answer_in mid given.reply given }) ∷ []
    → frames_in new ≡ frames_in mid ++ given.outbox → new.contexts.items ≡ mid.contexts.items ++ list_of given.context
    → world_in new_nodes new ≡ left (world_in nodes old) event node given
after_step nodes old mid new event node given same stepped accepted frames contexts =
    let accepts = accepted ∙ (λ i. same.accepted i ++ (record { event = event; answer = answer_same nodes old mid given same i }) ∷ []) in
    let sends = frames ∙ ap (λ fs. fs ++ given.outbox) same.frames in
    let reads = contexts ∙ ap (λ cs. cs ++ list_of given.context) same.contexts in
    λ i. record { nodes = stepped i; accepted = accepts i; frames = sends i; contexts = reads i }

-- ---- a restart

pub restart_answer_same : (nodes : List ImagedNode) (old mid : Chronicle) (answer : Answer) → IsSame old mid → answer ≡ restart_answer (world_in nodes mid) → answer ≡ restart_answer (world_in nodes old)
restart_answer_same nodes old mid answer same is = is ∙ (λ i. restart_answer (record { nodes = nodes; accepted = same.accepted i; frames = same.frames i; contexts = same.contexts i }))

pub after_restart : {new_nodes : List ImagedNode} (nodes : List ImagedNode) (old mid new : Chronicle) (n image : ℕ) (node : ImagedNode) (answer : Answer) → IsSame old mid
    → new_nodes ≡ slice_set nodes n node
    → new.accepted.items ≡ mid.accepted.items ++ (record { event = Restart n image; answer = answer }) ∷ [] → answer ≡ restart_answer (world_in nodes mid)
    → frames_in new ≡ frames_in mid → new.contexts.items ≡ mid.contexts.items
    → world_in new_nodes new ≡ left_restarted (world_in nodes old) n image node
after_restart nodes old mid new n image node answer same stepped accepted is frames contexts =
    let accepts = accepted ∙ (λ i. same.accepted i ++ (record { event = Restart n image; answer = restart_answer_same nodes old mid answer same is i }) ∷ []) in
    let sends = frames ∙ same.frames in
    let reads = contexts ∙ same.contexts in
    λ i. record { nodes = stepped i; accepted = accepts i; frames = sends i; contexts = reads i }
