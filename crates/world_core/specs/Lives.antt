-- The lives of a node: what the accepted events were to it, one after the other, and that they took
-- it from a new node to the one that it is.
use Rattle.std.specs.Prelude.{◌≡◌, ℕ, ◌==◌, if◌then◌else◌, List, [], ◌∷◌}
use Rattle.meta_store.specs.Context.{Reading}
use Rattle.node_core.specs.declared.state.Stepped.{Stepped}
use Rattle.node_core.specs.Node.{NodeParts}
use Rattle.node_core.specs.Step.{IsNodeStep}
use Rattle.node_events.specs.declared.reply.Reply.TheVariants.{Done}
use Rattle.restart_images.specs.Images.{Image}
use Rattle.restart_images.specs.Node.{BeginsFrom}
use Rattle.world_core.specs.declared.answer.Accepted.{Accepted}
use Rattle.world_core.specs.Events.{Begin, Doing, Step, doing_of, node_of_event}
use Rattle.world_core.specs.Numbers.{frames_at}

-- what an accepted event was to its node, and what it gave: the reply, and the bytes that it sent
abbrev pub deed_of : List Reading → List (List ℕ) → Accepted → Doing × Stepped
deed_of contexts frames a = (
  doing_of contexts frames a.event,
  record { reply = a.answer.reply; outbox = frames_at a.answer.sent frames },
)

-- those of one node, in order
abbrev pub deeds_of : List Reading → List (List ℕ) → ℕ → List Accepted → List (Doing × Stepped)
deeds_of contexts frames n [] = []
deeds_of contexts frames n (a ∷ later) =
    if node_of_event a.event == n
    then deed_of contexts frames a ∷ deeds_of contexts frames n later
    else deeds_of contexts frames n later

-- what a restart gives
abbrev pub given_by_restart : Stepped
given_by_restart = record { reply = Done; outbox = [] }

-- these take the old node to the new one: each step as the node makes it, with what it gave, and
-- each life from an image, which gives nothing
abbrev pub Live : List Image → NodeParts → List (Doing × Stepped) → NodeParts → Type 0
Live images old [] new = new ≡ old
Live images old ((Step event, given) ∷ later) new =
    (mid : NodeParts) × (IsNodeStep old event mid given × Live images mid later new)
Live images old ((Begin image, given) ∷ later) new =
    (mid : NodeParts) × ((BeginsFrom images image old mid × (given ≡ given_by_restart))
    × Live images mid later new)
