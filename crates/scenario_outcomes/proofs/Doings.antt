-- What a lawful event of a lawful world is to its node: a step by a lawful event or by a frame, or a restart from an image that
-- is there, into a life that is left.
use Rattle.std.proofs.Common.{◌≡◌, ◌≢◌, ℕ, zero, suc, ◌<◌, ◌≤◌, ◌⊎◌, inl, inr, List, [], ◌∷◌, length, All, Option, Some, None, IfSome, refl, arith}
use Rattle.std.specs.Option.{unwrap_or}
use Rattle.std.specs.Prelude.{slice_get}
use Rattle.std.proofs.lemmas.Bool.{cases_lt}
use Rattle.std.proofs.lemmas.List.Elements.{All-head, All-tail}
use Rattle.meta_types.specs.Node.{IsNode, most_nodes}
use Rattle.dvvset.specs.Object.{IsVector}
use Rattle.meta_store.specs.Context.{Reading}
use Rattle.node_events.specs.declared.event.NodeEvent.{NodeEvent}
use Rattle.node_events.specs.declared.event.NodeEvent.TheVariants.{Write, PutOver, Take, Join, PeerDown, Exchange, Hello}
use Rattle.node_outcomes.specs.Lawful.{IsLawfulEvent}
use Rattle.restart_images.specs.Keeping.{most_incarnation}
use Rattle.restart_images.specs.Node.{ImagedNode}
use Rattle.world_core.specs.declared.event.Event.{Event}
use Rattle.world_core.specs.declared.event.Event.TheVariants as events
use Rattle.world_core.specs.Events.{Begin, Doing, Step, node_of_event}
use Rattle.world_core.specs.Numbers.{numbered}
use Rattle.world_core.specs.Refusal.{HasNoNode, IsFrame, doing_in, node_at}
use Rattle.world_core.specs.World.{World}
use Rattle.world_core.proofs.Refusing.{AllThere}
use Rattle.scenario_outcomes.specs.Lawful.{IsLawfulWorldEvent, IsLawfulWorld}

-- what comes is a frame
abbrev pub BringsFrame : NodeEvent → Type 0
BringsFrame (Take bytes word) = IsFrame bytes
BringsFrame event = ⊥

abbrev pub IsLawfulStep : NodeEvent → Type 0
IsLawfulStep step = IsLawfulEvent step ⊎ BringsFrame step

-- a lawful step, or a restart from an image that is there, into a life that is left
abbrev pub IsLawfulDoing : ImagedNode → Doing → Type 0
IsLawfulDoing node (Step step) = IsLawfulStep step
IsLawfulDoing node (Begin image) = (image ≤ length node.images) × (node.state.incarnation ≢ most_incarnation)

-- ---- what has a number

All-slice_get : {A : Type 0} (P : A → Type 0) (xs : List A) (at : ℕ) → All P xs → IfSome (slice_get xs at) P
All-slice_get P [] at all = tt
All-slice_get P (x ∷ xs) zero all = All-head P x xs all
All-slice_get P (x ∷ xs) (suc at) all = All-slice_get P xs at (All-tail P x xs all)

All-numbered : {A : Type 0} (P : A → Type 0) (xs : List A) (number : ℕ) → All P xs → IfSome (numbered xs number) P
All-numbered P xs zero all = tt
All-numbered P xs (suc before) all = All-slice_get P xs before all

frame_there : (bytes : Option (List ℕ)) → (bytes ≡ None → ⊥) → IfSome bytes IsFrame → IsFrame (unwrap_or bytes [])
frame_there None there is = absurd (there refl)
frame_there (Some bytes) there is = is

-- ---- an event

peer_there : (w : World) (peer : ℕ) → length w.nodes ≤ most_nodes → (HasNoNode w (Some peer) → ⊥) → IsNode peer
peer_there w peer most there =
    elim (cases_lt peer (length w.nodes)) as (λ _. IsNode peer) [
      | inl low ↦ omega (arith, low, most)
      | inr past ↦ absurd (there past)
    ]

lawful_asked : (w : World) (n : ℕ) (event : NodeEvent) → IsLawfulWorld w → IsLawfulWorldEvent (events.Step n event)
    → AllThere w (events.Step n event) → IsLawfulEvent event
lawful_asked w n (Write key value None) is brings there = (brings.0, brings.1, tt)
lawful_asked w n (Write key value (Some context)) is brings there = absurd (there.read tt)
lawful_asked w n (PutOver key value) is brings there = brings
lawful_asked w n (Take bytes word) is brings there = brings
lawful_asked w n (Join contact word) is brings there = peer_there w contact is.most (λ none. there.node (inr none))
lawful_asked w n (PeerDown peer word) is brings there = peer_there w peer is.most (λ none. there.node (inr none))
lawful_asked w n (Exchange peer) is brings there = peer_there w peer is.most (λ none. there.node (inr none))
lawful_asked w n (Hello peer) is brings there = peer_there w peer is.most (λ none. there.node (inr none))
lawful_asked w n event is brings there = tt

image_there : (image count : ℕ) → (count < image → ⊥) → image ≤ count
image_there image count there =
    elim (cases_lt count image) as (λ _. image ≤ count) [ inl past ↦ absurd (there past) | inr low ↦ low ]

pub lawful_doing : (w : World) (event : Event) → IsLawfulWorld w → IsLawfulWorldEvent event → AllThere w event
    → IsLawfulDoing (node_at w (node_of_event event)) (doing_in w event)
lawful_doing w (events.Step n event) is brings there = inl (lawful_asked w n event is brings there)
lawful_doing w (events.Put n key value read) is brings there =
    inl (brings.0, brings.1, All-numbered (λ (context : Reading). IsVector context.vector) w.contexts read is.contexts)
lawful_doing w (events.Deliver frame n word) is brings there =
    inr (frame_there (numbered w.frames frame) there.frame (All-numbered IsFrame w.frames frame is.frames))
lawful_doing w (events.Restart n image) is brings there =
    (image_there image (length (node_at w n).images) there.image, there.life)
