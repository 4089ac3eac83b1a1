-- The frames of a node's messages.
use Rattle.std.specs.Prelude.{ℕ, ◌≡◌, ◌≢◌, ◌≤◌, ◌+◌, ◌-◌, ◌^◌, min, List, [], ◌∷◌, map, All}
use Rattle.dvvset.specs.Object.{Counter}
use Rattle.frame_fields.specs.Field.{place, vector as vector_form}
use Rattle.meta_frame.specs.declared.message.Frame.{Frame}
use Rattle.meta_frame.specs.declared.message.Message.{Message}
use Rattle.meta_frame.specs.declared.message.Message.TheVariants.{Gossip, IHave, Graft, XLeaves, XObject, Hello}
use Rattle.meta_frame.specs.Frame.{Spells, spelling}
use Rattle.meta_store.specs.Table.{IsHeld}
use Rattle.node_overlay.specs.declared.envelope.Envelope.{Envelope}

-- a count goes up to the greatest number of 64 bits, and stays there
abbrev pub count_on : ℕ → ℕ → ℕ
count_on so_far more = min (so_far + more) (2 ^ 64 - 1)

abbrev pub frame_of : ℕ → ℕ → Envelope → Frame
frame_of node number e = record { from = node; to = e.to; number = number; message = e.message }

-- numbered on from here: the first has the next number; at the greatest, all have that one
abbrev pub frames_from : ℕ → ℕ → List Envelope → List Frame
frames_from node number [] = []
frames_from node number (e ∷ es) =
    frame_of node (count_on number 1) e ∷ frames_from node (count_on number 1) es

-- the vector has a spelling: it counts an event, and few writers
abbrev pub IsSpelledVector : List Counter → Type 0
IsSpelledVector = vector_form.Fits

-- what a message needs to have a spelling, beside what the types of its fields say: its object may
-- be held, its vector is spelled, its inner node is one of sixteen, and its life is one
abbrev pub IsSendable : Message → Type 0
IsSendable (Gossip round key object) = IsHeld object
IsSendable (IHave round key vector) = IsSpelledVector vector
IsSendable (Graft round key vector) = IsSpelledVector vector
IsSendable (XLeaves prefix inner digests) = place.Fits inner
IsSendable (XObject key object) = IsHeld object
IsSendable (Hello life) = 1 ≤ life
IsSendable message = Unit {0}

-- such a message goes to another node
pub record MaySend (node : ℕ) (e : Envelope) : Type 0 where
  pub apart : e.to ≢ node
  pub sendable : IsSendable e.message

-- the frame is lawful, so it goes to another node, and has no more bytes than a frame may have
abbrev pub HasSpelling : Frame → Type 0
HasSpelling frame = Spells frame (spelling frame)

-- these are the frames of the messages, as bytes, numbered from the one after `number` on, each of
-- them lawful and short enough
pub record AreFramesOf (node number : ℕ) (sent : List Envelope) (outbox : List (List ℕ))
    : Type 0 where
  pub frames : outbox ≡ map spelling (frames_from node number sent)
  pub lawful : All HasSpelling (frames_from node number sent)
