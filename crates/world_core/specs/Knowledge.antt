-- What the nodes, the contexts, the frames and the replies of a world say, in the words of the
-- past.
use Rattle.std.specs.Prelude.{◌≡◌, ℕ, ◌<◌, List, length, Some, slice_get, ◌↔◌}
use Rattle.meta_types.specs.Actor.{node_of_writer}
use Rattle.meta_types.specs.Name.{Key}
use Rattle.meta_types.specs.Value.{ValueParts}
use Rattle.dvvset.specs.Object.{Entry}
use Rattle.dvvset.specs.Clock.{join, values_of}
use Rattle.meta_store.specs.Context.{Reading}
use Rattle.meta_store.specs.Table.{object_at}
use Rattle.node_events.specs.declared.reply.Reply.{Reply}
use Rattle.node_events.specs.declared.reply.Reply.TheVariants.{Looked as HasLooked, TookFresh, TookStale}
use Rattle.past_model.specs.declared.happening.Happening.{Happening}
use Rattle.past_model.specs.declared.happening.Happening.TheVariants.{Looked, Sent}
use Rattle.past_model.specs.Sets.{IsSubset}
use Rattle.past_model.specs.Past.{known, load, seen, writes}
use Rattle.past_model.specs.Shown.{IsContext, IsObjectOf, Shows}
use Rattle.world_core.specs.declared.answer.Answer.{Answer}
use Rattle.world_core.specs.declared.event.Event.{Event}
use Rattle.world_core.specs.declared.event.Event.TheVariants.{Deliver}
use Rattle.world_core.specs.Numbers.{numbered}
use Rattle.world_core.specs.Tells.{Told, Tells, sending_of}
use Rattle.world_core.specs.World.{World}
use Rattle.world_core.specs.Refusal.{table_at}

-- what holds of all that the accepted events of a world tell
abbrev pub OfAllTold : World → (Told → Type 0) → Type 0
OfAllTold w P = (t : Told) → Tells w.accepted w.frames t → P t

-- two nodes know the same writes under a key
abbrev pub KnowTheSame : Told → (m n : ℕ) → Key → Type 0
KnowTheSame t m n key =
    (place : ℕ) → known t.history m key place ≡ known t.history n key place

-- the object shows what the node knows under the key by the history: the values are those of the
-- writes that it knows and that no write it knows had read, and the vector counts all that it knows
pub record ShowsKnown (hs : List Happening) (n : ℕ) (key : Key) (object : List Entry) : Type 0 where
  pub siblings : Shows (writes hs) (known hs n key) (values_of object)
  pub context : IsContext (writes hs) (known hs n key) (join object)

-- each node holds, under each key, the object of the writes that it knows there
abbrev pub ShowWhatTheyKnow : World → Type 0
ShowWhatTheyKnow w = OfAllTold w (λ t. (n : ℕ) (key : Key) → n < length w.nodes
    → IsObjectOf (writes t.history) key (known t.history n key) (object_at (table_at w n) key))

-- the context of a read counts what its node knew under its key, which was a closed set of writes
pub record CountsSeen (t : Told) (read : ℕ) (context : Reading) : Type 0 where
  pub place : ℕ
  pub told_at : numbered t.looks read ≡ Some place
  pub looked : slice_get t.history place
      ≡ Some (Looked (node_of_writer context.source.actor) context.key)
  pub object : List Entry
  pub of_seen : IsObjectOf (writes t.history) context.key (seen t.history place context.key) object
  pub vector : context.vector ≡ join object

-- the context that an answer hands out is the one of its read number
abbrev pub HandsOut : World → Answer → Type 0
HandsOut w answer = (values : List ValueParts) (context : Reading)
    → answer.reply ≡ HasLooked values context
    → (read : ℕ) × ((answer.read ≡ Some read) × (numbered w.contexts read ≡ Some context))

-- the object of a frame is of what its sender knew under its key
pub record CarriesLoad (t : Told) (number from : ℕ) (key : Key) (object : List Entry) : Type 0 where
  pub place : ℕ
  pub told_at : sending_of t number ≡ Some place
  pub sent : slice_get t.history place ≡ Some (Sent from key)
  pub is : IsObjectOf (writes t.history) key (load t.history place key) object

-- the reply to an object that was sent at the place: fresh exactly if the node didn't know all that
-- was sent, and stale exactly if it did
pub record TellsFreshness (hs : List Happening) (n place : ℕ) (key : Key) (reply : Reply)
    : Type 0 where
  pub fresh : (reply ≡ TookFresh) ↔ (IsSubset (load hs place key) (known hs n key) → ⊥)
  pub stale : (reply ≡ TookStale) ↔ IsSubset (load hs place key) (known hs n key)

-- a delivery of a frame with an object is answered fresh or stale as that says; of other events
-- nothing is said
abbrev pub FreshExactly : World → Event → Answer → Type 0
FreshExactly w (Deliver number n word) answer = OfAllTold w (λ t. (place m : ℕ) (key : Key)
    → sending_of t number ≡ Some place → slice_get t.history place ≡ Some (Sent m key)
    → TellsFreshness t.history n place key answer.reply)
FreshExactly w event answer = Unit {0}
