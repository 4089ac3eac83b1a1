-- Which call of the broadcast a change makes, by where it comes from, and what the broadcast gives
-- out, as messages.
use Rattle.std.specs.Prelude.{ℕ, ◌≢◌, List, [], ◌∷◌}
use Rattle.meta_types.specs.Name.{Key}
use Rattle.dvvset.specs.Object.{Counter, Entry}
use Rattle.meta_frame.specs.declared.message.Message.TheVariants.{Gossip as GossipMessage}
use Rattle.plumtree.specs.declared.entry.CastOut.{CastOut}
use Rattle.plumtree.specs.declared.entry.CastOut.TheVariants as OfCast
use Rattle.plumtree.specs.Broadcast.{CastCall, Broadcasts, TakesFresh}
use Rattle.node_overlay.specs.declared.origin.Origin.{Origin}
use Rattle.node_overlay.specs.declared.origin.Origin.TheVariants.{Write, Gossip}
use Rattle.node_overlay.specs.declared.envelope.Envelope.{Envelope}
use Rattle.node_overlay.specs.Overlay.{envelope}

-- the key's context is now this vector
abbrev pub call_of : Origin → Key → List Counter → CastCall
call_of Write key vector = Broadcasts key vector
call_of (Gossip from round) key vector = TakesFresh from round key vector

-- it comes from the node itself, or from another one
abbrev pub HasOtherSender : ℕ → Origin → Type 0
HasOtherSender node Write = Unit {0}
HasOtherSender node (Gossip from round) = from ≢ node

-- ---- what the broadcast gives out

-- a GOSSIP that the broadcast gives out carries this object
abbrev pub envelope_with : List Entry → CastOut → Envelope
envelope_with object (OfCast.Gossip to round key) = envelope to (GossipMessage round key object)
envelope_with object (OfCast.Send to message) = envelope to message

-- the messages that the broadcast gives out whole
abbrev pub whole_messages : List CastOut → List Envelope
whole_messages [] = []
whole_messages (OfCast.Gossip to round key ∷ outs) = whole_messages outs
whole_messages (OfCast.Send to message ∷ outs) = envelope to message ∷ whole_messages outs
