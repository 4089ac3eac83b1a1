-- What an event names: another node, or a key under which there is something to be stored.
use Rattle.std.specs.Prelude.{ℕ, Option, Some, None}
use Rattle.meta_types.specs.Name.{Key}
use Rattle.node_events.specs.declared.event.NodeEvent.{NodeEvent}
use Rattle.node_events.specs.declared.event.NodeEvent.TheVariants.{Write, PutOver, Join, PeerDown, Exchange, Keep, Hello}

-- the other node that it names, if it names one
abbrev pub other_of : NodeEvent → Option ℕ
other_of (Join contact word) = Some contact
other_of (PeerDown peer word) = Some peer
other_of (Exchange peer) = Some peer
other_of (Hello peer) = Some peer
other_of event = None

-- the key of a write or a keeping: what the node then holds under it is to be stored
abbrev pub stored_key : NodeEvent → Option Key
stored_key (Write key value context) = Some key
stored_key (PutOver key value) = Some key
stored_key (Keep key) = Some key
stored_key event = None
