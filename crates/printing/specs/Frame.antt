-- Printed frames and refusals.
use Rattle.std.specs.Prelude.{ℕ, List, [], ◌++◌, codes, decimal}
use Rattle.meta_frame.specs.declared.message.Message.{Message}
use Rattle.meta_frame.specs.declared.message.Message.TheVariants.{Gossip, IHave, Graft, Prune, Join, ForwardJoin, Disconnect, Neighbor, NeighborReply, Shuffle, ShuffleReply, XRoot, XPrefixes, XInner, XLeaves, XBucket, XObject, XWant, Hello, Bye}
use Rattle.meta_frame.specs.declared.message.Frame.{Frame}
use Rattle.frame_fields.specs.declared.neighbor.Priority.{Priority}
use Rattle.frame_fields.specs.declared.neighbor.Priority.TheVariants.{Low, High}
use Rattle.frame_fields.specs.declared.neighbor.NeighborAnswer.{NeighborAnswer}
use Rattle.frame_fields.specs.declared.neighbor.NeighborAnswer.TheVariants.{No, Yes}
use Rattle.meta_frame.specs.declared.fault.FrameFault.{FrameFault}
use Rattle.meta_frame.specs.declared.fault.FrameFault.TheVariants.{BadBody}
use Rattle.meta_frame.specs.Frame.{name_of}
use Rattle.meta_frame.specs.Fault.{code_of, fault_name}
use Rattle.printing.specs.Field.{prefix_text, key_text}
use Rattle.printing.specs.Row.{nodes_text, digest_text, digests_text, prefixes_text, keys_text}
use Rattle.printing.specs.Object.{vector_text, object_text}

abbrev pub priority_text : Priority → List ℕ
priority_text Low = codes "low"
priority_text High = codes "high"

abbrev pub answer_text : NeighborAnswer → List ℕ
answer_text No = codes "no"
answer_text Yes = codes "yes"

-- what is printed after the number of a frame, for each kind
unfoldable pub message_text : Message → List ℕ
message_text (Gossip round k o) = codes " round " ++ decimal round ++ codes " key " ++ key_text k
    ++ codes " " ++ object_text o
message_text (IHave round k v) = codes " round " ++ decimal round ++ codes " key " ++ key_text k
    ++ codes " ctx " ++ vector_text v
message_text (Graft round k v) = codes " round " ++ decimal round ++ codes " key " ++ key_text k
    ++ codes " ctx " ++ vector_text v
message_text Prune = []
message_text Join = []
message_text (ForwardJoin n ttl) = codes " node " ++ decimal n ++ codes " ttl " ++ decimal ttl
message_text Disconnect = []
message_text (Neighbor p) = codes " priority " ++ priority_text p
message_text (NeighborReply a) = codes " answer " ++ answer_text a
message_text (Shuffle origin ttl ns) = codes " origin " ++ decimal origin ++ codes " ttl "
    ++ decimal ttl ++ codes " nodes " ++ nodes_text ns
message_text (ShuffleReply ns) = codes " nodes " ++ nodes_text ns
message_text (XRoot d) = codes " root " ++ digest_text d
message_text (XPrefixes rows) = codes " prefixes " ++ prefixes_text rows
message_text (XInner p ds) = codes " prefix " ++ prefix_text p ++ codes " digests "
    ++ digests_text ds
message_text (XLeaves p inner ds) = codes " prefix " ++ prefix_text p ++ codes " inner "
    ++ decimal inner ++ codes " digests " ++ digests_text ds
message_text (XBucket p leaf rows) = codes " prefix " ++ prefix_text p ++ codes " leaf "
    ++ decimal leaf ++ codes " keys " ++ keys_text rows
message_text (XObject k o) = codes " key " ++ key_text k ++ codes " " ++ object_text o
message_text (XWant k) = codes " key " ++ key_text k
message_text (Hello life) = codes " life " ++ decimal life
message_text Bye = []

-- as `PRUNE from 1 to 0 number 5`
abbrev pub frame_text : Frame → List ℕ
frame_text f = name_of f.message ++ codes " from " ++ decimal f.from ++ codes " to " ++ decimal f.to
    ++ codes " number " ++ decimal f.number ++ message_text f.message

-- the offset of the field at fault
abbrev pub offset_text : FrameFault → List ℕ
offset_text (BadBody at) = codes " at " ++ decimal at
offset_text fault = []

-- as `error 10 Short`, or `error 15 BadBody at 39`
abbrev pub frame_fault_text : FrameFault → List ℕ
frame_fault_text fault = codes "error " ++ decimal (code_of fault) ++ codes " " ++ fault_name fault
    ++ offset_text fault
