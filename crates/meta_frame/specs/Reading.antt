-- Messages and frames as readers on lists, made of the readers of the fields. Private functions are
-- proved against these, and the readers against the forms; no public contract cites this file.
use Rattle.std.specs.Prelude.{◌≡◌, ℕ, List, length, drop, Option, Some, None, Result, Ok, Err, ◌==◌, ◌-◌, ◌<◌, ◌≤◌, ◌⊎◌, if◌then◌else◌}
use Rattle.std.specs.Int.{w8, w16, w32, w64}
use Rattle.meta_types.specs.Name.{Key}
use Rattle.meta_types.specs.First.{first_that_applies}
use Rattle.meta_types.specs.Node.{most_nodes}
use Rattle.dvvset.specs.Object.{Counter}
use Rattle.frame_readers.specs.Reader.{Reader, number_reader, then_reader, made_reader, within_reader, node_reader, nodes_reader, priority_reader, answer_reader, digest_reader, digests_reader, prefix_reader, prefixes_reader, keys_reader, key_reader, vector_reader, object_reader}
use Rattle.meta_frame.specs.Frame.{number_in, kind_in, from_in, to_in, header_tests}
use Rattle.meta_frame.specs.declared.message.Message.{Message}
use Rattle.meta_frame.specs.declared.message.Message.TheVariants.{Gossip, IHave, Graft, Prune, Join, ForwardJoin, Disconnect, Neighbor, NeighborReply, Shuffle, ShuffleReply, XRoot, XPrefixes, XInner, XLeaves, XBucket, XObject, XWant, Hello, Bye}
use Rattle.meta_frame.specs.declared.message.Frame.{Frame}
use Rattle.meta_frame.specs.declared.fault.FrameFault.{FrameFault}
use Rattle.meta_frame.specs.declared.fault.FrameFault.TheVariants as frames
use Rattle.frame_readers.specs.declared.fault.FieldFault.{FieldFault}
use Rattle.frame_readers.specs.declared.fault.FieldFault.TheVariants as faults

unfoldable pub gossip_reader : Reader Message
gossip_reader =
    made_reader (then_reader (number_reader w16) (λ _. then_reader key_reader (λ _. object_reader)))
    (λ p. Gossip p.0 p.1.0 p.1.1)

unfoldable pub announced_reader : (ℕ → Key → List Counter → Message) → Reader Message
announced_reader make =
    made_reader (then_reader (number_reader w16) (λ _. then_reader key_reader (λ _. vector_reader)))
    (λ p. make p.0 p.1.0 p.1.1)

unfoldable pub forwarded_reader : Reader Message
forwarded_reader =
    made_reader (then_reader node_reader (λ _. number_reader w8)) (λ p. ForwardJoin p.0 p.1)

unfoldable pub shuffle_reader : Reader Message
shuffle_reader =
    made_reader (then_reader node_reader (λ _. then_reader (number_reader w8) (λ _. nodes_reader)))
    (λ p. Shuffle p.0 p.1.0 p.1.1)

unfoldable pub inner_reader : Reader Message
inner_reader = made_reader (then_reader prefix_reader (λ _. digests_reader)) (λ p. XInner p.0 p.1)

unfoldable pub leaves_reader : Reader Message
leaves_reader =
    made_reader (then_reader prefix_reader
    (λ _. then_reader (within_reader w8 0 15) (λ _. digests_reader)))
    (λ p. XLeaves p.0 p.1.0 p.1.1)

unfoldable pub bucket_reader : Reader Message
bucket_reader =
    made_reader (then_reader prefix_reader (λ _. then_reader (number_reader w8) (λ _. keys_reader)))
    (λ p. XBucket p.0 p.1.0 p.1.1)

unfoldable pub carried_reader : Reader Message
carried_reader = made_reader (then_reader key_reader (λ _. object_reader)) (λ p. XObject p.0 p.1)

abbrev pub life_reader : Reader ℕ
life_reader = within_reader w32 1 4294967295

unfoldable pub message_reader : ℕ → Reader Message
message_reader kind bytes =
    if kind == 1 then gossip_reader bytes else (
    if kind == 2 then announced_reader IHave bytes else (
    if kind == 3 then announced_reader Graft bytes else (
    if kind == 4 then Ok (Prune, bytes) else (
    if kind == 5 then Ok (Join, bytes) else (
    if kind == 6 then forwarded_reader bytes else (
    if kind == 7 then Ok (Disconnect, bytes) else (
    if kind == 8 then made_reader priority_reader (λ p. Neighbor p) bytes else (
    if kind == 9 then made_reader answer_reader (λ a. NeighborReply a) bytes else (
    if kind == 10 then shuffle_reader bytes else (
    if kind == 11 then made_reader nodes_reader (λ ns. ShuffleReply ns) bytes else (
    if kind == 12 then made_reader digest_reader (λ d. XRoot d) bytes else (
    if kind == 13 then made_reader prefixes_reader (λ rows. XPrefixes rows) bytes else (
    if kind == 14 then inner_reader bytes else (
    if kind == 15 then leaves_reader bytes else (
    if kind == 16 then bucket_reader bytes else (
    if kind == 17 then carried_reader bytes else (
    if kind == 18 then made_reader key_reader (λ k. XWant k) bytes else (
    if kind == 19 then made_reader life_reader (λ life. Hello life) bytes else (
    if kind == 20 then Ok (Bye, bytes)
    else Err (length bytes))))))))))))))))))))

-- the frame of a header and a message
abbrev pub framed : List ℕ → Message → Frame
framed bytes message =
    record {
      from = from_in bytes;
      to = to_in bytes;
      number = number_in w64 8 bytes;
      message = message;
    }

-- a body was read, and nothing may be left
abbrev pub whole : List ℕ → Result (Message × List ℕ) ℕ → Result Frame FrameFault
whole bytes (Err left) = Err (frames.BadBody (length bytes - left))
whole bytes (Ok read) =
    if length read.1 == 0
    then Ok (framed bytes read.0)
    else Err (frames.BadBody (length bytes - length read.1))

abbrev pub checked : List ℕ → Option FrameFault → Result Frame FrameFault
checked bytes (Some fault) = Err fault
checked bytes None = whole bytes (message_reader (kind_in bytes) (drop 20 bytes))

unfoldable pub decode_of : List ℕ → Result Frame FrameFault
decode_of bytes = checked bytes (first_that_applies (header_tests bytes))

-- what a call returned is what reading gives, unless memory ran out
abbrev pub Decodes : Result Frame FrameFault → Result Frame FrameFault → Type 0
Decodes (Ok frame) read = read ≡ Ok frame
Decodes (Err fault) read = (fault ≡ frames.Memory) ⊎ (read ≡ Err fault)

-- what a header that passed its tests keeps
pub record IsHeader (bytes : List ℕ) : Type 0 where
  pub long : 20 ≤ length bytes
  pub from : from_in bytes < most_nodes
  pub to : to_in bytes < most_nodes

-- a fault by its offset
abbrev pub offset_of : List ℕ → FieldFault → FrameFault
offset_of bytes faults.Memory = frames.Memory
offset_of bytes (faults.Left left) = frames.BadBody (length bytes - left)
