-- What the exports return, and what they hand out, by the node in the slot, if there is one, or of
-- bytes alone. The rule is our own.
use Rattle.std.specs.Prelude.{◌≡◌, ◌≢◌, ◌⊎◌, ◌<◌, ℕ, List, ◌++◌, length, drop, Bool, true, false, nat_lt, Option, Some, None, Result, Ok, Err, if◌then◌else◌}
use Rattle.std.specs.Option.{option_map, unwrap_or}
use Rattle.meta_types.specs.Name.{IsFullPrefix, IsKey, Key, Prefix}
use Rattle.meta_types.specs.Value.{IsBody, ValueParts}
use Rattle.meta_types.specs.declared.fault.TypeFault.TheVariants.{BadName, ValueTooLong}
use Rattle.node_events.specs.declared.event.NodeEvent.{NodeEvent}
use Rattle.node_events.specs.declared.event.NodeEvent.TheVariants.{PutOver, Write}
use Rattle.meta_frame.specs.Fault as frames
use Rattle.meta_frame.specs.Frame.{RefusesBytes, Spells}
use Rattle.meta_frame.specs.declared.fault.FrameFault.{FrameFault}
use Rattle.meta_frame.specs.declared.fault.FrameFault.TheVariants.{BadBody}
use Rattle.meta_frame.specs.declared.message.Frame.{Frame}
use Rattle.node_file.specs.Fault as files
use Rattle.node_file.specs.Clean.{clean_bytes}
use Rattle.node_file.specs.File.{StandsFor, file_state, new_state, opened}
use Rattle.node_file.specs.declared.fault.FileFault.{FileFault}
use Rattle.node_file.specs.declared.fault.FileFault.TheVariants.{Damaged}
use Rattle.node_hosted.specs.Fault.{code_of}
use Rattle.node_hosted.specs.Hosting.{Acts, ForgetsContext, HostedParts, IsLooked, KeepsContext, RefusesActing, after_sending, context_at, handed_reply}
use Rattle.node_hosted.specs.declared.fault.HostFault.{HostFault}
use Rattle.node_hosted.specs.declared.fault.HostFault.TheVariants.{Argument, Memory, NoSuchRead}
use Rattle.sealed_frames.specs.Seal.{IsSealed, frame_in, seal_of}
use Rattle.sealed_frames.specs.declared.key.Keys.{Keys}
use Rattle.node_export.specs.Spelling.{list_bytes, nodes_bytes, prefixes_bytes, reply_bytes, shown_bytes}
use Rattle.node_export.specs.declared.reading.About.{About}

-- the number of how a call ended: 0, or that of its refusal
abbrev pub answer_of : {A : Type 0} → Result A HostFault → ℕ
answer_of (Ok done) = 0
answer_of (Err fault) = code_of fault

-- what an export does with the node in the slot, which is there before and after; 80 if there is
-- none
abbrev pub InSlot : (HostedParts → HostedParts → ℕ → Type 0)
    → Option HostedParts → Option HostedParts → ℕ → Type 0
InSlot does None new answer = (answer ≡ 80) × (new ≡ None)
InSlot does (Some old) None answer = ⊥
InSlot does (Some old) (Some new) answer = does old new answer

-- the answer says how this ended
abbrev pub AnswersAs : (HostedParts → Result (Unit {0}) HostFault → HostedParts → Type 0)
    → HostedParts → HostedParts → ℕ → Type 0
AnswersAs does old new answer =
    (outcome : Result (Unit {0}) HostFault) × (answer ≡ answer_of outcome)
    × does old outcome new

-- ---- steps

-- the node made the step of the event, or refused it
abbrev pub StepsOrRefuses : NodeEvent → HostedParts → Result (Unit {0}) HostFault → HostedParts
    → Type 0
StepsOrRefuses event old (Ok done) new = Acts old event new
StepsOrRefuses event old (Err fault) new = RefusesActing old event new fault

abbrev pub Answers : Option HostedParts → NodeEvent → Option HostedParts → ℕ → Type 0
Answers old event new answer = InSlot (AnswersAs (StepsOrRefuses event)) old new answer

-- nothing was done, for this cause
abbrev pub Declines : ℕ → HostedParts → HostedParts → ℕ → Type 0
Declines cause old new answer = (new ≡ old) × (answer ≡ cause)

-- the same, or memory ran out
abbrev pub DeclinesOrFails : ℕ → HostedParts → HostedParts → ℕ → Type 0
DeclinesOrFails cause old new answer = Declines cause old new answer ⊎ Declines 99 old new answer

-- the key of these names, which may be out of range
abbrev pub key_named : List ℕ → List ℕ → List ℕ → Key
key_named prefix sub key =
    record { prefix = record { prefix = prefix; sub = sub }; key = key }

-- a step whose bytes are copied first
abbrev pub AnswersCopied : NodeEvent → HostedParts → HostedParts → ℕ → Type 0
AnswersCopied event old new answer =
    AnswersAs (StepsOrRefuses event) old new answer ⊎ Declines 99 old new answer

-- a step that names something; 1 if that is out of range
pub record AnswersNamed (in_range : Type 0) (event : NodeEvent) (old new : HostedParts)
    (answer : ℕ) : Type 0 where
  pub lawful : in_range → AnswersCopied event old new answer
  pub unlawful : (in_range → ⊥) → DeclinesOrFails 1 old new answer

-- a step that names another node; 3 if no node has the number
pub record AnswersPeer (peer : ℕ) (event : NodeEvent) (old new : HostedParts) (answer : ℕ)
    : Type 0 where
  pub lawful : peer < 16 → AnswersAs (StepsOrRefuses event) old new answer
  pub unlawful : (peer < 16 → ⊥) → Declines 3 old new answer

-- ---- writes

-- there is a context of the number, or it is 0, which asks for none
abbrev pub HasContext : ℕ → HostedParts → Type 0
HasContext context n = (context ≡ 0) ⊎ (context_at context n ≢ None)

-- a write can be asked for: its context is there, and its key and its value are in range
pub record CanAskFor (context : ℕ) (key : Key) (value : ValueParts) (n : HostedParts)
    : Type 0 where
  pub context_there : HasContext context n
  pub key_in_range : IsKey key
  pub value_in_range : IsBody value.body

-- The first cause for which it can't be asked for. Memory may run out for copies of its parts, once
-- its context is there.
abbrev pub CannotAskFor : ℕ → Key → ValueParts → HostedParts → HostFault → Type 0
CannotAskFor context key value old NoSuchRead = (context ≢ 0) × (context_at context old ≡ None)
CannotAskFor context key value old (Argument BadName) = HasContext context old × (IsKey key → ⊥)
CannotAskFor context key value old (Argument ValueTooLong) =
    HasContext context old × IsKey key × (IsBody value.body → ⊥)
CannotAskFor context key value old Memory = HasContext context old
CannotAskFor context key value old fault = ⊥

-- the write, which has read what the context of the number says, was made, or it was refused; or it
-- could not be asked for
abbrev pub Writes : ℕ → Key → ValueParts → HostedParts → Result (Unit {0}) HostFault
    → HostedParts → Type 0
Writes context key value old (Ok done) new =
    CanAskFor context key value old × Acts old (Write key value (context_at context old)) new
Writes context key value old (Err fault) new =
    (CanAskFor context key value old
    × RefusesActing old (Write key value (context_at context old)) new fault)
    ⊎ (CannotAskFor context key value old fault × (new ≡ old))

-- the same of a write over all that the node shows
abbrev pub WritesOver : Key → ValueParts → HostedParts → Result (Unit {0}) HostFault → HostedParts
    → Type 0
WritesOver key value old (Ok done) new =
    CanAskFor 0 key value old × Acts old (PutOver key value) new
WritesOver key value old (Err fault) new =
    (CanAskFor 0 key value old × RefusesActing old (PutOver key value) new fault)
    ⊎ (CannotAskFor 0 key value old fault × (new ≡ old))

-- ---- what is handed out

-- nothing is handed out, for this cause: the buffer and the length stay as they are
abbrev pub HandsNothing : ℕ → List ℕ → List ℕ → ℕ → ℕ → ℕ → Type 0
HandsNothing cause old new before len answer = (answer ≡ cause) × (new ≡ old) × (len ≡ before)

-- a buffer that is too short stays as it is, 81; the front of another one holds the bytes
abbrev pub CopiedUnless : Bool → List ℕ → List ℕ → List ℕ → ℕ → Type 0
CopiedUnless true bytes old new answer = (answer ≡ 81) × (new ≡ old)
CopiedUnless false bytes old new answer =
    (answer ≡ 0) × (new ≡ bytes ++ drop (length bytes) old)

-- the bytes, with their length, if the buffer has room for them; 38 if there are none
abbrev pub Hands : Option (List ℕ) → List ℕ → List ℕ → ℕ → ℕ → ℕ → Type 0
Hands None old new before len answer = HandsNothing 38 old new before len answer
Hands (Some bytes) old new before len answer =
    (len ≡ length bytes) × CopiedUnless (nat_lt (length old) (length bytes)) bytes old new answer

-- what is handed out of the node in the slot; 80 if there is none
abbrev pub HandsFrom : Option HostedParts
    → (HostedParts → List ℕ → List ℕ → ℕ → ℕ → ℕ → Type 0)
    → List ℕ → List ℕ → ℕ → ℕ → ℕ → Type 0
HandsFrom None hands old new before len answer = HandsNothing 80 old new before len answer
HandsFrom (Some n) hands old new before len answer = hands n old new before len answer

-- these bytes of the node
abbrev pub HandsOf : (HostedParts → Option (List ℕ)) → HostedParts → List ℕ → List ℕ → ℕ → ℕ → ℕ
    → Type 0
HandsOf wanted n old new before len answer = Hands (wanted n) old new before len answer

-- the bytes of the reply that is handed out
abbrev pub handed_reply_bytes : HostedParts → Option (List ℕ)
handed_reply_bytes n = option_map reply_bytes (handed_reply n)

-- the reply; or memory ran out for its bytes
abbrev pub HandsReply : HostedParts → List ℕ → List ℕ → ℕ → ℕ → ℕ → Type 0
HandsReply n old new before len answer =
    Hands (handed_reply_bytes n) old new before len answer
    ⊎ (HandsNothing 99 old new before len answer × (handed_reply n ≢ None))

-- these bytes; or memory ran out for them
abbrev pub HandsMade : List ℕ → List ℕ → List ℕ → ℕ → ℕ → ℕ → Type 0
HandsMade bytes old new before len answer =
    Hands (Some bytes) old new before len answer ⊎ HandsNothing 99 old new before len answer

-- the same of something that is named; 1 if the name is out of range; or memory ran out
pub record HandsNamed (in_range : Type 0) (bytes old new : List ℕ) (before len answer : ℕ)
    : Type 0 where
  pub lawful : in_range → HandsMade bytes old new before len answer
  pub unlawful : (in_range → ⊥) → HandsNothing 1 old new before len answer
      ⊎ HandsNothing 99 old new before len answer

-- the full prefixes of the node's table
abbrev pub HandsPrefixes : HostedParts → List ℕ → List ℕ → ℕ → ℕ → ℕ → Type 0
HandsPrefixes n old new before len answer =
    HandsMade (prefixes_bytes n.state.table) old new before len answer

-- the keys under a full prefix
abbrev pub HandsList : Prefix → HostedParts → List ℕ → List ℕ → ℕ → ℕ → ℕ → Type 0
HandsList prefix n old new before len answer =
    HandsNamed (IsFullPrefix prefix) (list_bytes prefix n.state.table) old new before len answer

-- the values that are shown under a key
abbrev pub HandsShown : Key → HostedParts → List ℕ → List ℕ → ℕ → ℕ → ℕ → Type 0
HandsShown key n old new before len answer =
    HandsNamed (IsKey key) (shown_bytes key n.state.table) old new before len answer

-- the nodes of its active view
abbrev pub HandsNeighbours : HostedParts → List ℕ → List ℕ → ℕ → ℕ → ℕ → Type 0
HandsNeighbours n old new before len answer =
    HandsMade (nodes_bytes n.state.overlay.views.active) old new before len answer

-- what is told of a node
abbrev pub about_of : HostedParts → About
about_of n = record {
  number = n.state.node;
  is_stopped = if n.stopped then 1 else 0;
  life = n.state.incarnation;
  keys = length n.state.table;
  gate = unwrap_or n.gate 0;
}

-- the program sent the next frame, if there is one
abbrev pub Sends : HostedParts → HostedParts → ℕ → Type 0
Sends old new answer = (answer ≡ 0) × (new ≡ after_sending old)

-- ---- contexts

-- the context of the last reply stands under the number; 38 if that reply is no read's
abbrev pub KeepsAs : ℕ → HostedParts → HostedParts → ℕ → Type 0
KeepsAs number old new answer =
    ((answer ≡ 0) × KeepsContext old new number)
    ⊎ ((new ≡ old) × (((answer ≡ 99) × IsLooked (handed_reply old))
    ⊎ ((answer ≡ 38) × (IsLooked (handed_reply old) → ⊥))))

abbrev pub Forgets : ℕ → HostedParts → HostedParts → ℕ → Type 0
Forgets number old new answer = (answer ≡ 0) × ForgetsContext number old new

-- ---- what bytes are refused with

-- The offset that a refusal of a file tells: that of the damage. Others tell none, and what should
-- hold it stays as it was.
abbrev pub damage_told : FileFault → ℕ → ℕ
damage_told (Damaged at) before = at
damage_told fault before = before

-- the number of why a node can't be served from the bytes, and the offset of the damage, or 0 if it
-- can
abbrev pub TellsOfFile : Option FileFault → ℕ → ℕ → ℕ → Type 0
TellsOfFile None before at answer = (answer ≡ 0) × (at ≡ before)
TellsOfFile (Some fault) before at answer =
    (answer ≡ files.code_of fault) × (at ≡ damage_told fault before)

-- the offset that a refusal of a frame tells: that of the field at fault. Others tell none.
abbrev pub field_told : FrameFault → ℕ → ℕ
field_told (BadBody at) before = at
field_told fault before = before

-- the number of why the bytes are no frame, and the offset of the field at fault; or 0 if they are
-- one
abbrev pub TellsOfFrame : List ℕ → ℕ → ℕ → ℕ → Type 0
TellsOfFrame bytes before at answer =
    (((frame : Frame) × Spells frame bytes) × (answer ≡ 0) × (at ≡ before))
    ⊎ ((fault : FrameFault) × RefusesBytes bytes fault × (answer ≡ frames.code_of fault)
    × (at ≡ field_told fault before))

-- ---- clean copies of files

-- the bytes are a file of the node, and the copy is the clean file of what they stand for
pub record IsCleanCopy (node : ℕ) (bytes copy : List ℕ) : Type 0 where
  pub opens : (gate : ℕ) × (opened (Some node) bytes ≡ Ok (file_state bytes, gate))
  pub stands : let s = file_state bytes in
      StandsFor (new_state s.node s.contents.life s.contents.table) copy
  pub spelled : let s = file_state bytes in
      copy ≡ clean_bytes s.node s.contents.life s.contents.table

-- a clean copy of the file; or the number of why the bytes aren't opened; or memory ran out
abbrev pub HandsCopy : (node : ℕ) (bytes old new : List ℕ) (before len answer : ℕ) → Type 0
HandsCopy node bytes old new before len answer =
    ((copy : List ℕ) × IsCleanCopy node bytes copy × Hands (Some copy) old new before len answer)
    ⊎ ((fault : FileFault) × (opened (Some node) bytes ≡ Err fault)
    × HandsNothing (files.code_of fault) old new before len answer)
    ⊎ HandsNothing 99 old new before len answer

-- ---- seals

-- the seal of the frame under the current key; 18 if the bytes are no keys
abbrev pub HandsSeal : Option Keys → (frame old new : List ℕ) → (before len answer : ℕ) → Type 0
HandsSeal None frame old new before len answer = HandsNothing 18 old new before len answer
HandsSeal (Some keys) frame old new before len answer =
    Hands (Some (seal_of keys.current frame)) old new before len answer

-- The bytes are sealed under one of the keys: 0, and how many of them are the frame. They aren't:
-- 17. The bytes of the keys are none: 18. What should hold the length then stays as it was.
abbrev pub TellsOfSealed : Option Keys → (bytes : List ℕ) → (before len answer : ℕ) → Type 0
TellsOfSealed None bytes before len answer = (answer ≡ 18) × (len ≡ before)
TellsOfSealed (Some keys) bytes before len answer =
    (IsSealed keys bytes × (answer ≡ 0) × (len ≡ length (frame_in bytes)))
    ⊎ ((IsSealed keys bytes → ⊥) × (answer ≡ 17) × (len ≡ before))
