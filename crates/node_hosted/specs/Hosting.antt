-- A node whose host stores and sends for it: what it hands out, and in which order. The rule is our
-- own.
use Rattle.std.specs.Prelude.{◌≡◌, ◌≢◌, ◌⊎◌, ◌≤◌, ℕ, zero, suc, ◌+◌, List, [], ◌∷◌, ◌++◌, length, slice_get, Bool, false, true, not, ◌&&◌, ◌||◌, nat_lt, Option, Some, None, Result, Ok, Err, is_some, if◌then◌else◌}
use Rattle.meta_store.specs.Context.{Reading}
use Rattle.meta_types.specs.Value.{ValueParts}
use Rattle.node_core.specs.Node.{NodeParts, opening}
use Rattle.node_core.specs.Step.{IsNoFrame, IsNodeStep, IsRefused}
use Rattle.node_core.specs.declared.state.Stepped.{Stepped}
use Rattle.node_events.specs.Event.{stored_key}
use Rattle.node_events.specs.declared.event.NodeEvent.{NodeEvent}
use Rattle.node_events.specs.declared.reply.Reply.{Reply}
use Rattle.node_events.specs.declared.reply.Reply.TheVariants.{Looked}
use Rattle.node_file.specs.declared.record.Record.{Record}
use Rattle.node_file.specs.declared.record.Record.TheVariants.{Life}
use Rattle.node_file.specs.File.{file_state, opened}
use Rattle.node_file.specs.Batch.{batch_size}
use Rattle.node_file.specs.Hosted.{CanTake}
use Rattle.node_file.specs.Refusal.{most_file, refusal_of_serve}
use Rattle.node_file.specs.Stored.{IsTooLong, record_under}
use Rattle.node_hosted.specs.Unstored.{spelled}
use Rattle.node_hosted.specs.declared.fault.HostFault.{HostFault}
use Rattle.node_hosted.specs.declared.fault.HostFault.TheVariants.{Step, FileFull, Stopped, Pending, Nothing, Memory}

-- the node; where the closed gate of the host's file stands, if he keeps one; the records that he
-- has to store; what the last step replied; the frames that it sends, or all steps of the batch,
-- and how many of them he has; the contexts that are kept for him, by their places; whether the
-- node is stopped; whether a batch is open
pub record HostedParts : Type 0 where
  pub state : NodeParts
  pub gate : Option ℕ
  pub to_store : List Record
  pub reply : Option Reply
  pub outbox : List (List ℕ)
  pub sent : ℕ
  pub contexts : List (Option Reading)
  pub stopped : Bool
  pub in_batch : Bool

-- no batch is open, and there is a record to store, or a frame to fetch
abbrev pub is_pending : HostedParts → Bool
is_pending n =
    not n.in_batch && (is_some (spelled n.to_store) || nat_lt n.sent (length n.outbox))

-- where the gate stands after these records
abbrev pub gate_after : Option ℕ → List Record → Option ℕ
gate_after None records = None
gate_after (Some gate) records = Some (gate + batch_size records)

-- where it stands once all is stored
abbrev pub next_gate : HostedParts → Option ℕ
next_gate n = gate_after n.gate n.to_store

-- what the host has to store fits in his file; without a file there is nothing
abbrev pub FitsInFile : Option ℕ → List Record → Type 0
FitsInFile None records = records ≡ []
FitsInFile (Some gate) records = gate + batch_size records + 1 ≤ most_file

-- ---- a step

-- it isn't stopped, and unless a batch is open all that the step before gave was stored and fetched
pub record MayStep (n : HostedParts) : Type 0 where
  pub going : n.stopped ≡ false
  pub free : is_pending n ≡ false

-- what the host has to store of a step: its record, if he keeps a file
abbrev pub kept_in : Option ℕ → Option Record → List Record
kept_in None stored = []
kept_in (Some gate) None = []
kept_in (Some gate) (Some record_) = record_ ∷ []

-- the frames of the steps before in the batch; without a batch there are none
abbrev pub frames_before : HostedParts → List (List ℕ)
frames_before n = if n.in_batch then n.outbox else []

-- The node makes the step of the event, and what it gave is to be handed out, behind what the steps
-- before in the batch gave. Without a batch nothing is left of them.
pub record Acts (old : HostedParts) (event : NodeEvent) (new : HostedParts) : Type 0 where
  pub ready : MayStep old
  pub stepped : Stepped
  pub step : IsNodeStep old.state event new.state stepped
  pub to_store : new.to_store
      ≡ old.to_store ++ kept_in old.gate (record_under (stored_key event) new.state.table)
  pub reply : new.reply ≡ Some stepped.reply
  pub outbox : new.outbox ≡ frames_before old ++ stepped.outbox
  pub sent : new.sent ≡ 0
  pub gate : new.gate ≡ old.gate
  pub contexts : new.contexts ≡ old.contexts
  pub going : new.stopped ≡ false
  pub batch : new.in_batch ≡ old.in_batch

-- a file whose closed gate stands there can't take the record
abbrev pub IsOverfullWith : Option ℕ → Option Record → Type 0
IsOverfullWith None stored = ⊥
IsOverfullWith (Some gate) stored = IsTooLong gate stored

-- there is something to store, and a file of this closed gate can take it
pub record IsWanted (gate : Option ℕ) (stored : Option Record) : Type 0 where
  pub there : kept_in gate stored ≢ []
  pub fits : IsOverfullWith gate stored → ⊥

-- why what is to be stored isn't spelled: the file is full, or memory ran out
abbrev pub RefusesSpelling : Option ℕ → Option Record → HostFault → Type 0
RefusesSpelling gate stored FileFull = IsOverfullWith gate stored
RefusesSpelling gate stored Memory = IsWanted gate stored
RefusesSpelling gate stored fault = ⊥

-- the node can make the step, and the host's file can't take its record, behind those that are to
-- be stored
pub record Overfills (old : HostedParts) (event : NodeEvent) : Type 0 where
  pub state : NodeParts
  pub stepped : Stepped
  pub step : IsNodeStep old.state event state stepped
  pub full : IsOverfullWith (next_gate old) (record_under (stored_key event) state.table)

-- why no step was made; then nothing changes
abbrev pub RefusesActing : HostedParts → NodeEvent → HostedParts → HostFault → Type 0
RefusesActing old event new (Step fault) =
    MayStep old × (IsNoFrame event fault ⊎ IsRefused old.state event fault) × (new ≡ old)
RefusesActing old event new FileFull = MayStep old × Overfills old event × (new ≡ old)
RefusesActing old event new Stopped = (old.stopped ≡ true) × (new ≡ old)
RefusesActing old event new Pending =
    (old.stopped ≡ false) × (is_pending old ≡ true) × (new ≡ old)
RefusesActing old event new Memory = MayStep old × (new ≡ old)
RefusesActing old event new fault = ⊥

-- ---- a batch

-- nothing is to be handed out of a batch that begins
abbrev pub with_batch_open : HostedParts → HostedParts
with_batch_open n = record n { reply = None; outbox = []; sent = 0; in_batch = true }

-- a batch begins; 34 if the node is stopped, 37 if one is open, or if something is to be stored or
-- fetched
abbrev pub BeginsBatch : HostedParts → Result (Unit {0}) HostFault → HostedParts → Type 0
BeginsBatch old (Ok done) new =
    MayStep old × (old.in_batch ≡ false) × (new ≡ with_batch_open old)
BeginsBatch old (Err Stopped) new = (old.stopped ≡ true) × (new ≡ old)
BeginsBatch old (Err Pending) new =
    (old.stopped ≡ false) × ((old.in_batch || is_pending old) ≡ true) × (new ≡ old)
BeginsBatch old (Err fault) new = ⊥

-- it ends, and all that it gave is to be handed out; 34 if the node is stopped, 38 if none is open
abbrev pub EndsBatch : HostedParts → Result (Unit {0}) HostFault → HostedParts → Type 0
EndsBatch old (Ok done) new =
    (old.stopped ≡ false) × (old.in_batch ≡ true) × (new ≡ record old { in_batch = false })
EndsBatch old (Err Stopped) new = (old.stopped ≡ true) × (new ≡ old)
EndsBatch old (Err Nothing) new =
    (old.stopped ≡ false) × (old.in_batch ≡ false) × (new ≡ old)
EndsBatch old (Err fault) new = ⊥

-- ---- what is handed out

-- nothing is: the node is stopped, or a batch is open
abbrev pub is_shut : HostedParts → Bool
is_shut n = n.stopped || n.in_batch

-- nothing but records is: that, or there is one to store
abbrev pub is_held_back : HostedParts → Bool
is_held_back n = is_shut n || is_some (spelled n.to_store)

-- the bytes of the records that are to be stored, all at once
abbrev pub handed_record : HostedParts → Option (List ℕ)
handed_record n = if is_shut n then None else spelled n.to_store

-- the reply, once there is nothing to store
abbrev pub handed_reply : HostedParts → Option Reply
handed_reply n = if is_held_back n then None else n.reply

-- the next frame, likewise
abbrev pub next_frame : HostedParts → Option (List ℕ)
next_frame n = if is_held_back n then None else slice_get n.outbox n.sent

-- one more frame was sent, if there is a next one
abbrev pub sent_by : Option (List ℕ) → HostedParts → HostedParts
sent_by None n = n
sent_by (Some frame) n = record n { sent = n.sent + 1 }

abbrev pub after_sending : HostedParts → HostedParts
after_sending n = sent_by (next_frame n) n

-- The host reports that he stored the records: their bytes after the first stand after the gate,
-- which moves to their end. Or he reports that he failed to, which stops the node.
abbrev pub after_storing : Bool → HostedParts → HostedParts
after_storing true n = record n { gate = next_gate n; to_store = [] }
after_storing false n = record n { stopped = true }

-- he reported that he stored the records that are handed out, or that he failed to; 34 if the node
-- is stopped, 38 if none is handed out
abbrev pub Stores : Bool → HostedParts → Result (Unit {0}) HostFault → HostedParts → Type 0
Stores is_stored old (Ok done) new =
    (old.stopped ≡ false) × (handed_record old ≢ None) × (new ≡ after_storing is_stored old)
Stores is_stored old (Err Stopped) new = (old.stopped ≡ true) × (new ≡ old)
Stores is_stored old (Err Nothing) new =
    (old.stopped ≡ false) × (handed_record old ≡ None) × (new ≡ old)
Stores is_stored old (Err fault) new = ⊥

-- ---- contexts

abbrev pub kept_at : Option (Option Reading) → Option Reading
kept_at None = None
kept_at (Some context) = context

-- the context of a number; contexts are numbered from 1
abbrev pub context_at : ℕ → HostedParts → Option Reading
context_at zero n = None
context_at (suc place) n = kept_at (slice_get n.contexts place)

-- all of the node except its contexts stays
abbrev pub KeepsAllButContexts : HostedParts → HostedParts → Type 0
KeepsAllButContexts old new = new ≡ record old { contexts = new.contexts }

-- the reply of a read
abbrev pub IsLooked : Option Reply → Type 0
IsLooked (Some (Looked values context)) = Unit {0}
IsLooked reply = ⊥

-- the reply's context stands under the number, and each other one under its own
pub record KeepsContext (old new : HostedParts) (number : ℕ) : Type 0 where
  pub values : List ValueParts
  pub context : Reading
  pub reply : handed_reply old ≡ Some (Looked values context)
  pub free : context_at number old ≡ None
  pub kept : context_at number new ≡ Some context
  pub others : (k : ℕ) → k ≢ number → context_at k new ≡ context_at k old
  pub rest : KeepsAllButContexts old new

-- there is no context of the number
pub record ForgetsContext (number : ℕ) (old new : HostedParts) : Type 0 where
  pub gone : context_at number new ≡ None
  pub others : (k : ℕ) → k ≢ number → context_at k new ≡ context_at k old
  pub rest : KeepsAllButContexts old new

-- ---- how it begins

-- a node in this state with nothing to hand out but these records
abbrev pub beginning : NodeParts → Option ℕ → List Record → HostedParts
beginning state gate to_store = record {
  state = state;
  gate = gate;
  to_store = to_store;
  reply = None;
  outbox = [];
  sent = 0;
  contexts = [];
  stopped = false;
  in_batch = false;
}

-- a node that is served from the bytes of a file: it begins the life after the last in the file,
-- with the table of the file, and the record of the life is to be stored where the closed gate
-- stands
pub record Serves (asked : Option ℕ) (bytes : List ℕ) (n : HostedParts) : Type 0 where
  pub gate : ℕ
  pub none : refusal_of_serve asked bytes ≡ None
  pub opens : opened None bytes ≡ Ok (file_state bytes, gate)
  pub can_take : CanTake (file_state bytes) (Life ((file_state bytes).contents.life + 1))
  pub begins : n ≡ beginning
      (opening (file_state bytes).node ((file_state bytes).contents.life + 1)
      (file_state bytes).contents.table)
      (Some gate) (Life ((file_state bytes).contents.life + 1) ∷ [])
