-- A step of a node that writes, or takes a GOSSIP that is fresh: what it then holds, and to whom it sends that.
use Rattle.std.proofs.Common.{◌≡◌, ℕ, Bool, true, false, cond, nat_eq, List, [], ◌∷◌, ◌++◌, map, All, Option, Some, refl, sym, ap, subst, ◌∙◌}
use Rattle.std.proofs.lemmas.Bool.{eqb-true}
use Rattle.meta_types.specs.Name.{Key}
use Rattle.meta_types.specs.Value.{ValueParts}
use Rattle.dvvset.specs.Object.{Entry}
use Rattle.meta_frame.specs.declared.message.Message.TheVariants.{Gossip}
use Rattle.meta_frame.specs.Frame.{Spells, spelling}
use Rattle.meta_frame.proofs.Frames.{one_frame}
use Rattle.meta_store.specs.Context.{Reading}
use Rattle.meta_store.specs.Step.{merge_of, object_after_put}
use Rattle.meta_store.specs.Table.{Table, object_at, with_object}
use Rattle.peer_lists.specs.Lists.{has, put_last, without_all}
use Rattle.plumtree.specs.Broadcast.{Broadcasts, TakesFresh, gossip_call}
use Rattle.plumtree.specs.Draft.{gained}
use Rattle.plumtree.specs.Rows.{next_round, on_broadcast, on_change, on_fresh}
use Rattle.plumtree.specs.declared.entry.CastOut.TheVariants as OfCast
use Rattle.node_events.specs.declared.event.NodeEvent.TheVariants.{PutOver, Take, Write}
use Rattle.node_events.specs.declared.fault.StepFault.{StepFault}
use Rattle.node_events.specs.declared.reply.Reply.{Reply}
use Rattle.node_overlay.specs.Outbox.{HasSpelling, frames_from}
use Rattle.node_overlay.specs.Overlay.{envelope}
use Rattle.node_overlay.specs.declared.envelope.Envelope.{Envelope}
use Rattle.node_core.specs.declared.state.Stepped.{Stepped}
use Rattle.node_core.specs.Node.{NodeParts, present, vector_under, writer}
use Rattle.node_core.specs.Draft.{NodeDraft, call_broadcast, change, envelope_of}
use Rattle.node_core.specs.Rows.{Input, IsInput, Local, Received, is_fresh, row_of_message, write}
use Rattle.node_core.specs.Step.{IsNodeStep, IsStepOf, IsStepTo, begun}
use Rattle.agreement.proofs.Stepping.{addressed}

-- ---- what is sent to peers

-- the object goes to each of the peers
abbrev pub gossips : ℕ → Key → List Entry → List ℕ → List Envelope
gossips round key object peers = map (λ to. envelope to (Gossip round key object)) peers

-- a step left this object under the key and all else as before, and sent it to these peers; the eager
-- peers stay
pub record Spreads (old new : NodeParts) (s : Stepped) (key : Key) (object : List Entry) (round : ℕ) (peers : List ℕ) : Type 0 where
  pub node : new.node ≡ old.node
  pub table : new.table ≡ with_object key object old.table
  pub eager : new.overlay.cast.eager ≡ old.overlay.cast.eager
  pub sent : s.outbox ≡ map spelling (frames_from old.node old.frames (gossips round key (object_at (with_object key object old.table) key) peers))
  pub lawful : All HasSpelling (frames_from old.node old.frames (gossips round key (object_at (with_object key object old.table) key) peers))

-- the same of a node in the midst of a step
record DraftsGossip (s : NodeParts) (key : Key) (object : List Entry) (round : ℕ) (peers : List ℕ) (t : NodeDraft) : Type 0 where
  node : t.parts.node ≡ s.node
  table : t.parts.table ≡ with_object key object s.table
  eager : t.parts.overlay.cast.eager ≡ s.overlay.cast.eager
  sent : t.sent ≡ gossips round key (object_at (with_object key object s.table) key) peers

-- what the broadcast gives out for each peer, as an envelope
each_envelope : (table : Table) (round : ℕ) (key : Key) (peers : List ℕ)
    → map (envelope_of table) (map (λ to. OfCast.Gossip to round key) peers) ≡ gossips round key (object_at table key) peers
each_envelope table round key [] = refl
each_envelope table round key (to ∷ peers) = ap (λ es. envelope to (Gossip round key (object_at table key)) ∷ es) (each_envelope table round key peers)

-- ---- the rows

-- a write goes to each eager peer
row_of_write : (s : NodeParts) (key : Key) (object : List Entry) → DraftsGossip s key object 0 s.overlay.cast.eager
    (call_broadcast (Broadcasts key (vector_under key (change key object (begun s)).parts)) (change key object (begun s)))
unfolding on_change on_broadcast
row_of_write s key object = record {
  node = refl;
  table = refl;
  eager = refl;
  sent = each_envelope (with_object key object s.table) 0 key s.overlay.cast.eager;
}

-- an eager peer that becomes eager stays where it is
eager_stays : (from : ℕ) (lazy eager : List ℕ) → has eager from ≡ true → gained from lazy eager ≡ eager
eager_stays from lazy eager is =
    let there : put_last from eager ≡ eager = ap (λ b. cond b eager (eager ++ from ∷ [])) is in
    elim (has lazy from) as (λ b. cond b (put_last from eager) eager ≡ eager) [ true ↦ there | false ↦ refl ]

-- what came fresh is merged, and goes to each eager peer but its sender
row_of_fresh : (s : NodeParts) (from round : ℕ) (key : Key) (object : List Entry) → has s.overlay.cast.eager from ≡ true
    → DraftsGossip s key object (next_round round) (without_all (from ∷ []) s.overlay.cast.eager)
    (call_broadcast (TakesFresh from round key (vector_under key (change key object (begun s)).parts)) (change key object (begun s)))
unfolding on_change on_fresh
row_of_fresh s from round key object is = record {
  node = refl;
  table = refl;
  eager = eager_stays from s.overlay.cast.lazy s.overlay.cast.eager is;
  sent = each_envelope (with_object key object s.table) (next_round round) key (without_all (from ∷ []) s.overlay.cast.eager);
}

row_if_fresh : (s : NodeParts) (from word round : ℕ) (key : Key) (came : List Entry) → has s.overlay.cast.eager from ≡ true → is_fresh key came s ≡ true
    → DraftsGossip s key (merge_of s.table key came) (next_round round) (without_all (from ∷ []) s.overlay.cast.eager) (row_of_message from word (Gossip round key came) (begun s))
row_if_fresh s from word round key came is fresh =
    let merged : Bool → NodeDraft = λ b. cond b (change key (merge_of s.table key came) (begun s)) (begun s) in
    subst (λ b. DraftsGossip s key (merge_of s.table key came) (next_round round) (without_all (from ∷ []) s.overlay.cast.eager)
    (call_broadcast (gossip_call from round key (vector_under key (merged b).parts) b) (merged b)))
    (sym fresh) (row_of_fresh s from round key (merge_of s.table key came) is)

-- ---- steps

-- what the draft sends, the step sends
spreads_of : (old new : NodeParts) (refusal : Option StepFault) (t : NodeDraft) (reply : Reply) (s : Stepped) (key : Key) (object : List Entry) (round : ℕ) (peers : List ℕ)
    → DraftsGossip old key object round peers t → IsStepTo old refusal t reply new s → Spreads old new s key object round peers
spreads_of old new refusal t reply s key object round peers d step = record {
  node = ap (λ (p : NodeParts). p.node) step.node ∙ d.node;
  table = ap (λ (p : NodeParts). p.table) step.node ∙ d.table;
  eager = ap (λ (p : NodeParts). p.overlay.cast.eager) step.node ∙ d.eager;
  sent = step.sends ∙ ap (λ es. map spelling (frames_from old.node old.frames es)) d.sent;
  lawful = subst (λ es. All HasSpelling (frames_from old.node old.frames es)) d.sent step.frames;
}

-- a node wrote: it sent what it then holds to each eager peer
pub record Writes (old new : NodeParts) (s : Stepped) (key : Key) : Type 0 where
  pub object : List Entry
  pub spreads : Spreads old new s key object 0 old.overlay.cast.eager

writes_with : (old new : NodeParts) (s : Stepped) (key : Key) (value : ValueParts) (context : Option Reading) (refusal : Option StepFault) (reply : Reply)
    → IsStepTo old refusal (write key value context (begun old)) reply new s → Writes old new s key
writes_with old new s key value context refusal reply step =
    let object : List Entry = object_after_put old.table (writer old) key value context in
    record { object = object; spreads = spreads_of old new refusal (write key value context (begun old)) reply s key object 0 old.overlay.cast.eager (row_of_write old key object) step }

by_write : (old new : NodeParts) (key : Key) (value : ValueParts) (context : Option Reading) (s : Stepped) (input : Input)
    → IsInput (Write key value context) input → IsStepOf old input new s → Writes old new s key
by_write old new key value context s (Received frame word) is step = absurd is
by_write old new key value context s (Local own) is step =
    let made = subst (λ e. IsStepOf old (Local e) new s) is step in
    writes_with old new s key value context _ _ made

by_put : (old new : NodeParts) (key : Key) (value : ValueParts) (s : Stepped) (input : Input)
    → IsInput (PutOver key value) input → IsStepOf old input new s → Writes old new s key
by_put old new key value s (Received frame word) is step = absurd is
by_put old new key value s (Local own) is step =
    let made = subst (λ e. IsStepOf old (Local e) new s) is step in
    writes_with old new s key value (Some (present key old)) _ _ made

-- what an accepted write does
pub writes : (old new : NodeParts) (key : Key) (value : ValueParts) (context : Option Reading) (s : Stepped) → IsNodeStep old (Write key value context) new s → Writes old new s key
writes old new key value context s is = by_write old new key value context s is.input is.is_input is.step

pub puts : (old new : NodeParts) (key : Key) (value : ValueParts) (s : Stepped) → IsNodeStep old (PutOver key value) new s → Writes old new s key
puts old new key value s is = by_put old new key value s is.input is.is_input is.step

-- a node took a GOSSIP of an eager peer: what was fresh is merged, and goes to each other eager peer
pub record TakesGossip (old : NodeParts) (from to round : ℕ) (key : Key) (came : List Entry) (new : NodeParts) (s : Stepped) : Type 0 where
  pub to_it : to ≡ old.node
  pub spreads : has old.overlay.cast.eager from ≡ true → is_fresh key came old ≡ true
      → Spreads old new s key (merge_of old.table key came) (next_round round) (without_all (from ∷ []) old.overlay.cast.eager)

by_frame : (old new : NodeParts) (from to number word round : ℕ) (key : Key) (came : List Entry) (s : Stepped)
    → IsStepOf old (Received (record { from = from; to = to; number = number; message = Gossip round key came }) word) new s → TakesGossip old from to round key came new s
by_frame old new from to number word round key came s step =
    let here = addressed (nat_eq to old.node) _ step.accepted in
    record {
      to_it = eqb-true to old.node here.0;
      spreads = λ is fresh. spreads_of old new _ (row_of_message from word (Gossip round key came) (begun old)) _ s key (merge_of old.table key came) (next_round round)
          (without_all (from ∷ []) old.overlay.cast.eager) (row_if_fresh old from word round key came is fresh) step;
    }

by_input : (old new : NodeParts) (bytes : List ℕ) (word : ℕ) (s : Stepped) (from to number round : ℕ) (key : Key) (came : List Entry) (input : Input)
    → Spells (record { from = from; to = to; number = number; message = Gossip round key came }) bytes
    → IsInput (Take bytes word) input → IsStepOf old input new s → TakesGossip old from to round key came new s
by_input old new bytes word s from to number round key came (Local own) spelled is step = absurd is
by_input old new bytes word s from to number round key came (Received f w) spelled is step =
    by_frame old new from to number w round key came s
    (subst (λ f. IsStepOf old (Received f w) new s) (one_frame f (record { from = from; to = to; number = number; message = Gossip round key came }) bytes is.0 spelled) step)

-- what an accepted delivery of such a frame does
pub takes_gossip : (old new : NodeParts) (bytes : List ℕ) (word : ℕ) (s : Stepped) (from to number round : ℕ) (key : Key) (came : List Entry)
    → Spells (record { from = from; to = to; number = number; message = Gossip round key came }) bytes
    → IsNodeStep old (Take bytes word) new s → TakesGossip old from to round key came new s
takes_gossip old new bytes word s from to number round key came spelled is =
    by_input old new bytes word s from to number round key came is.input spelled is.is_input is.step
