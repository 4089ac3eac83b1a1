-- No event is ever refused with 21: what merges in a world shows a value.
use Rattle.std.proofs.Common.{◌≡◌, ◌≢◌, ◌⊎◌, inl, inr, ℕ, ◌<◌, Bool, true, false, not, cond, eqb, ltb, List, [], ◌∷◌, length, Option, Some, None, refl, sym, ap, subst, ◌∙◌}
use Rattle.std.specs.Option.{option_map, unwrap_or}
use Rattle.std.specs.Prelude.{nat_eq}
use Rattle.meta_types.specs.First.{first_that_applies}
use Rattle.meta_types.specs.Name.{Key}
use Rattle.meta_types.specs.Value.{ValueParts}
use Rattle.dvvset.specs.Object.{Entry}
use Rattle.dvvset.specs.Clock.{descends, join, sync, sync_entry, sync_from, values_of}
use Rattle.frame_fields.specs.Field.{has_value}
use Rattle.meta_frame.specs.Frame.{Spells}
use Rattle.meta_frame.specs.declared.message.Frame.{Frame}
use Rattle.meta_frame.specs.declared.message.Message.{Message}
use Rattle.meta_frame.specs.declared.message.Message.TheVariants.{Gossip, XObject}
use Rattle.meta_store.specs.Context.{Reading}
use Rattle.meta_store.specs.Table.{Table, is_small_enough, is_stale, most_merged, most_written, object_at}
use Rattle.meta_store.specs.Step.{is_full_for, is_of_another_key, is_spent, merge_of, refusal_of_merge, refusal_of_put, object_after_put}
use Rattle.meta_store.specs.declared.fault.StoreFault.{StoreFault}
use Rattle.meta_store.specs.declared.fault.StoreFault.TheVariants as OfStore
use Rattle.meta_store.proofs.Sizes.{has_value_from_values}
use Rattle.node_events.specs.Fault.{of_store, of_watch}
use Rattle.node_events.specs.declared.event.NodeEvent.{NodeEvent}
use Rattle.node_events.specs.declared.event.NodeEvent.TheVariants as OfNode
use Rattle.node_events.specs.declared.fault.StepFault.{StepFault}
use Rattle.node_events.specs.declared.fault.StepFault.TheVariants as OfStep
use Rattle.subscriptions.specs.Watches.{refusal_of_changes, refusal_of_watch}
use Rattle.subscriptions.specs.declared.fault.WatchFault.{WatchFault}
use Rattle.subscriptions.specs.declared.fault.WatchFault.TheVariants as OfWatch
use Rattle.node_core.specs.Leaving.{carried_object}
use Rattle.node_core.specs.Node.{NodeParts, present, writer}
use Rattle.node_core.specs.Rows.{Input, IsInput, Local, Received}
use Rattle.node_core.specs.Step.{IsNoFrame, IsRefused, refusal_of, refusal_of_event, refusal_of_message}
use Rattle.past_model.specs.Objects.{held_object, sent_object}
use Rattle.past_model.proofs.Deliveries.{merged_shows}
use Rattle.world_core.specs.declared.event.Event.{Event}
use Rattle.world_core.specs.declared.event.Event.TheVariants as events
use Rattle.world_core.specs.declared.fault.WorldFault.{WorldFault}
use Rattle.world_core.specs.declared.fault.WorldFault.TheVariants as OfWorld
use Rattle.world_core.specs.Events.{node_of_event}
use Rattle.world_core.specs.Fault.{of_step}
use Rattle.world_core.specs.Refusal.{IsFrameAsJunk, IsFrameOf, NamesNoFrame, RefusesDoing, RefusesEvent, RefusesStep, doing_in, node_at, table_at}
use Rattle.world_core.specs.Numbers.{numbered}
use Rattle.world_core.specs.World.{World}
use Rattle.world_core.specs.Invariant.{IsTold, IsWholeWorld, IsWorld}
use Rattle.world_core.proofs.Named.{not_both, same_object}
use Rattle.world_core.proofs.Outcomes.{world_of}
use Rattle.world_core.proofs.Refusing.{node_is_there, some_by}
use Rattle.world_core.proofs.Shown.{frame_told, stands}

-- 21
abbrev no_value : WorldFault
no_value = OfWorld.Step (OfStep.Store OfStore.BadEntries)

-- ---- what no store refuses

-- the refusal of a store, after its name in a node
of_the_store : (refusal : Option StoreFault) → option_map of_store refusal ≡ Some (OfStep.Store OfStore.BadEntries) → refusal ≡ Some OfStore.BadEntries
of_the_store None is = cc
of_the_store (Some OfStore.CounterSpent) is = cc
of_the_store (Some OfStore.BadEntries) is = refl
of_the_store (Some OfStore.StoreFull) is = cc
of_the_store (Some OfStore.WrongKey) is = cc
of_the_store (Some OfStore.ObjectTooLarge) is = cc
of_the_store (Some OfStore.Memory) is = cc

put_by : (wrong full spent large : Bool) → first_that_applies ((wrong, OfStore.WrongKey) ∷ (full, OfStore.StoreFull) ∷ (spent, OfStore.CounterSpent) ∷ (large, OfStore.ObjectTooLarge) ∷ []) ≢ Some OfStore.BadEntries
put_by true full spent large e = cc
put_by false true spent large e = cc
put_by false false true large e = cc
put_by false false false true e = cc
put_by false false false false e = cc

put_never : (table : Table) (n : ℕ) (k : Key) (v : ValueParts) (context : Option Reading) → option_map of_store (refusal_of_put table n k v context) ≡ Some (OfStep.Store OfStore.BadEntries) → ⊥
put_never table n k v context is =
    put_by (is_of_another_key k context) (is_full_for table k) (is_spent table n k context) (not (is_small_enough most_written (object_after_put table n k v context))) (of_the_store (refusal_of_put table n k v context) is)

merge_by : (stale shows full small : Bool) → cond stale None (first_that_applies ((not shows, OfStore.BadEntries) ∷ (full, OfStore.StoreFull) ∷ (not small, OfStore.ObjectTooLarge) ∷ [])) ≡ Some OfStore.BadEntries
    → (stale ≡ false) × (shows ≡ false)
merge_by true shows full small e = cc
merge_by false false full small e = (refl, refl)
merge_by false true true small e = cc
merge_by false true false false e = cc
merge_by false true false true e = cc

-- ---- a merge

some_entry : (below same : Bool) (x y z : Entry) (xs ys zs : List Entry) → cond below (x ∷ xs) (cond same (y ∷ ys) (z ∷ zs)) ≢ []
some_entry true same x y z xs ys zs e = cc
some_entry false true x y z xs ys zs e = cc
some_entry false false x y z xs ys zs e = cc

-- if nothing is left by a merge, nothing came
nothing_came : (xs ys : List Entry) → sync xs ys ≡ [] → ys ≡ []
nothing_came [] ys e = e
nothing_came (x ∷ xs) [] e = refl
nothing_came (x ∷ xs) (y ∷ ys) e = absurd (some_entry (ltb y.id x.id) (eqb x.id y.id) y (sync_entry x y) x (sync_from x (sync xs) ys) (sync xs ys) (sync xs (y ∷ ys)) e)

-- then what came is stale
then_stale : (mine came : List Entry) → sync mine came ≡ [] → descends (join mine) (join came) ≡ true
then_stale mine came e = ap (λ c. descends (join mine) (join c)) (nothing_came mine came e)

shows : (w : World) (is : IsWorld w) (n at : ℕ) (k : Key) → n < length w.nodes → is_stale (table_at w n) k (join (sent_object is.told.history at k)) ≡ false
    → has_value (merge_of (table_at w n) k (sent_object is.told.history at k)) ≡ true
shows w is n at k low fresh =
    let hs = is.told.history in
    let mine : object_at (table_at w n) k ≡ held_object hs n k = (stands w is n low).holds k in
    has_value_from_values (merge_of (table_at w n) k (sent_object hs at k))
    (λ no_cause.
    merged_shows hs is.state.is_history n at k
    (λ e.
    let stale : is_stale (table_at w n) k (join (sent_object hs at k)) ≡ true = then_stale (object_at (table_at w n) k) (sent_object hs at k) (ap (λ o. sync o (sent_object hs at k)) mine ∙ e) in
    let both : true ≡ false = sym stale ∙ fresh in
    cc)
    (ap (λ o. values_of (sync o (sent_object hs at k))) (sym mine) ∙ no_cause))

merge_never : (w : World) (is : IsWorld w) (n at : ℕ) (k : Key) (came : List Entry) → n < length w.nodes → came ≡ sent_object is.told.history at k
    → refusal_of_merge (table_at w n) k came ≡ Some OfStore.BadEntries → ⊥
merge_never w is n at k came low sent refused =
    let o : List Entry = sent_object is.told.history at k in
    let sent_refused : refusal_of_merge (table_at w n) k o ≡ Some OfStore.BadEntries = ap (refusal_of_merge (table_at w n) k) (sym sent) ∙ refused in
    let by : (is_stale (table_at w n) k (join o) ≡ false) × (has_value (merge_of (table_at w n) k o) ≡ false) =
    merge_by (is_stale (table_at w n) k (join o)) (has_value (merge_of (table_at w n) k o)) (is_full_for (table_at w n) k) (is_small_enough most_merged (merge_of (table_at w n) k o)) sent_refused in
    let both : true ≡ false = sym (shows w is n at k low by.0) ∙ by.1 in
    cc

-- ---- a frame that was sent

object_never : (w : World) (is : IsWorld w) (n : ℕ) (f : Frame) (k : Key) (came : List Entry) (entry : Option ℕ) → n < length w.nodes → IsTold is.told.history f entry
    → carried_object f.message ≡ Some (k, came) → refusal_of_merge (table_at w n) k came ≡ Some OfStore.BadEntries → ⊥
object_never w is n f k came None low told carries refused = not_both (carried_object f.message) (k, came) told carries
object_never w is n f k came (Some at) low told carries refused =
    let same : (told.key ≡ k) × (came ≡ sent_object is.told.history at told.key) = same_object (carried_object f.message) k told.key came (sent_object is.told.history at told.key) carries told.carries in
    merge_never w is n at k came low (same.1 ∙ ap (sent_object is.told.history at) same.0) refused

message_never : (w : World) (is : IsWorld w) (n number : ℕ) (f : Frame) (m : Message) → n < length w.nodes → IsFrameOf w number f → f.message ≡ m
    → refusal_of_message m (node_at w n).state ≡ Some (OfStep.Store OfStore.BadEntries) → ⊥
message_never w is n number f (Gossip round key object) low of carries refused =
    let told = frame_told w is number f of in
    object_never w is n f key object told.sending low told.told (ap carried_object carries) (of_the_store (refusal_of_merge (table_at w n) key object) refused)
message_never w is n number f (XObject key object) low of carries refused =
    let told = frame_told w is number f of in
    object_never w is n f key object told.sending low told.told (ap carried_object carries) (of_the_store (refusal_of_merge (table_at w n) key object) refused)
message_never w is n number f m low of carries refused = let no : None ≡ Some (OfStep.Store OfStore.BadEntries) = refused in cc

addressed_by : (b : Bool) (rest : Option StepFault) → cond b rest (Some OfStep.NotAddressed) ≡ Some (OfStep.Store OfStore.BadEntries) → rest ≡ Some (OfStep.Store OfStore.BadEntries)
addressed_by true rest e = e
addressed_by false rest e = cc

-- ---- what a node never refuses so

first_never : (b : Bool) (fault : StepFault) → fault ≢ OfStep.Store OfStore.BadEntries → first_that_applies ((b, fault) ∷ []) ≡ Some (OfStep.Store OfStore.BadEntries) → ⊥
first_never true fault other e = other (cc)
first_never false fault other e = cc

watch_never : (refusal : Option WatchFault) → option_map of_watch refusal ≡ Some (OfStep.Store OfStore.BadEntries) → ⊥
watch_never None e = cc
watch_never (Some OfWatch.BadWatch) e = cc
watch_never (Some OfWatch.NoSuchWatch) e = cc
watch_never (Some OfWatch.Memory) e = cc

local_never : (s : NodeParts) (event : NodeEvent) → refusal_of_event event s ≡ Some (OfStep.Store OfStore.BadEntries) → ⊥
local_never s (OfNode.Write k v context) e = put_never s.table (writer s) k v context e
local_never s (OfNode.PutOver k v) e = put_never s.table (writer s) k v (Some (present k s)) e
local_never s (OfNode.Join contact word) e = first_never (nat_eq contact s.node) OfStep.BadNode (λ is. cc) e
local_never s (OfNode.PeerDown peer word) e = first_never (nat_eq peer s.node) OfStep.BadNode (λ is. cc) e
local_never s (OfNode.Exchange peer) e = first_never (nat_eq peer s.node) OfStep.BadNode (λ is. cc) e
local_never s (OfNode.Hello peer) e = first_never (nat_eq peer s.node) OfStep.BadNode (λ is. cc) e
local_never s (OfNode.Watch prefix capacity) e = watch_never (refusal_of_watch capacity s.watches) e
local_never s (OfNode.Changes number) e = watch_never (refusal_of_changes number s.watches) e
local_never s event e = let no : None ≡ Some (OfStep.Store OfStore.BadEntries) = e in cc

-- the step refused it, by its name in the world
by_name : (by : StepFault) → no_value ≡ of_step by → by ≡ OfStep.Store OfStore.BadEntries
by_name OfStep.Memory e = cc
by_name OfStep.BadNode e = cc
by_name (OfStep.Frame fault) e = cc
by_name (OfStep.Store fault) e = cc
by_name OfStep.BadWatch e = cc
by_name OfStep.NoSuchWatch e = cc
by_name OfStep.NotAddressed e = cc

-- bytes that come are a frame that was sent, if they are one
abbrev AreSent : World → List ℕ → Type 0
AreSent w bytes = (f : Frame) → Spells f bytes → (number : ℕ) × IsFrameOf w number f

abbrev BringsSent : World → NodeEvent → Type 0
BringsSent w (OfNode.Take bytes word) = AreSent w bytes
BringsSent w event = Unit {0}

input_never : (w : World) (is : IsWorld w) (n : ℕ) → n < length w.nodes → (step : NodeEvent) → BringsSent w step → (input : Input) → IsInput step input
    → refusal_of input (node_at w n).state ≡ Some (OfStep.Store OfStore.BadEntries) → ⊥
input_never w is n low (OfNode.Take bytes word) sent (Received f i) of e =
    let there = sent f of.0 in
    message_never w is n there.0 f f.message low there.1 refl
    (addressed_by (nat_eq f.to (node_at w n).state.node) (refusal_of_message f.message (node_at w n).state) e)
input_never w is n low (OfNode.Take bytes word) sent (Local event) of e = of
input_never w is n low step sent (Local event) of e = local_never (node_at w n).state event e
input_never w is n low step sent (Received f i) of e = of

step_never : (w : World) (is : IsWorld w) (n : ℕ) → n < length w.nodes → (step : NodeEvent) → BringsSent w step → RefusesStep (node_at w n).state step no_value → ⊥
step_never w is n low step sent by = by_cause by.cause where
  name : by.by_step ≡ OfStep.Store OfStore.BadEntries
  name = by_name by.by_step by.is

  no_frame_so : (event : NodeEvent) → IsNoFrame event (OfStep.Store OfStore.BadEntries) → ⊥
  no_frame_so (OfNode.Take bytes word) none = none
  no_frame_so event none = none

  by_cause : IsNoFrame step by.by_step ⊎ IsRefused (node_at w n).state step by.by_step → ⊥
  by_cause (inl none) = no_frame_so step (subst (IsNoFrame step) name none)
  by_cause (inr refused) = input_never w is n low step sent refused.input refused.is_input (refused.first ∙ ap (λ f. Some f) name)

-- ---- each event

sent_by : (w : World) (number : ℕ) (bytes : List ℕ) → numbered w.frames number ≡ Some bytes → AreSent w (unwrap_or (numbered w.frames number) [])
sent_by w number bytes there f spelled =
    (number, record { bytes = bytes; there = there; spelled = subst (Spells f) (ap (λ o. unwrap_or o []) there) spelled })

-- bytes that come by hand are no frame
asked_brings : (w : World) (n : ℕ) (event : NodeEvent) → (IsFrameAsJunk (events.Step n event) → ⊥) → BringsSent w event
asked_brings w n (OfNode.Take bytes word) junk = λ f spelled. absurd (junk (record { frame = f; spelled = spelled }))
asked_brings w n event junk = tt

last_never : (w : World) (is : IsWorld w) (event : Event) → node_of_event event < length w.nodes → (NamesNoFrame w event → ⊥) → (IsFrameAsJunk event → ⊥)
    → RefusesDoing (node_at w (node_of_event event)).state (doing_in w event) no_value → ⊥
last_never w is (events.Step n event) low frame junk by = step_never w is n low event (asked_brings w n event junk) by
last_never w is (events.Put n k v read) low frame junk by = step_never w is n low _ tt by
last_never w is (events.Deliver number n word) low frame junk by =
    let there = some_by (numbered w.frames number) frame in
    step_never w is n low _ (sent_by w number there.0 there.1) by
last_never w is (events.Restart n image) low frame junk by = by

never : (w : World) (is : IsWorld w) (event : Event) → RefusesEvent w event no_value → ⊥
never w is event (inl here) = let no : no_value ≡ OfWorld.NoSuchNode = here.1 in cc
never w is event (inr (node, inl here)) = let no : no_value ≡ OfWorld.NoSuchFrame = here.1 in cc
never w is event (inr (node, inr (frame, inl here))) = let no : no_value ≡ OfWorld.NoSuchRead = here.1 in cc
never w is event (inr (node, inr (frame, inr (read, inl here)))) = let no : no_value ≡ OfWorld.NoSuchImage = here.1 in cc
never w is event (inr (node, inr (frame, inr (read, inr (image, inl here))))) = let no : no_value ≡ OfWorld.IncarnationSpent = here.1 in cc
never w is event (inr (node, inr (frame, inr (read, inr (image, inr (life, inl here)))))) = let no : no_value ≡ OfWorld.LooksLikeFrame = here.1 in cc
never w is event (inr (node, inr (frame, inr (read, inr (image, inr (life, inr (junk, by))))))) =
    last_never w is event (node_is_there w event node) frame junk by

pub never_of : (w : World) (event : Event) → IsWholeWorld w → RefusesEvent w event no_value → ⊥
never_of w event whole refused = never w (world_of w whole) event refused
