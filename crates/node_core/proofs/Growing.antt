-- A step changes one object or none, what is held only grows, and only a read hands out a context.
use Rattle.std.proofs.Common.{◌≡◌, ◌≢◌, ℕ, ◌+◌, ◌≤◌, Bool, true, false, cond, not, max, List, [], ◌∷◌, ◌++◌, slice_get, Option, None, Some, IfSome, refl, sym, ap, subst, ◌∙◌, arith, eqb, leb}
use Rattle.std.specs.Option.{unwrap_or}
use Rattle.std.specs.Ordering.{is_eq}
use Rattle.std.specs.declared.cmp.Ordering.{Ordering}
use Rattle.std.specs.declared.cmp.Ordering.TheVariants.{Less, Equal, Greater}
use Rattle.std.specs.FinMap.{find}
use Rattle.std.specs.FinMap.Entries.{find-put}
use Rattle.std.proofs.lemmas.Bool.{and_parts, eq-eqb, eqb-true, leb-true}
use Rattle.std.proofs.lemmas.List.Elements.{All-nil}
use Rattle.meta_types.specs.Name.{Key}
use Rattle.meta_types.specs.Order.{key_cmp}
use Rattle.meta_types.specs.Value.{ValueParts}
use Rattle.dvvset.specs.Object.{Counter, Entry, IsEntry, IsObject, IsVector}
use Rattle.dvvset.specs.Clock.{count_for, descends, join, sync, update, values_of}
use Rattle.dvvset.specs.Writer.{count_of, entry_of, shown, unread}
use Rattle.dvvset.proofs.Descending.{descends-Decides}
use Rattle.dvvset.proofs.Objects.{IsVector-join}
use Rattle.dvvset.proofs.Writers.{count_of-sync, written_writers}
use Rattle.frame_fields.proofs.Spellable.{spelled_object}
use Rattle.meta_frame.proofs.Frames.{one_frame}
use Rattle.meta_frame.specs.Frame.{IsMessage, Spells}
use Rattle.meta_frame.specs.declared.message.Frame.{Frame}
use Rattle.meta_frame.specs.declared.message.Message.{Message}
use Rattle.meta_frame.specs.declared.message.Message.TheVariants.{Gossip, XObject}
use Rattle.meta_store.specs.Context.{Reading, vector_read}
use Rattle.meta_store.specs.Step.{merge_of, object_after_put}
use Rattle.meta_store.specs.Table.{IsTable, Table, is_stale, object_at, with_object}
use Rattle.meta_store.proofs.Keys.{key_total, same_key}
use Rattle.meta_store.proofs.Tables.{found_row, object_at-here}
use Rattle.subscriptions.specs.Watching.{Watching}
use Rattle.node_events.specs.declared.event.NodeEvent.{NodeEvent}
use Rattle.node_events.specs.declared.event.NodeEvent.TheVariants.{Read, Write, PutOver, Take, Changes}
use Rattle.node_events.specs.declared.reply.Reply.{Reply}
use Rattle.node_events.specs.declared.reply.Reply.TheVariants.{Looked, Wrote, Took, TookFresh, TookStale}
use Rattle.subscriptions.specs.Watches.{at_number}
use Rattle.node_core.specs.declared.state.Stepped.{Stepped}
use Rattle.node_core.specs.Node.{NodeParts, present, vector_under, writer}
use Rattle.node_core.specs.Rows.{Input, IsInput, Local, Received, is_fresh}
use Rattle.node_core.specs.Step.{IsNodeStep, IsStepOf, reply_of, reply_of_changes, reply_of_message}
use Rattle.node_core.specs.Run.{IsRun}
use Rattle.node_core.specs.Leaving.{LeavesHeld, carried_object, with_carried}
use Rattle.node_core.specs.Growing.{ChangesUnder, Descends, HeldIsKept, KeepsKeys, OnlyReadsHandOut, StepGrows, TellsOf, TellsWrite, context_of_write, newest}
use Rattle.node_core.proofs.Leaves.{Leaves-row_of_message, each_step_leaves}
use Rattle.node_core.proofs.Outcomes.{one_input}

-- ---- objects are lawful

object_of : (found : Option (List Entry)) → ((o : List Entry) → found ≡ Some o → IsObject o) → IsObject (unwrap_or found [])
object_of None each = record { rising = tt; entries = All-nil IsEntry }
object_of (Some o) each = each o refl

held_lawful : (table : Table) (key : Key) → IsTable table → IsObject (object_at table key)
held_lawful table key is = object_of (find key_cmp key table) (λ o e. (found_row key table o is.held is.keys e).held.lawful)

came_lawful : (m : Message) → IsMessage m → IfSome (carried_object m) (λ came. IsObject came.1)
came_lawful (Gossip round key object) fits = (spelled_object object fits.1.1).object
came_lawful (XObject key object) fits = (spelled_object object fits.1).object
came_lawful _ fits = tt

-- ---- counts rise

same_count : (n : ℕ) → n ≤ n
same_count n = omega arith

written_counts : (read : List Counter) (o : List Entry) (w : ℕ) (v : ValueParts) → IsVector read → IsObject o
    → (u : ℕ) → count_of o u ≤ count_of (update read o w v) u
written_counts read o w v is lawful u =
    let counts : count_of (update read o w v) u ≡ max (count_for read u) (count_of o u) + cond (eqb u w) 1 0 =
    (written_writers read o w v is lawful).counts u in
    omega (arith, counts)

merged_counts : (a b : List Entry) → IsObject a → IsObject b → (u : ℕ) → count_of a u ≤ count_of (sync a b) u
merged_counts a b left right u = omega (arith, count_of-sync a b left right u)

-- under each key the later object knows all that the earlier one knew
abbrev Rises : Table → Table → Type 0
Rises old new = (k : Key) (u : ℕ) → count_of (object_at old k) u ≤ count_of (object_at new k) u

put_at : (table : Table) (key k : Key) (o : List Entry) (c : Ordering) → key_cmp k key ≡ c
    → ((u : ℕ) → count_of (object_at table key) u ≤ count_of o u)
    → (u : ℕ) → count_of (object_at table k) u ≤ count_of (unwrap_or (cond (is_eq c) (Some o) (find key_cmp k table)) []) u
put_at table key k o Equal e more u = subst (λ l. count_of (object_at table l) u ≤ count_of o u) (sym (same_key k key e)) (more u)
put_at table key k o Less e more u = same_count (count_of (object_at table k) u)
put_at table key k o Greater e more u = same_count (count_of (object_at table k) u)

put_rises : (table : Table) (key : Key) (o : List Entry) → ((u : ℕ) → count_of (object_at table key) u ≤ count_of o u)
    → Rises table (with_object key o table)
put_rises table key o more k u =
    subst (λ found. count_of (object_at table k) u ≤ count_of (unwrap_or found []) u) (sym (find-put key_cmp key_total k key o table))
    (put_at table key k o (key_cmp k key) refl more u)

same_rises : (table : Table) → Rises table table
same_rises table k u = same_count (count_of (object_at table k) u)

merge_rises : (table : Table) (key : Key) (came : List Entry) (stale : Bool) → IsTable table → IsObject came
    → Rises table (cond stale table (with_object key (merge_of table key came) table))
merge_rises table key came true is lawful = same_rises table
merge_rises table key came false is lawful =
    put_rises table key (merge_of table key came) (merged_counts (object_at table key) came (held_lawful table key is) lawful)

carried_rises : (table : Table) (came : Option (Key × List Entry)) → IsTable table → IfSome came (λ c. IsObject c.1)
    → Rises table (with_carried came table)
carried_rises table None is lawful = same_rises table
carried_rises table (Some came) is lawful = merge_rises table came.0 came.1 (is_stale table came.0 (join came.1)) is lawful

-- what a write has read is a vector
abbrev pub ReadsVector : NodeEvent → Type 0
ReadsVector event = IfSome (context_of_write event) (λ context. IsVector context.vector)

read_lawful : (key : Key) (value : ValueParts) (context : Option Reading) → ReadsVector (Write key value context)
    → IsVector (vector_read context)
read_lawful key value None is = IsVector-join [] (record { rising = tt; entries = All-nil IsEntry })
read_lawful key value (Some context) is = is

put_over_lawful : (old : NodeParts) (key : Key) → IsTable old.table → IsVector (vector_read (Some (present key old)))
put_over_lawful old key is = IsVector-join (object_at old.table key) (held_lawful old.table key is)

write_rises : (old : NodeParts) (key : Key) (value : ValueParts) (context : Option Reading) → IsTable old.table
    → IsVector (vector_read context) → Rises old.table (with_object key (object_after_put old.table (writer old) key value context) old.table)
write_rises old key value context is read =
    put_rises old.table key (object_after_put old.table (writer old) key value context)
    (written_counts (vector_read context) (object_at old.table key) (writer old) value read (held_lawful old.table key is))

held_rises : (old : NodeParts) (event : NodeEvent) (new : Table) → IsTable old.table → ReadsVector event → LeavesHeld old event new
    → Rises old.table new
held_rises old (Write key value context) new is read held =
    subst (λ t. Rises old.table t) (sym held) (write_rises old key value context is (read_lawful key value context read))
held_rises old (PutOver key value) new is read held =
    subst (λ t. Rises old.table t) (sym held) (write_rises old key value (Some (present key old)) is (put_over_lawful old key is))
held_rises old (Take bytes word) new is read held =
    subst (λ t. Rises old.table t) (sym held.merged)
    (carried_rises old.table (carried_object held.frame.message) is (came_lawful held.frame.message held.spelled.lawful.message))
held_rises old event new is read held = subst (λ t. Rises old.table t) (sym held) (same_rises old.table)

descending : (old new : Table) → IsTable old → Rises old new → Descends old new
descending old new is more k =
    (descends-Decides (join (object_at new k)) (join (object_at old k)) (IsVector-join (object_at old k) (held_lawful old k is))).1 (more k)

-- a table descends itself
pub descends_itself : (table : Table) → IsTable table → Descends table table
descends_itself table is = descending table table is (same_rises table)

from_descends : (v w : List Counter) → descends v w ≡ true → (u : ℕ) → count_for w u ≤ count_for v u
from_descends v [] e u = omega arith
from_descends v (c ∷ cs) e u =
    let parts = and_parts (leb c.count (count_for v c.id)) (descends v cs) e in
    elim (eqb c.id u) as (λ b. eqb c.id u ≡ b → cond b c.count (count_for cs u) ≤ count_for v u) [
      | true ↦ λ q. subst (λ n. c.count ≤ count_for v n) (eqb-true c.id u q) (leb-true c.count (count_for v c.id) parts.0)
      | false ↦ λ q. from_descends v cs parts.1 u
    ] refl

counts_between : (a b c : ℕ) → a ≤ b → b ≤ c → a ≤ c
counts_between a b c one two = omega (arith, one, two)

onwards : (first second third : Table) → IsTable first → Descends first second → Descends second third → Descends first third
onwards first second third is one two k =
    let lawful : IsVector (join (object_at first k)) = IsVector-join (object_at first k) (held_lawful first k is) in
    let v1 = join (object_at first k) in
    let v2 = join (object_at second k) in
    let v3 = join (object_at third k) in
    (descends-Decides v3 v1 lawful).1 (λ u. counts_between (count_for v1 u) (count_for v2 u) (count_for v3 u) (from_descends v2 v1 (one k) u) (from_descends v3 v2 (two k) u))

-- ---- keys stay

put_keeps : (table : Table) (key k : Key) (o : List Entry) (b : Bool) → find key_cmp k table ≢ None
    → cond b (Some o) (find key_cmp k table) ≢ None
put_keeps table key k o true some = λ no. let none : Some o ≡ None = no in absurd (cc)
put_keeps table key k o false some = some

with_object_keeps : (table : Table) (key : Key) (o : List Entry) → KeepsKeys table (with_object key o table)
with_object_keeps table key o k some =
    subst (λ found. found ≢ None) (sym (find-put key_cmp key_total k key o table)) (put_keeps table key k o (is_eq (key_cmp k key)) some)

merge_keeps : (table : Table) (key : Key) (o : List Entry) (stale : Bool) → KeepsKeys table (cond stale table (with_object key o table))
merge_keeps table key o true k some = some
merge_keeps table key o false k some = with_object_keeps table key o k some

carried_keeps : (table : Table) (came : Option (Key × List Entry)) → KeepsKeys table (with_carried came table)
carried_keeps table None k some = some
carried_keeps table (Some came) k some =
    merge_keeps table came.0 (merge_of table came.0 came.1) (is_stale table came.0 (join came.1)) k some

held_keeps : (old : NodeParts) (event : NodeEvent) (new : Table) → LeavesHeld old event new → KeepsKeys old.table new
held_keeps old (Write key value context) new held k some =
    subst (λ t. find key_cmp k t ≢ None) (sym held)
    (with_object_keeps old.table key (object_after_put old.table (writer old) key value context) k some)
held_keeps old (PutOver key value) new held k some =
    subst (λ t. find key_cmp k t ≢ None) (sym held)
    (with_object_keeps old.table key (object_after_put old.table (writer old) key value (Some (present key old))) k some)
held_keeps old (Take bytes word) new held k some =
    subst (λ t. find key_cmp k t ≢ None) (sym held.merged) (carried_keeps old.table (carried_object held.frame.message) k some)
held_keeps old event new held k some = subst (λ t. find key_cmp k t ≢ None) (sym held) some

step_keeps : (old : NodeParts) (event : NodeEvent) (new : NodeParts) (s : Stepped) → IsNodeStep old event new s
    → KeepsKeys old.table new.table
step_keeps old event new s is = held_keeps old event new.table (each_step_leaves old event new s is).held

run_keeps : (steps : List (NodeEvent × Stepped)) (old new : NodeParts) → IsRun old steps new → KeepsKeys old.table new.table
run_keeps [] old new run k some = subst (λ (p : NodeParts). find key_cmp k p.table ≢ None) (sym run) some
run_keeps (e ∷ es) old new run k some = run_keeps es run.0 new run.1.1 k (step_keeps old e.0 run.0 e.1 run.1.0 k some)

pub held_is_kept : HeldIsKept
held_is_kept = record {
  steps = λ old event new s is. step_keeps old event new s is;
  runs = λ steps old new run. run_keeps steps old new run;
  onwards = λ first second third is one two. onwards first second third is one two;
}

-- ---- what changed

changed_there : (old new : Table) (key : Key) (o : List Entry) → new ≡ with_object key o old
    → new ≡ with_object key (object_at new key) old
changed_there old new key o held =
    held ∙ ap (λ x. with_object key x old) (sym (ap (λ t. object_at t key) held ∙ object_at-here key o old))

carried_one : (key k : Key) (o came : List Entry) → ◌≡◌ {A = Option (Key × List Entry)} (Some (key, o)) (Some (k, came)) → key ≡ k
carried_one key k o came e = ap (λ (found : Option (Key × List Entry)). (unwrap_or found (k, came)).0) e

merged_where : (old : NodeParts) (new : Table) (bytes : List ℕ) (word : ℕ) (frame : Frame) → Spells frame bytes
    → (key : Key) (came : List Entry) → carried_object frame.message ≡ Some (key, came) → (stale : Bool)
    → new ≡ cond stale old.table (with_object key (merge_of old.table key came) old.table)
    → ChangesUnder (Take bytes word) (cond (not stale) TookFresh TookStale) old.table new
merged_where old new bytes word frame spelled key came carried true held =
    record { there = λ k no. absurd no; nowhere = λ none. held }
merged_where old new bytes word frame spelled key came carried false held =
    let here = changed_there old.table new key (merge_of old.table key came) held in
    record {
      there = λ k is.
          let one : is.frame ≡ frame = one_frame is.frame frame bytes is.spelled spelled in
          let same : ◌≡◌ {A = Option (Key × List Entry)} (Some (key, came)) (Some (k, is.object)) = sym carried ∙ ap (λ (f : Frame). carried_object f.message) (sym one) ∙ is.carried in
          subst (λ l. new ≡ with_object l (object_at new l) old.table) (carried_one key k came is.object same) here;
      nowhere = λ none. absurd (none key (record { frame = frame; spelled = spelled; object = came; carried = carried }));
    }

message_changes : (old : NodeParts) (new : Table) (bytes : List ℕ) (word : ℕ) (frame : Frame) → Spells frame bytes
    → (m : Message) → frame.message ≡ m → new ≡ with_carried (carried_object m) old.table
    → ChangesUnder (Take bytes word) (reply_of_message m old) old.table new
message_changes old new bytes word frame spelled (Gossip round key came) is held =
    merged_where old new bytes word frame spelled key came (ap carried_object is) (is_stale old.table key (join came)) held
message_changes old new bytes word frame spelled (XObject key came) is held =
    merged_where old new bytes word frame spelled key came (ap carried_object is) (is_stale old.table key (join came)) held
message_changes old new bytes word frame spelled _ is held =
    record { there = λ k no. absurd no; nowhere = λ none. held }

taken_changes : (old new : NodeParts) (bytes : List ℕ) (word : ℕ) (s : Stepped) (input : Input)
    → IsInput (Take bytes word) input → IsStepOf old input new s → ChangesUnder (Take bytes word) s.reply old.table new.table
taken_changes old new bytes word s (Local own) is step = absurd is
taken_changes old new bytes word s (Received frame w) is step =
    let held : new.table ≡ with_carried (carried_object frame.message) old.table =
    ap (λ (p : NodeParts). p.table) step.node ∙ (Leaves-row_of_message old frame.from w frame.message).held in
    subst (λ r. ChangesUnder (Take bytes word) r old.table new.table) (sym step.replies)
    (message_changes old new.table bytes word frame is.0 frame.message refl held)

changes_by : (old new : NodeParts) (event : NodeEvent) (s : Stepped) → IsNodeStep old event new s → LeavesHeld old event new.table
    → ChangesUnder event s.reply old.table new.table
changes_by old new (Write key value context) s is held =
    let here = changed_there old.table new.table key (object_after_put old.table (writer old) key value context) held in
    record {
      there = λ k same. subst (λ l. new.table ≡ with_object l (object_at new.table l) old.table) (sym same) here;
      nowhere = λ none. absurd (none key refl);
    }
changes_by old new (PutOver key value) s is held =
    let here = changed_there old.table new.table key (object_after_put old.table (writer old) key value (Some (present key old))) held in
    record {
      there = λ k same. subst (λ l. new.table ≡ with_object l (object_at new.table l) old.table) (sym same) here;
      nowhere = λ none. absurd (none key refl);
    }
changes_by old new (Take bytes word) s is held = taken_changes old new bytes word s is.input is.is_input is.step
changes_by old new event s is held = record { there = λ k no. absurd no; nowhere = λ none. held }

-- ---- what a reply to a write tells

newest_written : (read : List Counter) (o : List Entry) (w : ℕ) (v : ValueParts) → IsVector read → IsObject o
    → newest w (update read o w v) ≡ Some v
newest_written read o w v is lawful =
    let old = unread (count_for read w) (entry_of o w) in
    let values : shown (entry_of (update read o w v) w) ≡ cond (eqb w w) (v ∷ []) [] ++ old = (written_writers read o w v is lawful).values w in
    ap (λ vs. slice_get vs 0) (values ∙ ap (λ b. cond b (v ∷ []) [] ++ old) (eq-eqb w w refl))

tells_write : (old new : NodeParts) (key : Key) (value : ValueParts) (context : Option Reading) (reply : Reply)
    → IsTable old.table → IsVector (vector_read context)
    → new.table ≡ with_object key (object_after_put old.table (writer old) key value context) old.table
    → reply ≡ Wrote (vector_under key new) → TellsWrite (writer old) key value reply new.table
tells_write old new key value context reply is read held replies =
    let there : object_at new.table key ≡ object_after_put old.table (writer old) key value context =
    ap (λ t. object_at t key) held ∙ object_at-here key (object_after_put old.table (writer old) key value context) old.table in
    record {
      vector = replies;
      newest =
          ap (newest (writer old)) there
          ∙ newest_written (vector_read context) (object_at old.table key) (writer old) value read (held_lawful old.table key is);
    }

tells_by : (old new : NodeParts) (event : NodeEvent) (s : Stepped) → IsTable old.table → ReadsVector event → IsNodeStep old event new s
    → LeavesHeld old event new.table → TellsOf (writer old) event s.reply new.table
tells_by old new (Write key value context) s is read step held =
    let same = one_input (Write key value context) step.input (Local (Write key value context)) step.is_input refl in
    let at : IsStepOf old (Local (Write key value context)) new s = subst (λ i. IsStepOf old i new s) same step.step in
    tells_write old new key value context s.reply is (read_lawful key value context read) held
    (at.replies ∙ ap (λ (p : NodeParts). Wrote (vector_under key p)) (sym at.node))
tells_by old new (PutOver key value) s is read step held =
    let same = one_input (PutOver key value) step.input (Local (PutOver key value)) step.is_input refl in
    let at : IsStepOf old (Local (PutOver key value)) new s = subst (λ i. IsStepOf old i new s) same step.step in
    tells_write old new key value (Some (present key old)) s.reply is (put_over_lawful old key is) held
    (at.replies ∙ ap (λ (p : NodeParts). Wrote (vector_under key p)) (sym at.node))
tells_by old new event s is read step held = tt

pub step_grows : (event : NodeEvent) → ReadsVector event → (old new : NodeParts) (s : Stepped) → IsTable old.table
    → IsNodeStep old event new s → StepGrows old event new s
step_grows event read old new s is step =
    let held = (each_step_leaves old event new s step).held in
    record {
      changes = changes_by old new event s step held;
      tells = tells_by old new event s is read step held;
      descends = descending old.table new.table is (held_rises old event new.table is read held);
    }

-- ---- which reply has a context

none_from_object : (b : Bool) (values : List ValueParts) (context : Reading) → cond b TookFresh TookStale ≡ Looked values context → ⊥
none_from_object true values context e = cc
none_from_object false values context e = cc

none_from_message : (old : NodeParts) (m : Message) (values : List ValueParts) (context : Reading)
    → reply_of_message m old ≡ Looked values context → ⊥
none_from_message old (Gossip round key came) values context e = none_from_object (is_fresh key came old) values context e
none_from_message old (XObject key came) values context e = none_from_object (is_fresh key came old) values context e
none_from_message old _ values context e = let no : Took ≡ Looked values context = e in cc

none_from_watch : (found : Option Watching) (values : List ValueParts) (context : Reading)
    → reply_of_changes found ≡ Looked values context → ⊥
none_from_watch None values context e = cc
none_from_watch (Some watch) values context e = cc

handed_out : (old : NodeParts) (own : NodeEvent) (values : List ValueParts) (context : Reading)
    → reply_of (Local own) old ≡ Looked values context → (key : Key) × ((own ≡ Read key) × (context ≡ present key old))
handed_out old (Read key) values context e =
    let looked : Looked (values_of (object_at old.table key)) (present key old) ≡ Looked values context = e in
    let same : present key old ≡ context = cc in
    (key, (refl, sym same))
handed_out old (Changes number) values context e = absurd (none_from_watch (at_number old.watches number) values context e)
handed_out old _ values context e = absurd (cc)

handed_by : (old : NodeParts) (event : NodeEvent) (input : Input) (values : List ValueParts) (context : Reading) → IsInput event input
    → reply_of input old ≡ Looked values context → (key : Key) × ((event ≡ Read key) × (context ≡ present key old))
handed_by old (Take bytes word) (Received frame w) values context is e = absurd (none_from_message old frame.message values context e)
handed_by old (Take bytes word) (Local own) values context is e = absurd is
handed_by old event (Local own) values context is e =
    let handed = handed_out old own values context e in
    (handed.0, (sym is ∙ handed.1.0, handed.1.1))
handed_by old event (Received frame w) values context is e = absurd is

pub only_reads : OnlyReadsHandOut
only_reads old event new s values context is e =
    handed_by old event is.input values context is.is_input (sym is.step.replies ∙ e)
