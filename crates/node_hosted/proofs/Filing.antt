-- The file of a host stays that of his node.
use Rattle.std.proofs.Common.{◌≡◌, ◌≢◌, ℕ, ◌+◌, Bool, true, false, List, [], ◌∷◌, ◌++◌, Option, Some, None, Ok, if◌then◌else◌, refl, sym, ap, subst, ◌∙◌}
use Rattle.std.specs.FinMap.{find}
use Rattle.meta_types.specs.Name.{Key}
use Rattle.meta_types.specs.Order.{key_cmp}
use Rattle.dvvset.specs.Object.{Entry}
use Rattle.meta_store.specs.Step.{object_after_put}
use Rattle.meta_store.specs.Table.{IsTable, Table, with_object}
use Rattle.node_events.specs.Event.{stored_key}
use Rattle.node_events.specs.declared.event.NodeEvent.{NodeEvent}
use Rattle.node_events.specs.declared.event.NodeEvent.TheVariants.{PutOver, Write}
use Rattle.node_core.specs.Growing.{EachStepGrows}
use Rattle.node_core.specs.Handling.{key_of_write}
use Rattle.node_core.specs.Node.{NodeParts, present, writer}
use Rattle.node_core.specs.Step.{IsNodeStep}
use Rattle.node_core.specs.declared.state.Stepped.{Stepped}
use Rattle.node_core.proofs.Growing.{descends_itself, held_is_kept}
use Rattle.node_core.proofs.Leaves.{each_step_leaves}
use Rattle.node_core.proofs.Runs.{each_counts}
use Rattle.devices.specs.Calls.{CrashLeaves, CrashLeftSince, content_after}
use Rattle.node_file.specs.declared.record.Record.{Record}
use Rattle.node_file.specs.declared.record.Record.TheVariants.{Object}
use Rattle.node_file.specs.File.{FileState, file_state, opened, state_or_none}
use Rattle.node_file.specs.Clean.{behind_gates}
use Rattle.node_file.specs.Batch.{CanTakeAll, batch_size, state_with_all}
use Rattle.node_file.specs.Hosted.{TakesAll, batch_calls}
use Rattle.node_file.proofs.ByHosts.{takes_all}
use Rattle.node_file.proofs.Made.{opens_so, stands_so}
use Rattle.node_file.specs.Stored.{object_record, record_under}
use Rattle.node_hosted.specs.declared.fault.HostFault.{HostFault}
use Rattle.node_hosted.specs.declared.fault.HostFault.TheVariants.{Step, FileFull, Stopped, Pending, Memory}
use Rattle.node_hosted.specs.Unstored.{spelled}
use Rattle.node_hosted.specs.Hosting.{Acts, BeginsBatch, EndsBatch, HostedParts, KeepsAllButContexts, RefusesActing, Serves, Stores, after_sending, after_storing, gate_after, handed_record, kept_in, next_frame, sent_by}
use Rattle.node_hosted.specs.HostFile.{AddsRecordOf, AreNext, HasAllOf, HasObjectOf, HasRecordOf, IsFileOf, IsKnownTo, IsStoredIn, OpensWithOrWithout, calls_to_store, host_calls, newest_under, with_all_stored}
use Rattle.node_hosted.proofs.Histories.{leave_without, left_without, read_without}
use Rattle.node_hosted.proofs.Joining.{found_here, life_next, newest_last, newest_there, next_of, none_next}

-- ---- a node that is served

pub served : (asked : Option ℕ) (bytes : List ℕ) (n : HostedParts) → IsTable n.state.table → Serves asked bytes n → IsFileOf bytes n
served asked bytes n table is =
    let s = file_state bytes in
    let stored = s.contents.table in
    let rows : IsTable stored = subst IsTable (ap (λ (m : HostedParts). m.state.table) is.begins) table in
    let known : IsKnownTo stored stored =
    record { held_is_table = rows; stored_is_table = rows; keys = λ key some. some; events = descends_itself stored rows } in
    subst (IsFileOf bytes) (sym is.begins) (record {
      gate = is.gate;
      its_gate = refl;
      opens = is.opens;
      version = is.can_take.version;
      node = refl;
      known = known;
      next = life_next s (Rattle.node_core.specs.Node.opening s.node (s.contents.life + 1) stored) (s.contents.life + 1) is.can_take known refl;
    })

-- ---- a step

-- what a file has that the node knows, the node knows after a step
knows_on : (stored : Table) (old : NodeParts) (event : NodeEvent) (new : NodeParts) (s : Stepped) → EachStepGrows event → IsTable new.table
    → IsNodeStep old event new s → IsKnownTo old.table stored → IsKnownTo new.table stored
knows_on stored old event new s grows table step known =
    let keeps = held_is_kept.steps old event new s step in
    let more = (grows old new s known.held_is_table step).descends in record {
      held_is_table = table;
      stored_is_table = known.stored_is_table;
      keys = λ key some. keeps key (known.keys key some);
      events = held_is_kept.onwards stored old.table new.table known.stored_is_table known.events more;
    }

next_on : (s : FileState) (records : List Record) (old : NodeParts) (event : NodeEvent) (new : NodeParts) (t : Stepped) → EachStepGrows event
    → IsTable new.table → IsNodeStep old event new t → AreNext s old records → AreNext s new records
next_on s records old event new t grows table step next = record {
  can_take = next.can_take;
  has_all = next.has_all;
  known = knows_on (state_with_all s records).contents.table old event new t grows table step next.known;
  life = next.life ∙ sym (each_counts.step old event new t step).life;
}

-- what a step adds to what the file has once all is stored
pub record StepsOn (file : List ℕ) (old new : HostedParts) : Type 0 where
  pub its_file : IsFileOf file new
  pub adds : HasAllOf (with_all_stored file old) (with_all_stored file new)

pub steps_on : (file : List ℕ) (old : HostedParts) (event : NodeEvent) (new : HostedParts) → EachStepGrows event → IsTable new.state.table
    → Acts old event new → IsFileOf file old → StepsOn file old new
steps_on file old event new grows table acts is =
    let s = file_state file in
    let counts = each_counts.step old.state event new.state acts.stepped acts.step in
    let to_store : new.to_store ≡ old.to_store ++ kept_in (Some is.gate) (record_under (stored_key event) new.state.table) =
    acts.to_store ∙ ap (λ gate. old.to_store ++ kept_in gate (record_under (stored_key event) new.state.table)) is.its_gate in
    let on = next_on s old.to_store old.state event new.state acts.stepped grows table acts.step is.next in
    let goes = next_of is.gate s new.state old.to_store (stored_key event) is.known.stored_is_table on in record {
      its_file = record {
        gate = is.gate;
        its_gate = acts.gate ∙ is.its_gate;
        opens = is.opens;
        version = is.version;
        node = is.node ∙ sym counts.node;
        known = knows_on s.contents.table old.state event new.state acts.stepped grows table acts.step is.known;
        next = subst (AreNext s new.state) (sym to_store) goes.next;
      };
      adds = subst (λ (records : List Record). HasAllOf (with_all_stored file old) (state_with_all s records)) (sym to_store) goes.adds;
    }

pub stepped : (file : List ℕ) (old : HostedParts) (event : NodeEvent) (new : HostedParts) → EachStepGrows event → IsTable new.state.table
    → Acts old event new → IsFileOf file old → IsFileOf file new
stepped file old event new grows table acts is = (steps_on file old event new grows table acts is).its_file

same_file : (file : List ℕ) (old new : HostedParts) → new ≡ old → IsFileOf file old → IsFileOf file new
same_file file old new same is = subst (IsFileOf file) (sym same) is

-- a refused step leaves the node as it was
pub refused_same : (old : HostedParts) (event : NodeEvent) (new : HostedParts) (fault : HostFault) → RefusesActing old event new fault → new ≡ old
refused_same old event new (Step fault) why = why.2
refused_same old event new FileFull why = why.2
refused_same old event new Stopped why = why.1
refused_same old event new Pending why = why.2
refused_same old event new Memory why = why.1
refused_same old event new _ why = absurd why

pub refused : (file : List ℕ) (old : HostedParts) (event : NodeEvent) (new : HostedParts) (fault : HostFault)
    → RefusesActing old event new fault → IsFileOf file old → IsFileOf file new
refused file old event new fault why is = same_file file old new (refused_same old event new fault why) is

-- ---- sending, contexts, and batches

-- a node of the same state, gate and records to store has the same file
other_parts : (file : List ℕ) (old new : HostedParts) → new.state ≡ old.state → new.gate ≡ old.gate → new.to_store ≡ old.to_store
    → IsFileOf file old → IsFileOf file new
other_parts file old new state gate to_store is = record {
  gate = is.gate;
  its_gate = gate ∙ is.its_gate;
  opens = is.opens;
  version = is.version;
  node = is.node ∙ sym (ap (λ (n : NodeParts). n.node) state);
  known = subst (λ (n : NodeParts). IsKnownTo n.table (file_state file).contents.table) (sym state) is.known;
  next =
      subst (λ (n : NodeParts). AreNext (file_state file) n new.to_store) (sym state)
      (subst (AreNext (file_state file) old.state) (sym to_store) is.next);
}

sent_next : (file : List ℕ) (n : HostedParts) (next : Option (List ℕ)) → IsFileOf file n → IsFileOf file (sent_by next n)
sent_next file n None is = is
sent_next file n (Some frame) is = other_parts file n (sent_by (Some frame) n) refl refl refl is

pub sending : (file : List ℕ) (n : HostedParts) → IsFileOf file n → IsFileOf file (after_sending n)
sending file n is = sent_next file n (next_frame n) is

pub with_contexts : (file : List ℕ) (old new : HostedParts) → KeepsAllButContexts old new → IsFileOf file old → IsFileOf file new
with_contexts file old new rest is =
    other_parts file old new (ap (λ (n : HostedParts). n.state) rest) (ap (λ (n : HostedParts). n.gate) rest)
    (ap (λ (n : HostedParts). n.to_store) rest) is

pub batch_begun : (file : List ℕ) (old new : HostedParts) → BeginsBatch old (Ok tt) new → IsFileOf file old → IsFileOf file new
batch_begun file old new begins is =
    other_parts file old new (ap (λ (n : HostedParts). n.state) begins.2) (ap (λ (n : HostedParts). n.gate) begins.2)
    (ap (λ (n : HostedParts). n.to_store) begins.2) is

pub batch_ended : (file : List ℕ) (old new : HostedParts) → EndsBatch old (Ok tt) new → IsFileOf file old → IsFileOf file new
batch_ended file old new ends is =
    other_parts file old new (ap (λ (n : HostedParts). n.state) ends.2) (ap (λ (n : HostedParts). n.gate) ends.2)
    (ap (λ (n : HostedParts). n.to_store) ends.2) is

-- a node that is stopped has the file that it had
pub when_stopped : (file : List ℕ) (n : HostedParts) → IsFileOf file n → IsFileOf file (record n { stopped = true })
when_stopped file n is = other_parts file n (record n { stopped = true }) refl refl refl is

-- ---- storing

-- the file with the records, whatever its bytes
with_records_is : (file : List ℕ) (old : HostedParts) (c : List ℕ) (is : IsFileOf file old)
    → opened None c ≡ Ok (with_all_stored file old, is.gate + batch_size old.to_store) → IsFileOf c (after_storing true old)
with_records_is file old c is opens =
    let t = with_all_stored file old in
    let gate = is.gate + batch_size old.to_store in
    let stands : file_state c ≡ t = stands_so c t gate opens in record {
      gate = gate;
      its_gate = ap (λ gate. gate_after gate old.to_store) is.its_gate;
      opens = opens_so c t gate opens;
      version = ap (λ (u : FileState). u.version) stands ∙ is.version;
      node = ap (λ (u : FileState). u.node) stands ∙ is.node;
      known = subst (λ (u : FileState). IsKnownTo old.state.table u.contents.table) (sym stands) is.next.known;
      next = subst (λ (u : FileState). AreNext u old.state []) (sym stands) (none_next t old.state is.version is.next.known is.next.life);
    }

-- what the host does are the four calls for all records
pub calls_are : (gate : Option ℕ) (records : List Record) (g : ℕ) (first : Record) (more : List Record) → gate ≡ Some g → records ≡ first ∷ more
    → calls_to_store gate (spelled records) ≡ batch_calls g first more
unfolding behind_gates
calls_are gate records g first more gate_is stored_is =
    ap (λ o. calls_to_store o (spelled records)) gate_is ∙ ap (λ (rs : List Record). calls_to_store (Some g) (spelled rs)) stored_is

pub takes_them : (file : List ℕ) (n : HostedParts) (is : IsFileOf file n) (first : Record) (more : List Record) → n.to_store ≡ first ∷ more
    → TakesAll file is.gate first more
takes_them file n is first more there = takes_all file is.gate first more is.opens (subst (CanTakeAll (file_state file)) there is.next.can_take)

module _ (failures : ℕ) (file : List ℕ) (old : HostedParts) (is : IsFileOf file old) (first : Record) (more : List Record) (there : old.to_store ≡ first ∷ more) where
  bytes : Option (List ℕ)
  bytes = spelled old.to_store

  calls : calls_to_store old.gate (spelled old.to_store) ≡ batch_calls is.gate first more
  calls = calls_are old.gate old.to_store is.gate first more is.its_gate there

  takes : TakesAll file is.gate first more
  takes = takes_them file old is first more there

  read : content_after file (host_calls failures old) ≡ content_after file (batch_calls is.gate first more)
  read = read_without failures old.gate (spelled old.to_store) file ∙ ap (content_after file) calls

  -- what is read then
  opens_then : (c : List ℕ) → c ≡ content_after file (batch_calls is.gate first more)
      → opened None c ≡ Ok (with_all_stored file old, is.gate + batch_size old.to_store)
  opens_then c same =
      ap (opened None) same ∙ takes.opens
      ∙ ap (λ (records : List Record). Ok (state_with_all (file_state file) records, is.gate + batch_size records)) (sym there)

  all_stored : IsStoredIn failures file old (after_storing true old)
  all_stored = record {
    tells = ap state_or_none (opens_then (content_after file (host_calls failures old)) read);
    after = with_records_is file old (content_after file (host_calls failures old)) is (opens_then (content_after file (host_calls failures old)) read);
    durable = λ c left.
        with_records_is file old c is
        (opens_then c (subst (λ calls. CrashLeaves file calls c) calls (leave_without failures old.gate (spelled old.to_store) file c left)));
    any_moment = λ c left.
        subst (λ (records : List Record). OpensWithOrWithout file records c) (sym there)
        (takes.any_moment c (subst (λ calls. CrashLeftSince file calls 0 c) calls (left_without failures old.gate (spelled old.to_store) file c left)));
  }

none_handed : (shut : Bool) (records : List Record) → records ≡ [] → (if shut then None else spelled records) ≡ None
none_handed true records none = refl
none_handed false records none = ap spelled none

stored_by : (failures : ℕ) (file : List ℕ) (old : HostedParts) (records : List Record) → old.to_store ≡ records → handed_record old ≢ None
    → IsFileOf file old → IsStoredIn failures file old (after_storing true old)
stored_by failures file old [] none handed is = absurd (handed (none_handed (Rattle.node_hosted.specs.Hosting.is_shut old) old.to_store none))
stored_by failures file old (first ∷ more) there handed is = all_stored failures file old is first more there

pub stored : (failures : ℕ) (file : List ℕ) (old new : HostedParts) → Stores true old (Ok tt) new → IsFileOf file old
    → IsStoredIn failures file old new
stored failures file old new stores is =
    subst (IsStoredIn failures file old) (sym stores.2) (stored_by failures file old old.to_store refl stores.1 is)

-- ---- a write that was stored

stored_there : (failures : ℕ) (file c : List ℕ) (n : HostedParts) (key : Key) (o : List Entry) (is : IsFileOf file n) (records : List Record)
    → n.to_store ≡ records → newest_under key records ≡ Some o → CrashLeaves file (host_calls failures n) c
    → find key_cmp key (file_state c).contents.table ≡ Some o
stored_there failures file c n key o is [] none newest left = let clash : None ≡ Some o = newest in absurd (cc)
stored_there failures file c n key o is (first ∷ more) there newest left =
    let s = file_state file in
    let stands = (takes failures file n is first more there).durable c
    (subst (λ calls. CrashLeaves file calls c) (calls failures file n is first more there) (leave_without failures n.gate (spelled n.to_store) file c left)) in
    ap (λ (u : FileState). find key_cmp key u.contents.table) (stands_so c (state_with_all s (first ∷ more)) stands.0 stands.1)
    ∙ newest_there key o s (first ∷ more) newest

pub written : (failures : ℕ) (file c : List ℕ) (old new : HostedParts) (key : Key) → IsFileOf file old → HasRecordOf key old
    → Stores true old (Ok tt) new → CrashLeaves file (host_calls failures old) c → HasObjectOf key new c
written failures file c old new key is has stores left = record {
  object = has.object;
  held = ap (λ (n : HostedParts). find key_cmp key n.state.table) stores.2 ∙ has.held;
  stored = stored_there failures file c old key has.object is old.to_store refl has.newest left;
}

-- ---- a step that leaves a record

-- what is to be stored after a step
to_store_after : (old : HostedParts) (event : NodeEvent) (new : HostedParts) (key : Key) (gate : ℕ) → Acts old event new
    → stored_key event ≡ Some key → old.gate ≡ Some gate
    → new.to_store ≡ old.to_store ++ kept_in (Some gate) (object_record key (find key_cmp key new.state.table))
to_store_after old event new key gate acts its_key its_gate =
    acts.to_store ∙ ap (λ gate. old.to_store ++ kept_in gate (record_under (stored_key event) new.state.table)) its_gate
    ∙ ap (λ k. old.to_store ++ kept_in (Some gate) (record_under k new.state.table)) its_key

-- the object that a write left is held, and to be stored
adds_record : (gate : ℕ) (key : Key) (o : List Entry) (old new : HostedParts) → find key_cmp key new.state.table ≡ Some o
    → new.to_store ≡ old.to_store ++ kept_in (Some gate) (object_record key (find key_cmp key new.state.table)) → AddsRecordOf key old new
adds_record gate key o old new found to_store =
    let is : new.to_store ≡ old.to_store ++ Object key o ∷ [] =
    to_store ∙ ap (λ (f : Option (List Entry)). old.to_store ++ kept_in (Some gate) (object_record key f)) found in record {
      has = record { object = o; held = found; newest = ap (newest_under key) is ∙ newest_last key o old.to_store };
      to_store = is;
    }

put_there : (table new : Table) (key : Key) (o : List Entry) → new ≡ with_object key o table → find key_cmp key new ≡ Some o
put_there table new key o is = ap (find key_cmp key) is ∙ found_here key o table

pub recorded : (old : HostedParts) (event : NodeEvent) (new : HostedParts) (key : Key) (gate : ℕ) → Acts old event new
    → key_of_write event ≡ Some key → old.gate ≡ Some gate → AddsRecordOf key old new
recorded old (Write k value context) new key gate acts its_key its_gate =
    let same : k ≡ key = cc in
    let held = (each_step_leaves old.state (Write k value context) new.state acts.stepped acts.step).held in
    let o = object_after_put old.state.table (writer old.state) k value context in
    let found : find key_cmp key new.state.table ≡ Some o =
    subst (λ (q : Key). find key_cmp q new.state.table ≡ Some o) same (put_there old.state.table new.state.table k o held) in
    adds_record gate key o old new found (to_store_after old (Write k value context) new key gate acts its_key its_gate)
recorded old (PutOver k value) new key gate acts its_key its_gate =
    let same : k ≡ key = cc in
    let held = (each_step_leaves old.state (PutOver k value) new.state acts.stepped acts.step).held in
    let o = object_after_put old.state.table (writer old.state) k value (Some (present k old.state)) in
    let found : find key_cmp key new.state.table ≡ Some o =
    subst (λ (q : Key). find key_cmp q new.state.table ≡ Some o) same (put_there old.state.table new.state.table k o held) in
    adds_record gate key o old new found (to_store_after old (PutOver k value) new key gate acts its_key its_gate)
recorded old event new key gate acts its_key its_gate = let clash : None ≡ Some key = its_key in absurd (cc)

kept_with : (gate : ℕ) (key : Key) (old new : HostedParts) (found : Option (List Entry)) → find key_cmp key new.state.table ≡ found
    → found ≢ None → new.to_store ≡ old.to_store ++ kept_in (Some gate) (object_record key (find key_cmp key new.state.table))
    → AddsRecordOf key old new
kept_with gate key old new None is some to_store = absurd (some refl)
kept_with gate key old new (Some o) is some to_store = adds_record gate key o old new is to_store

pub kept : (old new : HostedParts) (event : NodeEvent) (key : Key) (gate : ℕ) → Acts old event new
    → stored_key event ≡ Some key → old.gate ≡ Some gate → find key_cmp key new.state.table ≢ None → AddsRecordOf key old new
kept old new event key gate acts its_key its_gate some =
    kept_with gate key old new (find key_cmp key new.state.table) refl some (to_store_after old event new key gate acts its_key its_gate)
