-- What is in the file of a host stays in it.
use Rattle.std.proofs.Common.{◌≡◌, ◌≢◌, ◌⊎◌, ◌<◌, ◌+◌, ℕ, Bool, true, false, List, [], ◌∷◌, slice_get, Option, Some, None, is_some, ◌||◌, if◌then◌else◌, inl, inr, ⊎_elim, refl, sym, ap, subst, ◌∙◌, arith}
use Rattle.std.proofs.lemmas.List.Elements.{All-nil}
use Rattle.std.specs.Option.{unwrap_or}
use Rattle.std.specs.FinMap.{find}
use Rattle.meta_types.specs.Name.{IsKey, Key}
use Rattle.meta_types.specs.Order.{key_cmp}
use Rattle.dvvset.specs.Clock.{descends, join}
use Rattle.dvvset.specs.Object.{Entry}
use Rattle.meta_store.specs.Table.{IsHeld, IsTable, Table, object_at, with_object}
use Rattle.meta_store.proofs.Tables.{found_row, object_at-here, table_put}
use Rattle.node_events.specs.Event.{stored_key}
use Rattle.node_core.specs.Growing.{Descends}
use Rattle.node_core.specs.Handling.{key_of_write}
use Rattle.node_core.proofs.Growing.{descends_itself, held_is_kept, step_grows}
use Rattle.devices.specs.Calls.{CrashLeftSince, DeviceCall}
use Rattle.node_file.specs.declared.record.Record.{Record}
use Rattle.node_file.specs.File.{file_state, opened, state_or_none}
use Rattle.node_file.specs.Batch.{state_with_all}
use Rattle.node_file.proofs.Made.{stands_so}
use Rattle.node_hosted.specs.Unstored.{spelled}
use Rattle.node_hosted.specs.Hosting.{HostedParts, handed_reply, is_shut, next_frame, sent_by}
use Rattle.node_hosted.specs.HostFile.{AddsRecordOf, HasAllOf, IsFileOf, OpensWithOrWithout, calls_to_store, host_calls, with_all_stored}
use Rattle.node_hosted.specs.Lasting.{FailsMidway, Follow, GoesOn, Happens, HappensOrRestarts, IsAcknowledged, IsLeft, Knows, Later, Moment, Restarts, Stepped, Refused, Sent, Contexts, BatchBegan, BatchEnded, Stored, GaveUp}
use Rattle.node_hosted.proofs.Filing.{batch_begun, batch_ended, calls_are, kept, recorded, refused, refused_same, sending, served, stepped, steps_on, stored, takes_them, when_stopped, with_contexts}
use Rattle.node_hosted.proofs.Having.{has_itself, onwards}
use Rattle.node_hosted.proofs.Histories.{failed_midway, left_without}
use Rattle.node_hosted.proofs.Joining.{newest_there}
use Rattle.node_hosted.proofs.Knowing.{put_known}

-- ---- what is left

left_of : (file c : List ℕ) (n : HostedParts) (is : IsFileOf file n) (records : List Record) → n.to_store ≡ records
    → CrashLeftSince file (calls_to_store (Some is.gate) (spelled records)) 0 c → OpensWithOrWithout file records c
left_of file c n is [] none (from, same) = ap (opened None) same
left_of file c n is (first ∷ more) there left =
    (takes_them file n is first more there).any_moment c
    (subst (λ (them : List DeviceCall). CrashLeftSince file them 0 c) (calls_are (Some is.gate) (first ∷ more) is.gate first more refl refl) left)

by_host : (file c : List ℕ) (n : HostedParts) → IsLeft file n c → CrashLeftSince file (calls_to_store n.gate (spelled n.to_store)) 0 c
by_host file c n is =
    let calls = host_calls is.failures n in
    left_without is.failures n.gate (spelled n.to_store) file c
    (⊎_elim (λ (all : is.made ≡ calls). subst (λ (them : List DeviceCall). CrashLeftSince file them 0 c) all is.left)
    (λ (fails : FailsMidway calls is.made). failed_midway file c calls is.made fails is.left) is.by_host)

pub left_opens : (file c : List ℕ) (n : HostedParts) → IsFileOf file n → IsLeft file n c → OpensWithOrWithout file n.to_store c
left_opens file c n is left =
    left_of file c n is n.to_store refl
    (subst (λ gate. CrashLeftSince file (calls_to_store gate (spelled n.to_store)) 0 c) is.its_gate (by_host file c n left))

like_has_all : (file c : List ℕ) → IsTable (file_state file).contents.table → opened None c ≡ opened None file
    → HasAllOf (file_state file) (file_state c)
like_has_all file c rows like =
    subst (HasAllOf (file_state file)) (sym (ap state_or_none like)) (has_itself (file_state file) rows)

-- what opens with the records or without has all that the file has
either_has_all : (file c : List ℕ) (records : List Record) → IsTable (file_state file).contents.table
    → HasAllOf (file_state file) (state_with_all (file_state file) records) → OpensWithOrWithout file records c
    → HasAllOf (file_state file) (file_state c)
either_has_all file c [] rows all like = like_has_all file c rows like
either_has_all file c (first ∷ more) rows all either =
    ⊎_elim (like_has_all file c rows)
    (λ stands. subst (HasAllOf (file_state file)) (sym (stands_so c (state_with_all (file_state file) (first ∷ more)) stands.0 stands.1)) all) either

pub left_has_all : (file c : List ℕ) (n : HostedParts) → IsFileOf file n → IsLeft file n c → HasAllOf (file_state file) (file_state c)
left_has_all file c n is left = either_has_all file c n.to_store is.known.stored_is_table is.next.has_all (left_opens file c n is left)

-- ---- what happens

same_goes_on : (old new : Moment) → IsFileOf old.file old.node → new.file ≡ old.file → IsFileOf old.file new.node → GoesOn old new
same_goes_on old new is same its = record {
  its_file = subst (λ (f : List ℕ). IsFileOf f new.node) (sym same) its;
  has_all =
      subst (λ (f : List ℕ). HasAllOf (file_state old.file) (file_state f)) (sym same)
      (has_itself (file_state old.file) is.known.stored_is_table);
}

-- what the file has once all is stored stays if nothing more is to be stored
all_same : (old new : Moment) → IsFileOf old.file old.node → new.file ≡ old.file → new.node.to_store ≡ old.node.to_store
    → HasAllOf (with_all_stored old.file old.node) (with_all_stored new.file new.node)
all_same old new is file to_store =
    let all = with_all_stored old.file old.node in
    let same : with_all_stored new.file new.node ≡ all =
    ap (λ (f : List ℕ). state_with_all (file_state f) new.node.to_store) file ∙ ap (state_with_all (file_state old.file)) to_store in
    subst (HasAllOf all) (sym same) (has_itself all is.next.known.stored_is_table)

-- the file is still the node's and has all that it had, also once all is stored
record GoesOnOnce (old new : Moment) : Type 0 where
  on : GoesOn old new
  all : HasAllOf (with_all_stored old.file old.node) (with_all_stored new.file new.node)

same_once : (old new : Moment) → IsFileOf old.file old.node → new.file ≡ old.file → new.node.to_store ≡ old.node.to_store → IsFileOf old.file new.node
    → GoesOnOnce old new
same_once old new is file to_store its = record { on = same_goes_on old new is file its; all = all_same old new is file to_store }

sent_same : (n : HostedParts) (next : Option (List ℕ)) → (sent_by next n).to_store ≡ n.to_store
sent_same n None = refl
sent_same n (Some frame) = refl

what_is_stored : HostedParts → List Record
what_is_stored n = n.to_store

goes_on_once : (old new : Moment) → IsFileOf old.file old.node → Happens old new → GoesOnOnce old new
unfolding what_is_stored
goes_on_once old new is (Stepped event typed acts same) =
    let steps = steps_on old.file old.node event new.node (step_grows event typed.read) typed.held acts is in record {
      on = same_goes_on old new is same steps.its_file;
      all = subst (λ (f : List ℕ). HasAllOf (with_all_stored old.file old.node) (with_all_stored f new.node)) (sym same) steps.adds;
    }
goes_on_once old new is (Refused event fault typed why same) =
    same_once old new is same (ap what_is_stored (refused_same old.node event new.node fault why)) (refused old.file old.node event new.node fault why is)
goes_on_once old new is (Sent sent same) =
    same_once old new is same (ap what_is_stored sent ∙ sent_same old.node (next_frame old.node))
    (subst (IsFileOf old.file) (sym sent) (sending old.file old.node is))
goes_on_once old new is (Contexts rest same) =
    same_once old new is same (ap what_is_stored rest) (with_contexts old.file old.node new.node rest is)
goes_on_once old new is (BatchBegan begins same) =
    same_once old new is same (ap what_is_stored begins.2) (batch_begun old.file old.node new.node begins is)
goes_on_once old new is (BatchEnded ends same) =
    same_once old new is same (ap what_is_stored ends.2) (batch_ended old.file old.node new.node ends is)
goes_on_once old new is (Stored failures stores ends) =
    let all = with_all_stored old.file old.node in
    let now = stored failures old.file old.node new.node stores is in
    let tells : file_state new.file ≡ all = ap file_state ends ∙ now.tells in
    let nothing : with_all_stored new.file new.node ≡ all =
    ap (λ (n : HostedParts). state_with_all (file_state new.file) n.to_store) stores.2 ∙ tells in record {
      on = record {
        its_file = subst (λ (f : List ℕ). IsFileOf f new.node) (sym ends) now.after;
        has_all = subst (HasAllOf (file_state old.file)) (sym tells) is.next.has_all;
      };
      all = subst (HasAllOf all) (sym nothing) (has_itself all is.next.known.stored_is_table);
    }
goes_on_once old new is (GaveUp stores same) =
    same_once old new is same (ap what_is_stored stores.2) (subst (IsFileOf old.file) (sym stores.2) (when_stopped old.file old.node is))

kept_has_all : (old new : Moment) → IsFileOf old.file old.node → Restarts old new → HasAllOf (file_state old.file) (file_state new.file)
kept_has_all old new is again = subst (HasAllOf (file_state old.file)) (sym again.says) (left_has_all old.file again.kept old.node is again.left)

restarted : (old new : Moment) → IsFileOf old.file old.node → Restarts old new → GoesOn old new
restarted old new is again =
    record { its_file = served again.asked new.file new.node again.held again.serves; has_all = kept_has_all old new is again }

goes_on_either : (old new : Moment) → IsFileOf old.file old.node → HappensOrRestarts old new → GoesOn old new
goes_on_either old new is (inl happens) = (goes_on_once old new is happens).on
goes_on_either old new is (inr again) = restarted old new is again

goes_on_by : (first : Moment) (between : List Moment) (last : Moment) → IsFileOf first.file first.node
    → Follow HappensOrRestarts first between last → GoesOn first last
goes_on_by first [] last is same =
    same_goes_on first last is (ap (λ (m : Moment). m.file) same) (subst (λ (m : Moment). IsFileOf first.file m.node) (sym same) is)
goes_on_by first (next ∷ later) last is (step, rest) =
    let one = goes_on_either first next is step in
    let more = goes_on_by next later last one.its_file rest in record {
      its_file = more.its_file;
      has_all =
          onwards (file_state first.file) (file_state next.file) (file_state last.file) is.known.stored_is_table one.has_all more.has_all;
    }

pub goes_on_later : (first last : Moment) → IsFileOf first.file first.node → Later first last → GoesOn first last
goes_on_later first last is later = goes_on_by first later.0 last is later.1

-- ---- a life that begins

pub life_is_new : (first old new : Moment) → IsFileOf first.file first.node → first.node.to_store ≡ [] → Later first old → Restarts old new
    → first.node.state.incarnation < new.node.state.incarnation
life_is_new first old new is none later again =
    let on = goes_on_later first old is later in
    let before = on.has_all.life in
    let left = (kept_has_all old new on.its_file again).life in
    let own : (file_state first.file).contents.life ≡ first.node.state.incarnation =
    subst (λ (records : List Record). (state_with_all (file_state first.file) records).contents.life ≡ first.node.state.incarnation) none is.next.life in
    let begun : new.node.state.incarnation ≡ (file_state new.file).contents.life + 1 =
    ap (λ (n : HostedParts). n.state.incarnation) again.serves.begins in
    omega (arith, before, left, own, begun)

-- ---- a write that was acknowledged

-- the table with this object alone
abbrev alone : Key → List Entry → Table
alone key o = with_object key o []

empty_table : IsTable []
empty_table = record { rising = refl; keys = All-nil (λ row. IsKey row.0); few = omega arith; held = All-nil (λ row. IsHeld row.1) }

alone_is_table : (key : Key) (o : List Entry) → IsKey key → IsHeld o → IsTable (alone key o)
alone_is_table key o is held = table_put key o [] empty_table is held refl

-- a table that has the object knows it
knows_alone : (key : Key) (o : List Entry) (table : Table) → IsTable table → find key_cmp key table ≡ Some o → Descends (alone key o) table
knows_alone key o table rows there =
    let same : object_at table key ≡ o = ap (λ (found : Option (List Entry)). unwrap_or found []) there in
    put_known [] table key o (λ k. refl)
    (subst (λ (p : List Entry). descends (join (object_at table key)) (join p) ≡ true) same (descends_itself table rows key))

at_key : (key : Key) (o : List Entry) (table : Table) → Descends (alone key o) table
    → descends (join (object_at table key)) (join o) ≡ true
at_key key o table known =
    subst (λ (p : List Entry). descends (join (object_at table key)) (join p) ≡ true) (object_at-here key o []) (known key)

-- the file counts the object once all is stored
abbrev Counted : Key → List Entry → Moment → Type 0
Counted key o m = Descends (alone key o) (with_all_stored m.file m.node).contents.table

counted_by : (key : Key) (o : List Entry) → IsTable (alone key o) → (first : Moment) (between : List Moment) (last : Moment)
    → IsFileOf first.file first.node → Counted key o first → Follow Happens first between last
    → IsFileOf last.file last.node × Counted key o last
counted_by key o rows first [] last is counted same =
    (subst (λ (m : Moment). IsFileOf m.file m.node) (sym same) is, subst (Counted key o) (sym same) counted)
counted_by key o rows first (next ∷ later) last is counted (step, rest) =
    let once = goes_on_once first next is step in
    let so =
    held_is_kept.onwards (alone key o) (with_all_stored first.file first.node).contents.table (with_all_stored next.file next.node).contents.table
    rows counted once.all.events in
    counted_by key o rows next later last once.on.its_file so rest

-- what is handed out beside records is handed out once all is stored
nothing_handed : {A : Type 0} (shut : Bool) (records : List Record) (it : Option A) → records ≢ []
    → (if shut || is_some (spelled records) then None else it) ≡ None
nothing_handed true records it some = refl
nothing_handed false [] it some = absurd (some refl)
nothing_handed false (first ∷ more) it some = refl

was_stored : (n : HostedParts) (records : List Record) → n.to_store ≡ records → (handed_reply n ≢ None) ⊎ (next_frame n ≢ None) → records ≡ []
was_stored n [] is handed = refl
was_stored n (first ∷ more) is handed =
    let some : n.to_store ≢ [] = λ none. let clash : first ∷ more ≡ [] = sym is ∙ none in absurd (cc) in
    absurd (⊎_elim (λ reply. reply (nothing_handed (is_shut n) n.to_store n.reply some))
    (λ frame. frame (nothing_handed (is_shut n) n.to_store (slice_get n.outbox n.sent) some)) handed)

pub acknowledged_stays : (key : Key) (object : List Entry) (now last : Moment) → IsAcknowledged key object now → Later now last
    → Knows key object last
acknowledged_stays key object now last is later =
    let begun = is.its_file in
    let adds : AddsRecordOf key is.old.node is.wrote =
    ⊎_elim (λ (writes : key_of_write is.event ≡ Some key). recorded is.old.node is.event is.wrote key begun.gate is.acts writes begun.its_gate)
    (λ keeps. kept is.old.node is.wrote is.event key begun.gate is.acts (ap stored_key keeps.0) begun.its_gate keeps.1) is.its_key in
    let has = adds.has in
    let o : List Entry = has.object in
    let same : object ≡ o = is.its_object ∙ ap (λ (found : Option (List Entry)). unwrap_or found []) has.held in
    let row = found_row key is.wrote.state.table o is.typed.held.held is.typed.held.keys has.held in
    let rows = alone_is_table key o row.key row.held in
    let wrote : Moment = record { file = is.old.file; node = is.wrote } in
    let its = stepped is.old.file is.old.node is.event is.wrote (step_grows is.event is.typed.read) is.typed.held is.acts begun in
    let all = (with_all_stored is.old.file is.wrote).contents.table in
    let counted : Counted key o wrote =
    knows_alone key o all its.next.known.stored_is_table (newest_there key o (file_state is.old.file) is.wrote.to_store has.newest) in
    let by = counted_by key o rows wrote is.since.0 now its counted is.since.1 in
    let none : now.node.to_store ≡ [] = was_stored now.node now.node.to_store refl is.handed in
    let now_file = (file_state now.file).contents.table in
    let last_file = (file_state last.file).contents.table in
    let known : Descends (alone key o) now_file =
    subst (λ (records : List Record). Descends (alone key o) (state_with_all (file_state now.file) records).contents.table) none by.1 in
    let more = goes_on_later now last by.0 later in
    let in_file = held_is_kept.onwards (alone key o) now_file last_file rows known more.has_all.events in
    let in_node = held_is_kept.onwards (alone key o) last_file last.node.state.table rows in_file more.its_file.known.events in
    subst (λ (p : List Entry). Knows key p last) (sym same)
    (record { file = at_key key o last_file in_file; node = at_key key o last.node.state.table in_node })
