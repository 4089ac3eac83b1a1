-- What an accepted call leaves, of what was made ready.
use Rattle.std.proofs.Common.{◌≡◌, ◌≢◌, ◌⊎◌, ◌+◌, ◌<◌, ◌-◌, ◌^◌, ℕ, Option, Some, None, List, [], ◌∷◌, ◌++◌, length, map, T, true, false, inl, inr, ⊎_elim, refl, sym, ap, ◌∙◌, subst, arith}
use Rattle.std.proofs.Math.Nat.{min-eq_left}
use Rattle.std.proofs.lemmas.List.{map-append}
use Rattle.std.specs.FinMap.{find, is_sorted}
use Rattle.std.specs.FinMap.Entries.{is_sorted-put}
use Rattle.meta_types.specs.Actor.{writer_number}
use Rattle.meta_types.specs.Name.{Key}
use Rattle.meta_types.specs.Order.{key_cmp}
use Rattle.meta_store.specs.Table.{IsTable, Table, with_object}
use Rattle.meta_store.proofs.Keys.{key_total}
use Rattle.meta_store.proofs.Maps.{is_true}
use Rattle.devices.specs.Device.{LeavesOnly}
use Rattle.devices.proofs.Moments.{weaker}
use Rattle.node_events.specs.Event.{stored_key}
use Rattle.node_events.specs.declared.event.NodeEvent.{NodeEvent}
use Rattle.node_events.specs.declared.reply.Reply.{Reply}
use Rattle.node_core.specs.Growing.{IsKeyChanged, KeepsKeys}
use Rattle.node_core.specs.Node.{NodeParts, opening}
use Rattle.node_core.specs.Run.{CountsOn, IsRun}
use Rattle.node_core.specs.Step.{IsNodeStep}
use Rattle.node_core.proofs.Runs.{runs_join}
use Rattle.node_journal.specs.declared.entry.Entry.{Entry}
use Rattle.node_journal.specs.Entry.{step_of, stepped_of}
use Rattle.node_file.specs.declared.fault.FileFault.{FileFault}
use Rattle.node_file.specs.declared.fault.FileFault.TheVariants as OfFile
use Rattle.node_file.specs.declared.record.Record.{Record}
use Rattle.node_file.specs.File.{FileState}
use Rattle.node_file.specs.View.{FileView}
use Rattle.node_readers.specs.Published.{Published, with_all}
use Rattle.node_call.specs.declared.fault.LockFault.{LockFault}
use Rattle.node_call.specs.declared.fault.LockFault.TheVariants.{Step, FileFull, Device, JournalFull, Memory}
use Rattle.node_call.specs.Fault.{of_append}
use Rattle.node_call.specs.Journaled.{IsJournaled, IsPublishedBy, TellsOfEntry}
use Rattle.node_call.specs.Ready.{IsFullFor, IsKnownStep, Prevents, listed}
use Rattle.node_file.specs.Stored.{LeavesRecord, object_record, record_under, with_stored}
use Rattle.node_call.specs.Stored.{IsStoredOf, LeavesOfEvent, RefusesStoring, record_after}
use Rattle.node_call.proofs.Files.{within_stored}
use Rattle.node_call.proofs.Listing.{ends_on, list_on}
use Rattle.node_call.proofs.Runs.{journaled_on, run_of}
use Rattle.node_desk.specs.Acting.{IsFull, Refuses, RefusesKeeping}
use Rattle.node_desk.specs.Desk.{BeganWith, DeskView, IsOfLife}

-- the list that is published then tells of the entry and of its copy
pub told : (number life : ℕ) (old new : NodeParts) (e copy : Entry) (list changes : List Published)
    → IsOfLife number life old → IsKnownStep old e.event new (stepped_of e)
    → IsPublishedBy e.event e.reply new.table changes → copy ≡ e
    → TellsOfEntry (writer_number number life) copy (list ++ changes)
told number life old new e copy list changes of_life known published is =
    let own = ends_on (writer_number old.node old.incarnation) e.event e.reply new.table list changes known.grows.tells published in
    let named = subst (λ n. TellsOfEntry (writer_number n old.incarnation) e (list ++ changes)) of_life.node own in
    let lived = subst (λ l. TellsOfEntry (writer_number number l) e (list ++ changes)) of_life.life named in
    subst (λ x. TellsOfEntry (writer_number number life) x (list ++ changes)) (sym is) lived

-- a step counts one more, if there are few
pub one_more : (old new : NodeParts) (sent : ℕ) → CountsOn 1 sent old new → old.steps < 2 ^ 64 - 1
    → new.steps ≡ old.steps + 1
one_more old new sent counts few = counts.steps ∙ min-eq_left (omega (arith, few))

-- what always holds of a desk goes on from the state before to the state after
pub record GoesOn (base new : NodeParts) (opened : Table) (journal : List Entry) (list : List Published)
    : Type 0 where
  pub journaled : IsJournaled base new journal list
  pub table : with_all opened list ≡ new.table

pub goes_on : (base old new : NodeParts) (opened : Table) (journal : List Entry)
    (list changes : List Published) (e : Entry) → IsJournaled base old journal list
    → with_all opened list ≡ old.table → IsKnownStep old e.event new (stepped_of e)
    → IsPublishedBy e.event e.reply new.table changes
    → GoesOn base new opened (journal ++ e ∷ []) (list ++ changes)
goes_on base old new opened journal list changes e journaled table known published = record {
  journaled = journaled_on base old new journal list e changes journaled (record { step = known.step; published = published });
  table = list_on opened list e.event e.reply old.table new.table changes table known.grows.changes published;
}

pub still_of_life : (number life : ℕ) (old new : NodeParts) (sent : ℕ) → IsOfLife number life old
    → CountsOn 1 sent old new → IsOfLife number life new
still_of_life number life old new sent of_life counts = record {
  node = counts.node ∙ of_life.node;
  life = counts.life ∙ of_life.life;
}

-- what refuses an append refuses the call
pub keeping_refused : {D : Type 0} (gate : ℕ) (stored : Option Record) (change : Option Published)
    (before now : ℕ) (file : FileView D) (fault : FileFault)
    → RefusesStoring gate stored before now file fault
    → RefusesKeeping gate stored change before now file.is_stopped (of_append fault)
keeping_refused gate stored change before now file OfFile.FileFull refused = refused
keeping_refused gate stored change before now file OfFile.Device refused = refused
keeping_refused gate stored change before now file OfFile.Memory refused = λ _. (refused.1, inl refused.0)
keeping_refused gate stored change before now file _ refused = absurd refused

-- ---- what is stored goes on to be within what is held

pub kept_within : (old new stored : Table) → KeepsKeys old new → IsStoredOf old stored
    → IsStoredOf new stored
kept_within old new stored keeps within = record {
  rising = within.rising;
  keys = λ key some. keeps key (within.keys key some);
}

rising_for : (asked : Option Key) (held : Table) (file : FileState)
    → is_sorted key_cmp file.contents.table ≡ true
    → is_sorted key_cmp (with_stored (record_under asked held) file).contents.table ≡ true
rising_for None held file rising = rising
rising_for (Some key) held file rising =
    elim (find key_cmp key held) as
    (λ found. is_sorted key_cmp (with_stored (object_record key found) file).contents.table ≡ true) [
      | None ↦ rising
      | Some object ↦
          is_true (is_sorted key_cmp (with_object key object file.contents.table))
          (is_sorted-put key_cmp key_total key object file.contents.table (subst T (sym rising) tt))
    ]

-- with what the event stores, as its file then tells
pub stored_within : (event : NodeEvent) (old new : Table) (before after : FileState)
    → KeepsKeys old new → IsStoredOf old before.contents.table
    → after ≡ with_stored (record_after event new) before → IsStoredOf new after.contents.table
stored_within event old new before after keeps within tells =
    let still = kept_within old new before.contents.table keeps within in
    subst (λ (s : FileState). IsStoredOf new s.contents.table) (sym tells) (record {
      rising = rising_for (stored_key event) new before still.rising;
      keys = within_stored event new before still.keys;
    })

-- what a crash leaves of what is stored, it leaves of the event
pub leaves_of : {D : Type 0} (content : D → List ℕ) (moment : D → ℕ)
    (left_since : D → ℕ → List ℕ → Type 0) (from to : D) (old new : NodeParts) (event : NodeEvent)
    (e : Entry) → e.event ≡ event → IsNodeStep old e.event new (stepped_of e)
    → LeavesOnly moment left_since from to (LeavesRecord (content from) (record_after e.event new.table))
    → LeavesOnly moment left_since from to (LeavesOfEvent old event (content from))
leaves_of content moment left_since from to old new event e is step leaves =
    subst (λ ev. LeavesOnly moment left_since from to (LeavesOfEvent old ev (content from))) is
    (weaker moment left_since from to (LeavesRecord (content from) (record_after e.event new.table)) (LeavesOfEvent old e.event (content from)) leaves
    (λ c left. inr (record { new = new; stepped = stepped_of e; step = step; left = left })))

pub not_full : (limit count steps : ℕ) → (count < limit) × (steps < 2 ^ 64 - 1)
    → IsFullFor limit count steps → ⊥
not_full limit count steps few full =
    ⊎_elim (λ long. omega (arith, long, few.0)) (λ many. omega (arith, many, few.1)) full

-- what is published changes what is held under its key
changed : (event : NodeEvent) (reply : Reply) (held : Table) (change : Option Published)
    → IsPublishedBy event reply held (listed change) → change ≢ None
    → (key : Key) × IsKeyChanged event reply key
changed event reply held None published some = absurd (some refl)
changed event reply held (Some c) published some = (c.key, published.0)

-- what refuses to keep what is ready refuses the call of its event
own_refused : {D : Type 0} (failed : D → ℕ) (old new : DeskView D) (after : NodeParts) (e : Entry)
    (change : Option Published) (fault : LockFault)
    → IsNodeStep old.state e.event after (stepped_of e) → (IsFull old → ⊥)
    → IsPublishedBy e.event e.reply after.table (listed change)
    → RefusesKeeping old.file.gate (record_after e.event after.table) change (failed old.file.device)
    (failed new.file.device) new.stopped fault
    → Refuses failed old e.event fault new
own_refused failed old new after e change FileFull step room published keeping =
    (record { can = record { new = after; stepped = stepped_of e; step = step }; room = room }, keeping)
own_refused failed old new after e change Device step room published keeping =
    (record { can = record { new = after; stepped = stepped_of e; step = step }; room = room }, keeping)
own_refused failed old new after e change Memory step room published keeping = λ stops. (
  record { can = record { new = after; stepped = stepped_of e; step = step }; room = room },
  ((keeping stops).0, ⊎_elim inl (λ some. inr (changed e.event e.reply after.table change published some)) (keeping stops).1),
)
own_refused failed old new after e change _ step room published keeping = absurd keeping

pub call_refused : {D : Type 0} (failed : D → ℕ) (old new : DeskView D) (event : NodeEvent)
    (after : NodeParts) (e : Entry) (change : Option Published) (fault : LockFault) → e.event ≡ event
    → IsNodeStep old.state e.event after (stepped_of e) → (IsFull old → ⊥)
    → IsPublishedBy e.event e.reply after.table (listed change)
    → RefusesKeeping old.file.gate (record_after e.event after.table) change (failed old.file.device)
    (failed new.file.device) new.stopped fault
    → Refuses failed old event fault new
call_refused failed old new event after e change fault is step room published keeping =
    subst (λ ev. Refuses failed old ev fault new) is
    (own_refused failed old new after e change fault step room published keeping)

-- ---- a new desk, and one whose journal is cut

pub new_journal : (start base state : NodeParts) (list : List Published) → base ≡ start → state ≡ start
    → list ≡ [] → IsJournaled base state [] list
new_journal start base state list at_base at_state none = record {
  before = [];
  published = [];
  list_is = none;
  run = (refl, at_state ∙ sym at_base);
  whole = λ _. refl;
}

-- the file's table is held, if both are the one with which it opened
pub file_within : (opened held stored : Table) → IsTable opened → held ≡ opened → stored ≡ opened
    → IsStoredOf held stored
file_within opened held stored lawful at_held at_stored =
    subst (λ (t : Table). IsStoredOf t stored) (sym at_held) (subst (IsStoredOf opened) (sym at_stored) (record {
      rising = lawful.rising;
      keys = λ key some. some;
    }))

-- what began with the table has come to the state, by the journal too
pub began_on : (number life : ℕ) (opened : Table) (base state : NodeParts) (journal : List Entry)
    (list : List Published) → BeganWith number life opened base → IsJournaled base state journal list
    → BeganWith number life opened state
began_on number life opened base state journal list began kept = record {
  entries = began.entries ++ journal;
  run =
      subst (λ steps. IsRun (opening number life opened) steps state) (sym (map-append step_of began.entries journal))
      (runs_join.joins (map step_of began.entries) (map step_of journal) (opening number life opened) base state began.run (run_of journal kept.published base state kept.run));
}
