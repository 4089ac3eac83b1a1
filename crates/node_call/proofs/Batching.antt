-- The writes of a batch, one after another.
use Rattle.std.proofs.Common.{◌≡◌, ◌≢◌, ℕ, ◌+◌, ◌<◌, ◌≤◌, ◌-◌, ◌^◌, zero, suc, List, [], ◌∷◌, ◌++◌, length, map, fold, All, Option, Some, None, IfSome, nat_lt, if◌then◌else◌, Result, Ok, Err, IsOk, IfOk, IfErr, OnOk, ◌⊎◌, ⊎_elim, inl, inr, Bool, T, true, false, refl, sym, ap, subst, ◌∙◌, arith, append_assoc, length-append}
use Rattle.std.proofs.Math.Nat.{min-eq_left}
use Rattle.std.proofs.lemmas.List.{length-map, map-append}
use Rattle.std.proofs.lemmas.List.Elements.{All-head, All-map, All-nil, All-push, All-tail, All-weaker}
use Rattle.std.proofs.lemmas.List.Sums.{fold_push}
use Rattle.std.proofs.lemmas.Bool.Decides.{nat_tests}
use Rattle.std.specs.FinMap.{find, is_sorted}
use Rattle.std.specs.FinMap.Entries.{is_sorted-put}
use Rattle.meta_types.specs.Order.{key_cmp}
use Rattle.meta_store.specs.Table.{IsHeld, IsTable, Table, is_small_enough, most_keys, most_merged, with_object}
use Rattle.meta_store.proofs.Keys.{key_total}
use Rattle.meta_store.proofs.Maps.{is_true}
use Rattle.node_events.specs.Event.{stored_key}
use Rattle.node_events.specs.declared.event.NodeEvent.{NodeEvent}
use Rattle.node_events.specs.declared.event.NodeEvent.TheVariants.{Write, PutOver}
use Rattle.node_events.specs.declared.fault.StepFault.{StepFault}
use Rattle.node_events.specs.declared.reply.Reply.{Reply}
use Rattle.node_core.specs.Growing.{EachStepGrows, HeldIsKept}
use Rattle.node_core.specs.Run.{EachStepCounts}
use Rattle.node_core.specs.declared.state.Stepped.{Stepped}
use Rattle.node_core.specs.Node.{NodeParts}
use Rattle.node_core.specs.Step.{IsNodeStep}
use Rattle.node_core.proofs.Within.{keeps_with, no_longer}
use Rattle.dvvset.specs.Object.{Entry as Cell}
use Rattle.meta_types.specs.Name.{Key}
use Rattle.node_file.specs.Batch.{IsBatchOfDevice, at_place, most_batch, refusal_of_batch, refused_object}
use Rattle.node_file.specs.Clean.{row_record}
use Rattle.node_file.specs.File.{record_size}
use Rattle.node_file.specs.Refusal.{refusal_of_append}
use Rattle.node_file.specs.View.{FileView}
use Rattle.node_file.specs.declared.batch_fault.BatchFault.{BatchFault}
use Rattle.node_file.specs.declared.batch_fault.BatchFault.TheVariants as batches
use Rattle.node_file.specs.declared.fault.FileFault.{FileFault}
use Rattle.node_file.specs.declared.fault.FileFault.TheVariants as OfFile
use Rattle.node_file.specs.Fold.{Contents, with_record}
use Rattle.node_file.specs.declared.record.Record.TheVariants.{Object}
use Rattle.node_journal.specs.declared.entry.Entry.{Entry}
use Rattle.node_journal.specs.declared.receipt.Receipt.{Receipt}
use Rattle.node_journal.specs.Entry.{stepped_of}
use Rattle.node_readers.specs.Published.{Published, with_all, with_published}
use Rattle.node_readers.specs.Growth.{GrowsBy, GrowsByAll}
use Rattle.node_call.specs.declared.fault.LockFault.{LockFault}
use Rattle.node_call.specs.declared.fault.LockFault.TheVariants.{FileFull, Memory}
use Rattle.node_call.specs.declared.batch.Batch.{Batch}
use Rattle.node_call.specs.declared.write.Write.{Write as BatchWrite}
use Rattle.node_call.specs.Batch.{AreReceipts, HasRoomFor, IsBatch, IsMadeWrite, IsWrite, Keeps, PreventsAt, entries_of, event_written}
use Rattle.node_call.specs.Journaled.{IsJournaled, IsRunWith}
use Rattle.node_call.specs.Ready.{HoldsChanged, IsKnownStep, Prevents}
use Rattle.node_call.specs.Stored.{HasFileRoomFor, IsStoredOf, RefusesStoringAll, stored_rows}
use Rattle.node_call.proofs.Files.{full_alone, some_is}
use Rattle.node_call.proofs.Listing.{grows_by, holds_changed, put_in}
use Rattle.node_call.proofs.Runs.{run_on}

-- ---- one write

pub known_if_made : (r : Result Stepped StepFault) (old : NodeParts) (event : NodeEvent) (new : NodeParts) → IfOk r (IsNodeStep old event new)
    → EachStepCounts → EachStepGrows event → HeldIsKept → IsTable old.table → IsTable new.table → IfOk r (IsKnownStep old event new)
known_if_made (Ok s) old event new step counts grows kept was is = record {
  step = step;
  grows = grows old new s was step;
  lawful = is;
  keeps = kept.steps old event new s step;
  counts = counts.step old event new s step;
}
known_if_made (Err fault) old event new step counts grows kept was is = tt

pub written_is_held : (event : NodeEvent) (reply : Reply) (held : Table) → IsWrite event → HoldsChanged event reply held
    → IfSome (stored_key event) (λ key. find key_cmp key held ≢ None)
written_is_held (Write key value context) reply held is holds = holds key refl
written_is_held (PutOver key value) reply held is holds = holds key refl
written_is_held _ reply held is holds = absurd is

-- ---- a batch goes on by a write

pub no_batch : (s : NodeParts) (receipts : List Receipt) (changes : List Published) → IsTable s.table → receipts ≡ [] → changes ≡ []
    → IsBatch s [] receipts changes s
no_batch s receipts changes lawful no_receipts no_changes =
    subst (λ rs. IsBatch s [] rs changes s) (sym no_receipts)
    (subst (λ cs. IsBatch s [] [] cs s) (sym no_changes) (record {
      events = refl;
      places = tt;
      run = (refl, refl);
      one_each = refl;
      makes = refl;
      grows = tt;
      lawful = lawful;
      keeps = λ key some. some;
      held = All-nil (λ c. find key_cmp c.key s.table ≢ None);
      node = refl;
      life = refl;
      steps = omega arith;
    }))

receipts_on : (node place : ℕ) (receipts : List Receipt) (r : Receipt) → AreReceipts node place receipts → r.node ≡ node → r.place ≡ place + length receipts
    → AreReceipts node place (receipts ++ r ∷ [])
receipts_on node place [] r are own at = (own, omega (arith, at), tt)
receipts_on node place (q ∷ receipts) r are own at =
    (are.0, are.1, receipts_on node (place + 1) receipts r are.2 own (omega (arith, at)))

grows_all_on : (table : Table) (changes : List Published) (c : Published) → GrowsByAll table changes → GrowsBy (with_all table changes) c
    → GrowsByAll table (changes ++ c ∷ [])
grows_all_on table [] c all by = (by, tt)
grows_all_on table (d ∷ changes) c all by = (all.0, grows_all_on (with_published table d) changes c all.1 by)

pub batch_on : (old mid new : NodeParts) (writes : List BatchWrite) (receipts : List Receipt) (changes : List Published) (w : BatchWrite) (r : Receipt) (c : Published)
    → IsBatch old writes receipts changes mid → IsMadeWrite mid r.entry c new → r.entry.event ≡ event_written w → r.node ≡ mid.node → r.place ≡ mid.steps
    → mid.steps < 2 ^ 64 - 1 → IsBatch old (writes ++ w ∷ []) (receipts ++ r ∷ []) (changes ++ c ∷ []) new
batch_on old mid new writes receipts changes w r c b made is own at few =
    let e = r.entry in
    let known = made.known in
    let here : new.steps ≡ mid.steps + 1 = known.counts.steps ∙ min-eq_left (omega (arith, few)) in
    let entries : entries_of (receipts ++ r ∷ []) ≡ entries_of receipts ++ e ∷ [] = map-append (λ (x : Receipt). x.entry) receipts (r ∷ []) in record {
      events =
          ap (map (λ (x : Entry). x.event)) entries
          ∙ (map-append (λ (x : Entry). x.event) (entries_of receipts) (e ∷ [])
          ∙ ((λ i. b.events i ++ is i ∷ []) ∙ sym (map-append event_written writes (w ∷ []))));
      places = receipts_on old.node old.steps receipts r b.places (own ∙ b.node) (omega (arith, at, b.steps));
      run =
          subst (λ es. IsRunWith old es (changes ++ c ∷ []) new) (sym entries)
          (run_on (entries_of receipts) changes old mid new e (c ∷ []) b.run (record { step = known.step; published = made.published }));
      one_each = omega (arith, b.one_each, length-append changes (c ∷ []), length-append receipts (r ∷ []));
      makes =
          fold_push with_published old.table changes c
          ∙ (ap (λ t. with_published t c) b.makes
          ∙ put_in e.event e.reply mid.table new.table c known.grows.changes made.published.0 made.published.1);
      grows =
          grows_all_on old.table changes c b.grows
          (grows_by old.table changes e.event e.reply mid.table new.table (Some c) b.makes known.grows.changes known.lawful known.grows.descends made.published);
      lawful = known.lawful;
      keeps = λ key some. known.keeps key (b.keeps key some);
      held =
          All-push (λ (x : Published). find key_cmp x.key new.table ≢ None) changes c
          (All-weaker (λ (x : Published). find key_cmp x.key mid.table ≢ None) (λ (x : Published). find key_cmp x.key new.table ≢ None) (λ x there. known.keeps x.key there) changes b.held)
          (holds_changed e.event e.reply mid.table new.table known.grows.changes c.key made.published.0);
      node = known.counts.node ∙ b.node;
      life = known.counts.life ∙ b.life;
      steps = omega (arith, here, b.steps, length-append receipts (r ∷ []));
    }

-- the batch with what a write made is one write longer, and so is the journal
pub record GoesOn (old : NodeParts) (writes : List BatchWrite) (w : BatchWrite) (after : Batch) (before longer : List Entry) (new : NodeParts)
    : Type 0 where
  pub batch : IsBatch old (writes ++ w ∷ []) after.receipts.items after.changes.items new
  pub journal : longer ≡ before ++ entries_of after.receipts.items

pub goes_on : (made : Result (Entry × Published) LockFault) (old mid new : NodeParts) (writes : List BatchWrite) (w : BatchWrite) (batch after : Batch)
    (node place limit : ℕ) (before journal longer : List Entry) → IsOk made
    → IfOk made (λ m. Keeps batch after (record { node = node; place = place; entry = m.0 }) m.1) → IfOk made (λ m. IsMadeWrite mid m.0 m.1 new)
    → IfOk made (λ m. m.0.event ≡ event_written w) → IfOk made (λ m. longer ≡ journal ++ m.0 ∷ [])
    → OnOk made ((length journal < limit) × (mid.steps < 2 ^ 64 - 1)) → node ≡ mid.node → place ≡ mid.steps
    → IsBatch old writes batch.receipts.items batch.changes.items mid → journal ≡ before ++ entries_of batch.receipts.items
    → GoesOn old writes w after before longer new
goes_on (Ok m) old mid new writes w batch after node place limit before journal longer ok kept made event added few own at b was =
    let rs = batch.receipts.items in
    let r : Receipt = record { node = node; place = place; entry = m.0 } in
    let one = batch_on old mid new writes rs batch.changes.items w r m.1 b made event own at few.1 in record {
      batch =
          subst (λ receipts. IsBatch old (writes ++ w ∷ []) receipts after.changes.items new) (sym kept.receipts)
          (subst (λ changes. IsBatch old (writes ++ w ∷ []) (rs ++ r ∷ []) changes new) (sym kept.changes) one);
      journal =
          added ∙ (ap (λ l. l ++ m.0 ∷ []) was ∙ (append_assoc before (entries_of rs) (m.0 ∷ [])
          ∙ ap (λ l. before ++ l) (sym (map-append (λ (x : Receipt). x.entry) rs (r ∷ [])) ∙ ap entries_of (sym kept.receipts))));
    }
goes_on (Err fault) old mid new writes w batch after node place limit before journal longer ok kept made event added few own at b was =
    let clash : false ≡ true = ok in absurd (cc)

-- why the write isn't kept: it wasn't made, or memory ran out
pub not_kept : (made : Result (Entry × Published) LockFault) (fault : LockFault) (old : NodeParts) (event : NodeEvent) (limit count : ℕ)
    → IfErr made (Prevents old event limit count) → (made ≡ Err fault) ⊎ (fault ≡ Memory) → Prevents old event limit count fault
not_kept made fault old event limit count refused cause =
    ⊎_elim
    (λ (is : made ≡ Err fault). subst (λ (r : Result (Entry × Published) LockFault). IfErr r (Prevents old event limit count)) is refused)
    (λ (is : fault ≡ Memory). subst (λ f. Prevents old event limit count f) (sym is) tt)
    cause

pub as_many : (old new : NodeParts) (writes : List BatchWrite) (receipts : List Receipt) (changes : List Published) → IsBatch old writes receipts changes new
    → length receipts ≡ length writes
as_many old new writes receipts changes b =
    sym (length-map receipts (λ (r : Receipt). r.entry))
    ∙ (sym (length-map (entries_of receipts) (λ (e : Entry). e.event)) ∙ (ap length b.events ∙ length-map writes event_written))

-- if there was room for one write more, there was room for all
pub room_on : (made : Result (Entry × Published) LockFault) (old mid : NodeParts) (writes : List BatchWrite) (w : BatchWrite) (receipts : List Receipt)
    (changes : List Published) (limit : ℕ) (before journal : List Entry) → IsOk made
    → OnOk made ((length journal < limit) × (mid.steps < 2 ^ 64 - 1)) → IsBatch old writes receipts changes mid
    → journal ≡ before ++ entries_of receipts → HasRoomFor limit (length before) old (writes ++ w ∷ [])
room_on (Ok m) old mid writes w receipts changes limit before journal ok few b was = λ some.
    let long : length journal ≡ length before + length receipts =
    ap length was ∙ omega (arith, length-append before (entries_of receipts), length-map receipts (λ (r : Receipt). r.entry)) in
    let many = as_many old mid writes receipts changes b in
    (omega (arith, few.0, long, many, length-append writes (w ∷ [])), omega (arith, few.1, b.steps, many, length-append writes (w ∷ [])))
room_on (Err fault) old mid writes w receipts changes limit before journal ok few b was =
    let clash : false ≡ true = ok in absurd (cc)

-- ---- what a batch makes of a run

pub runs_join_with : (es fs : List Entry) (cs ds : List Published) (old mid new : NodeParts) → IsRunWith old es cs mid → IsRunWith mid fs ds new
    → IsRunWith old (es ++ fs) (cs ++ ds) new
runs_join_with [] fs cs ds old mid new run more =
    subst (λ l. IsRunWith old fs l new) (ap (λ l. l ++ ds) (sym run.0)) (subst (λ (s : NodeParts). IsRunWith s fs ds new) run.1 more)
runs_join_with (e ∷ es) fs cs ds old mid new run more = (
  run.0,
  run.1,
  run.2 ++ ds,
  run.3,
  ap (λ l. l ++ ds) run.4 ∙ append_assoc run.1 run.2 ds,
  runs_join_with es fs run.2 ds run.0 mid new run.5 more,
)

pub journaled_all : (base mid new : NodeParts) (journal entries : List Entry) (list changes : List Published) → IsJournaled base mid journal list
    → IsRunWith mid entries changes new → IsJournaled base new (journal ++ entries) (list ++ changes)
journaled_all base mid new journal entries list changes k run = record {
  before = k.before;
  published = k.published ++ changes;
  list_is = ap (λ l. l ++ changes) k.list_is ∙ append_assoc k.before k.published changes;
  run = runs_join_with journal entries k.published changes base mid new k.run run;
  whole = k.whole;
}

-- a write that is made or refused is never refused for want of room in the file
pub never_for_the_file : (place : ℕ) (old : NodeParts) (writes : List BatchWrite) (limit count : ℕ) → PreventsAt place old writes limit count FileFull → ⊥
never_for_the_file place old [] limit count p = p
never_for_the_file zero old (w ∷ writes) limit count p = p
never_for_the_file (suc place) old (w ∷ writes) limit count p = never_for_the_file place p.0 writes limit (count + 1) p.3

-- ---- a write is refused after those before it were made

prevented : (entries : List Entry) (changes : List Published) (writes : List BatchWrite) (old mid : NodeParts) (w : BatchWrite) (later : List BatchWrite)
    (limit count : ℕ) (fault : LockFault) → map (λ (e : Entry). e.event) entries ≡ map event_written writes → IsRunWith old entries changes mid
    → Prevents mid (event_written w) limit (count + length writes) fault → PreventsAt (length writes) old (writes ++ w ∷ later) limit count fault
prevented [] changes [] old mid w later limit count fault same run p =
    subst (λ (s : NodeParts). Prevents s (event_written w) limit count fault) run.1
    (subst (λ n. Prevents mid (event_written w) limit n fault) (omega arith) p)
prevented [] changes (v ∷ writes) old mid w later limit count fault same run p = absurd (cc)
prevented (e ∷ entries) changes [] old mid w later limit count fault same run p = absurd (cc)
prevented (e ∷ entries) changes (v ∷ writes) old mid w later limit count fault same run p =
    let is : e.event ≡ event_written v = cc in
    let rest : map (λ (x : Entry). x.event) entries ≡ map event_written writes = cc in (
      run.0,
      stepped_of e,
      subst (λ ev. IsNodeStep old ev run.0 (stepped_of e)) is run.3.step,
      prevented entries run.2 writes run.0 mid w later limit (count + 1) fault rest run.5
          (subst (λ n. Prevents mid (event_written w) limit n fault) (omega arith) p),
    )

pub prevents_at : (old mid : NodeParts) (writes : List BatchWrite) (receipts : List Receipt) (changes : List Published) (w : BatchWrite) (later : List BatchWrite)
    (limit count : ℕ) (fault : LockFault) → IsBatch old writes receipts changes mid
    → Prevents mid (event_written w) limit (count + length writes) fault → PreventsAt (length writes) old (writes ++ w ∷ later) limit count fault
prevents_at old mid writes receipts changes w later limit count fault b p =
    prevented (entries_of receipts) changes writes old mid w later limit count fault b.events b.run p

-- ---- what is stored of a batch is held

pub stored_all : (held : Table) (changes : List Published) (c : Contents) → IsStoredOf held c.table → All (λ (x : Published). find key_cmp x.key held ≢ None) changes
    → IsStoredOf held (fold with_record c (map row_record (stored_rows changes))).table
stored_all held [] c within there = within
stored_all held (x ∷ changes) c within there =
    stored_all held changes (with_record c (Object x.key x.object))
    (record {
      rising =
          is_true (is_sorted key_cmp (with_object x.key x.object c.table))
          (is_sorted-put key_cmp key_total x.key x.object c.table (subst T (sym within.rising) tt));
      keys = keeps_with c.table held x.key x.object within.keys (All-head (λ (x : Published). find key_cmp x.key held ≢ None) x changes there);
    })
    (All-tail (λ (x : Published). find key_cmp x.key held ≢ None) x changes there)

pub few_stored : (held stored : Table) → IsTable held → IsStoredOf held stored → length stored ≤ most_keys
few_stored held stored is within =
    let shorter = no_longer stored held (subst T (sym within.rising) tt) (subst T (sym is.rising) tt) within.keys in
    omega (arith, shorter, is.few)

-- ---- why it isn't stored

-- an object that a store may hold is refused for want of room alone
refused_row : (rows : List (Key × List Cell)) (place gate : ℕ) (fault : BatchFault) → All (λ (row : Key × List Cell). is_small_enough most_merged row.1 ≡ true) rows
    → refused_object place gate rows ≡ Some fault → (p : ℕ) × (fault ≡ batches.Object p OfFile.FileFull)
unfolding refused_object
refused_row [] place gate fault small is = absurd (cc)
refused_row (row ∷ rows) place gate fault small is =
    elim (refusal_of_append false gate row.0 row.1) as
    (λ (r : Option FileFault). refusal_of_append false gate row.0 row.1 ≡ r
    → at_place place r (refused_object (place + 1) (gate + record_size (row_record row)) rows) ≡ Some fault → (p : ℕ) × (fault ≡ batches.Object p OfFile.FileFull)) [
      | None ↦ λ e more.
          refused_row rows (place + 1) (gate + record_size (row_record row)) fault
          (All-tail (λ (row : Key × List Cell). is_small_enough most_merged row.1 ≡ true) row rows small) more
      | Some f ↦ λ e same.
          let full = full_alone gate row.0 row.1 f (All-head (λ (row : Key × List Cell). is_small_enough most_merged row.1 ≡ true) row rows small) e in
          (place, sym (some_is (batches.Object place f) fault same) ∙ ap (batches.Object place) full.0)
    ] refl is

refused_for_room : (rows : List (Key × List Cell)) (gate : ℕ) (fault : BatchFault) → All (λ (row : Key × List Cell). is_small_enough most_merged row.1 ≡ true) rows
    → length rows ≤ most_batch → refusal_of_batch false gate rows ≡ Some fault → (p : ℕ) × (fault ≡ batches.Object p OfFile.FileFull)
refused_for_room rows gate fault small few is =
    let fits : nat_lt most_batch (length rows) ≡ false = grind (arith, nat_tests) in
    refused_row rows 0 gate fault small (subst (λ b. (if b then Some batches.TooMany else refused_object 0 gate rows) ≡ Some fault) fits is)

small_rows : (changes : List Published) → All (λ (c : Published). IsHeld c.object) changes
    → All (λ (row : Key × List Cell). is_small_enough most_merged row.1 ≡ true) (stored_rows changes)
small_rows changes held =
    All-map (λ (row : Key × List Cell). is_small_enough most_merged row.1 ≡ true) (λ (c : Published). (c.key, c.object)) changes
    (All-weaker (λ (c : Published). IsHeld c.object) (λ (c : Published). is_small_enough most_merged c.object ≡ true) (λ c is. is.small) changes held)

none_unless : {A : Type 0} (o : Option A) → ((x : A) → o ≡ Some x → ⊥) → o ≡ None
none_unless None never = refl
none_unless (Some x) never = absurd (never x refl)

-- what ends otherwise than for want of room has room
has_room : {A : Type 0} (r : Result A BatchFault) (gate : ℕ) (changes : List Published) → All (λ (c : Published). IsHeld c.object) changes
    → length changes ≤ most_batch → ((place : ℕ) → r ≡ Err (batches.Object place OfFile.FileFull) → ⊥)
    → ((other : BatchFault) → refusal_of_batch false gate (stored_rows changes) ≡ Some other → r ≡ Err other) → HasFileRoomFor gate changes
has_room r gate changes held few otherwise only =
    let short : length (stored_rows changes) ≤ most_batch = omega (arith, length-map {B = Key × List Cell} changes (λ (c : Published). (c.key, c.object)), few) in
    none_unless (refusal_of_batch false gate (stored_rows changes))
    (λ other refused.
    let full = refused_for_room (stored_rows changes) gate other (small_rows changes held) short refused in
    otherwise full.0 (only other refused ∙ ap Err full.1))

of_device : {D : Type 0} (gate : ℕ) (changes : List Published) (before now : ℕ) (new : FileView D) (fault : BatchFault) → IsBatchOfDevice fault before now
    → (fault ≡ batches.File OfFile.Device → new.is_stopped ≡ true) → HasFileRoomFor gate changes → changes ≢ []
    → RefusesStoringAll gate changes before now new fault
of_device gate changes before now new batches.TooMany is stops room some = absurd is
of_device gate changes before now new (batches.Object place fault) is stops room some = absurd is
of_device gate changes before now new (batches.File fault) is stops room some =
    let P : FileFault → Type 0 = λ f. RefusesStoringAll gate changes before now new (batches.File f) in
    ⊎_elim
    (λ memory. subst P (sym memory.0) (some, λ _. room))
    (λ failed. subst P (sym failed.0) (some, (room, (failed.1, stops (ap batches.File failed.0)))))
    is

of_no_object : (r : Result (Unit {0}) BatchFault) (fault : BatchFault) (before now : ℕ) → r ≡ Err fault → IsBatchOfDevice fault before now → (place : ℕ)
    → r ≡ Err (batches.Object place OfFile.FileFull) → ⊥
of_no_object r batches.TooMany before now err is place same = is
of_no_object r (batches.Object at other) before now err is place same = is
of_no_object r (batches.File fault) before now err is place same = absurd (cc (err, same))

is_fault : (r : Result (Unit {0}) BatchFault) (fault other : BatchFault) → r ≡ Err fault → r ≡ Err other → fault ≡ other
is_fault r fault other err same = cc (err, same)

-- what is stored has room
pub room_of_all : (r : Result (Unit {0}) BatchFault) (halted : Bool) (gate : ℕ) (changes : List Published) (rows : List (Key × List Cell))
    → halted ≡ false → rows ≡ stored_rows changes → All (λ (c : Published). IsHeld c.object) changes → length changes ≤ most_batch
    → ((other : BatchFault) → refusal_of_batch halted gate rows ≡ Some other → r ≡ Err other)
    → OnOk r (HasFileRoomFor gate changes)
room_of_all (Err fault) halted gate changes rows off is held few only = tt
room_of_all (Ok done) halted gate changes rows off is held few only =
    has_room (Ok done) gate changes held few (λ place clash. absurd (cc (clash)))
    (λ other refused. only other
    (subst (λ b. refusal_of_batch b gate rows ≡ Some other) (sym off) (subst (λ ro. refusal_of_batch false gate ro ≡ Some other) (sym is) refused)))

pub refuses_all : {D : Type 0} (gate : ℕ) (changes : List Published) (before now : ℕ) (new : FileView D) (fault : BatchFault)
    → All (λ (c : Published). IsHeld c.object) changes → length changes ≤ most_batch
    → IsBatchOfDevice fault before now ⊎ (refusal_of_batch false gate (stored_rows changes) ≡ Some fault)
    → (fault ≡ batches.File OfFile.Device → new.is_stopped ≡ true)
    → ((other : BatchFault) → refusal_of_batch false gate (stored_rows changes) ≡ Some other → (fault ≡ other) × (new.is_stopped ≡ false))
    → changes ≢ [] → RefusesStoringAll gate changes before now new fault
refuses_all gate changes before now new fault held few cause stops goes some =
    ⊎_elim
    (λ device. of_device gate changes before now new fault device stops
    (has_room {A = Unit {0}} (Err fault) gate changes held few (of_no_object (Err fault) fault before now refl device) (λ other is. ap Err (goes other is).0)) some)
    (λ refused.
    let short : length (stored_rows changes) ≤ most_batch = omega (arith, length-map {B = Key × List Cell} changes (λ (c : Published). (c.key, c.object)), few) in
    let full = refused_for_room (stored_rows changes) gate fault (small_rows changes held) short refused in
    subst (λ f. RefusesStoringAll gate changes before now new f) (sym full.1)
    (subst (λ f. refusal_of_batch false gate (stored_rows changes) ≡ Some f) full.1 refused, (goes fault refused).1))
    cause

pub refuses_if_not : {D : Type 0} (r : Result (Unit {0}) BatchFault) (halted : Bool) (gate : ℕ) (changes : List Published) (rows : List (Key × List Cell))
    (before now : ℕ) (old new : FileView D) → halted ≡ false → old.is_stopped ≡ false → rows ≡ stored_rows changes
    → All (λ (c : Published). IsHeld c.object) changes → length changes ≤ most_batch
    → IfErr r (λ fault. IsBatchOfDevice fault before now ⊎ (refusal_of_batch halted gate rows ≡ Some fault))
    → IfErr r (λ fault. fault ≡ batches.File OfFile.Device → new.is_stopped ≡ true)
    → ((other : BatchFault) → refusal_of_batch halted gate rows ≡ Some other → (r ≡ Err other) × (new ≡ old))
    → (rows ≡ [] → halted ≡ false → IsOk r × (new ≡ old))
    → IfErr r (RefusesStoringAll gate changes before now new)
refuses_if_not (Ok done) halted gate changes rows before now old new off going is held few cause stops same none = tt
refuses_if_not (Err fault) halted gate changes rows before now old new off going is held few cause stops same none =
    let some : changes ≢ [] = λ nothing. let clash : false ≡ true = (none (is ∙ ap stored_rows nothing) off).0 in absurd (cc) in
    let here : (other : BatchFault) → refusal_of_batch false gate (stored_rows changes) ≡ Some other → refusal_of_batch halted gate rows ≡ Some other =
    λ other refused. subst (λ b. refusal_of_batch b gate rows ≡ Some other) (sym off) (subst (λ ro. refusal_of_batch false gate ro ≡ Some other) (sym is) refused) in
    refuses_all gate changes before now new fault held few
    (⊎_elim inl
    (λ refused. inr (subst (λ ro. refusal_of_batch false gate ro ≡ Some fault) is (subst (λ b. refusal_of_batch b gate rows ≡ Some fault) off refused)))
    cause)
    stops
    (λ other refused. let so = same other (here other refused) in
    (is_fault (Err fault) fault other refl so.0, ap (λ (f : FileView _). f.is_stopped) so.1 ∙ going))
    some
