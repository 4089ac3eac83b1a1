-- A file goes on to know the writes of its node, also those of a batch.
use Rattle.std.proofs.Common.{◌≡◌, ◌≢◌, ◌≤◌, ℕ, List, [], ◌∷◌, ◌++◌, map, fold, All, Option, Some, None, Ok, true, refl, sym, ap, subst, ◌∙◌, ⊎_elim, append_assoc}
use Rattle.std.proofs.lemmas.List.{append-nil}
use Rattle.std.proofs.lemmas.List.Elements.{All-append, All-cons, All-head, All-nil, All-tail}
use Rattle.meta_types.specs.Name.{Key}
use Rattle.meta_store.specs.Table.{IsTable, Table, object_at, with_object}
use Rattle.meta_store.proofs.Tables.{object_at-here}
use Rattle.dvvset.specs.Object.{Counter, Entry as Cell}
use Rattle.dvvset.specs.Clock.{descends, join}
use Rattle.devices.specs.Device.{IsDurable, LeavesOnly}
use Rattle.node_events.specs.declared.event.NodeEvent.{NodeEvent}
use Rattle.node_events.specs.declared.event.NodeEvent.TheVariants.{Write, PutOver}
use Rattle.node_events.specs.declared.reply.Reply.{Reply}
use Rattle.node_events.specs.declared.reply.Reply.TheVariants.{Wrote}
use Rattle.node_core.specs.Growing.{Descends, IsKeyChanged}
use Rattle.node_core.specs.Handling.{key_of_write}
use Rattle.node_core.specs.Node.{NodeParts, vector_under}
use Rattle.node_core.specs.Rows.{Local}
use Rattle.node_core.specs.Step.{IsNodeStep, IsStepOf}
use Rattle.node_core.specs.declared.state.Stepped.{Stepped}
use Rattle.node_core.proofs.Growing.{descends_itself}
use Rattle.node_core.proofs.Outcomes.{one_input}
use Rattle.node_file.specs.Batch.{NoneOrAll, state_with_all}
use Rattle.node_file.specs.Clean.{row_record}
use Rattle.node_file.specs.File.{FileState, file_state, opened}
use Rattle.node_file.specs.Fold.{Contents, with_record}
use Rattle.node_file.specs.declared.record.Record.TheVariants.{Object}
use Rattle.node_journal.specs.declared.entry.Entry.{Entry}
use Rattle.node_journal.specs.declared.receipt.Receipt.{Receipt}
use Rattle.node_journal.specs.Entry.{stepped_of}
use Rattle.node_readers.specs.Growth.{GrowsByAll}
use Rattle.node_readers.specs.Published.{Published, with_all, with_published}
use Rattle.node_call.specs.Batch.{IsBatch, IsWrite, entries_of, event_written}
use Rattle.node_call.specs.Journaled.{IsPublishedBy, IsRunWith}
use Rattle.node_call.specs.Stored.{stored_rows}
use Rattle.node_call.specs.declared.write.Write.{Write as BatchWrite}
use Rattle.node_call.specs.declared.write.Write.TheVariants.{Put, PutOver as Over}
use Rattle.node_desk.specs.Lasting.{IsFileWith, KeepsWrites, KnowsWrite}
use Rattle.node_desk.proofs.Lasting.{IsOfFile, Remembers, of_file, put_remembers, same_file, standing, still_known}

-- ---- what a write of a batch publishes

writes_vector : (old new : NodeParts) (event : NodeEvent) (s : Stepped) (key : Key) → key_of_write event ≡ Some key
    → IsNodeStep old event new s → s.reply ≡ Wrote (join (object_at new.table key))
writes_vector old new (Write k value context) s key at step =
    let same = one_input (Write k value context) step.input (Local (Write k value context)) step.is_input refl in
    let so : IsStepOf old (Local (Write k value context)) new s = subst (λ i. IsStepOf old i new s) same step.step in
    let here : k ≡ key = cc (at) in
    so.replies ∙ (ap (λ (p : NodeParts). Wrote (vector_under k p)) (sym so.node) ∙ ap (λ x. Wrote (join (object_at new.table x))) here)
writes_vector old new (PutOver k value) s key at step =
    let same = one_input (PutOver k value) step.input (Local (PutOver k value)) step.is_input refl in
    let so : IsStepOf old (Local (PutOver k value)) new s = subst (λ i. IsStepOf old i new s) same step.step in
    let here : k ≡ key = cc (at) in
    so.replies ∙ (ap (λ (p : NodeParts). Wrote (vector_under k p)) (sym so.node) ∙ ap (λ x. Wrote (join (object_at new.table x))) here)
writes_vector old new _ s key at step = absurd (cc (at))

-- the change has the object that the entry wrote
record IsWritten (e : Entry) (x : Published) : Type 0 where
  told : (key : Key) (vector : List Counter) → key_of_write e.event ≡ Some key → e.reply ≡ Wrote vector
      → (x.key ≡ key) × (vector ≡ join x.object)

changed_key : (event : NodeEvent) (reply : Reply) (k key : Key) → IsKeyChanged event reply k → key_of_write event ≡ Some key → k ≡ key
changed_key (Write key value context) reply k other changed at = let here : key ≡ other = cc (at) in changed ∙ here
changed_key (PutOver key value) reply k other changed at = let here : key ≡ other = cc (at) in changed ∙ here
changed_key _ reply k other changed at = absurd (cc (at))

changes_one : (event : NodeEvent) (reply : Reply) (held : Table) → IsWrite event → ((key : Key) → IsKeyChanged event reply key → ⊥) → ⊥
changes_one (Write key value context) reply held is none = none key refl
changes_one (PutOver key value) reply held is none = none key refl
changes_one _ reply held is none = is

written : (old new : NodeParts) (e : Entry) (first : List Published) → IsWrite e.event → IsNodeStep old e.event new (stepped_of e)
    → IsPublishedBy e.event e.reply new.table first → (x : Published) × ((first ≡ x ∷ []) × IsWritten e x)
written old new e [] is step published = absurd (changes_one e.event e.reply new.table is published)
written old new e (x ∷ []) is step published = (
  x,
  (
    refl,
    record {
      told = λ key vector at told.
          let here : x.key ≡ key = changed_key e.event e.reply x.key key published.0 at in
          let said = writes_vector old new e.event (stepped_of e) key at step in
          let same : vector ≡ join (object_at new.table key) = cc (told, said) in
          (here, same ∙ ap (λ k. join (object_at new.table k)) (sym here) ∙ ap join (sym published.1));
    },
  ),
)
written old new e (x ∷ y ∷ more) is step published = absurd published

-- ---- a batch

All-front : {A : Type 0} (P : A → Type 0) (xs ys : List A) → All P (xs ++ ys) → All P xs
All-front P [] ys h = All-nil P
All-front P (x ∷ xs) ys h = All-cons P x xs (All-head P x (xs ++ ys) h) (All-front P xs ys (All-tail P x (xs ++ ys) h))

-- the entry is known where its object is held
knows_written : (t stored : Table) (e : Entry) (x : Published) → IsTable (with_published t x) → IsWritten e x
    → KnowsWrite (with_object x.key x.object stored) e
knows_written t stored e x lawful is key vector at told =
    let so = is.told key vector at told in
    let itself : descends (join x.object) (join x.object) ≡ true =
    subst (λ o. descends (join o) (join o) ≡ true) (object_at-here x.key x.object t) (descends_itself (with_published t x) lawful x.key) in
    subst (λ k. descends (join (object_at (with_object x.key x.object stored) k)) vector ≡ true) so.0
    (subst (λ v. descends (join (object_at (with_object x.key x.object stored) x.key)) v ≡ true) (sym so.1)
    (subst (λ o. descends (join o) (join x.object) ≡ true) (sym (object_at-here x.key x.object stored)) itself))

run_remembers : (opening : Table) (es : List Entry) (cs : List Published) (old new : NodeParts) (t : Table) (c : Contents) (done : List Entry)
    → IsRunWith old es cs new → All (λ (e : Entry). IsWrite e.event) es → GrowsByAll t cs → Remembers opening t c.table done
    → Remembers opening (with_all t cs) (fold with_record c (map row_record (stored_rows cs))).table (done ++ es)
run_remembers opening [] cs old new t c done run writes grows r =
    subst (λ cs. Remembers opening (with_all t cs) (fold with_record c (map row_record (stored_rows cs))).table (done ++ [])) (sym run.0)
    (subst (Remembers opening t c.table) (sym (append-nil done)) r)
run_remembers opening (e ∷ es) cs old new t c done run writes grows r =
    let one = written old run.0 e run.1 (All-head (λ (e : Entry). IsWrite e.event) e es writes) run.3.step run.3.published in
    let x = one.0 in
    let later = run.2 in
    let is : cs ≡ x ∷ later = run.4 ∙ ap (λ l. l ++ later) one.1.0 in
    let grown = subst (GrowsByAll t) is grows in
    let put : Remembers opening (with_published t x) (with_object x.key x.object c.table) done =
    put_remembers opening (with_published t x) c.table x.key x.object done grown.0.is_table (sym (object_at-here x.key x.object t))
    (still_known opening t (with_published t x) c.table done grown.0.descends r) in
    let more : Remembers opening (with_published t x) (with_object x.key x.object c.table) (done ++ e ∷ []) = record {
      known = put.known;
      grows = put.grows;
      writes =
          All-append (KnowsWrite (with_object x.key x.object c.table)) done (e ∷ []) put.writes
          (All-cons (KnowsWrite (with_object x.key x.object c.table)) e [] (knows_written t c.table e x grown.0.is_table one.1.1) (All-nil (KnowsWrite (with_object x.key x.object c.table))));
    } in
    let rest = run_remembers opening es later run.0 new (with_published t x) (with_record c (Object x.key x.object)) (done ++ e ∷ []) run.5
    (All-tail (λ (e : Entry). IsWrite e.event) e es writes) grown.1 more in
    subst (λ cs. Remembers opening (with_all t cs) (fold with_record c (map row_record (stored_rows cs))).table (done ++ e ∷ es)) (sym is)
    (subst (Remembers opening (with_all t (x ∷ later)) (fold with_record c (map row_record (stored_rows (x ∷ later)))).table) (append_assoc done (e ∷ []) es) rest)

is_write : (w : BatchWrite) → IsWrite (event_written w)
is_write (Put key value context) = tt
is_write (Over key value) = tt

are_writes : (es : List Entry) (ws : List BatchWrite) → map (λ (e : Entry). e.event) es ≡ map event_written ws → All (λ (e : Entry). IsWrite e.event) es
are_writes [] ws same = All-nil (λ (e : Entry). IsWrite e.event)
are_writes (e ∷ es) [] same = absurd (cc (same))
are_writes (e ∷ es) (w ∷ ws) same =
    let first : e.event ≡ event_written w = cc (same) in
    let rest : map (λ (x : Entry). x.event) es ≡ map event_written ws = cc (same) in
    All-cons (λ (e : Entry). IsWrite e.event) e es (subst IsWrite (sym first) (is_write w)) (are_writes es ws rest)

pub batch_remembers : (opening : Table) (old new : NodeParts) (writes : List BatchWrite) (receipts : List Receipt) (changes : List Published) (s : FileState)
    (done : List Entry) → IsBatch old writes receipts changes new → Remembers opening old.table s.contents.table done
    → Remembers opening new.table (state_with_all s (map row_record (stored_rows changes))).contents.table (done ++ entries_of receipts)
batch_remembers opening old new writes receipts changes s done b r =
    subst (λ t. Remembers opening t (state_with_all s (map row_record (stored_rows changes))).contents.table (done ++ entries_of receipts)) b.makes
    (run_remembers opening (entries_of receipts) changes old new old.table s.contents done b.run (are_writes (entries_of receipts) writes b.events) b.grows r)

pub batch_known : (old new : NodeParts) (writes : List BatchWrite) (receipts : List Receipt) (changes : List Published) (before after : FileState)
    → IsBatch old writes receipts changes new → Descends before.contents.table old.table
    → after ≡ state_with_all before (map row_record (stored_rows changes)) → Descends after.contents.table new.table
batch_known old new writes receipts changes before after b known tells =
    subst (λ (s : FileState). Descends s.contents.table new.table) (sym tells)
    (batch_remembers [] old new writes receipts changes before [] b (record { known = known; grows = λ k. refl; writes = All-nil (KnowsWrite before.contents.table) })).known

-- objects change neither node nor life
same_life : (cs : List Published) (c : Contents) → (fold with_record c (map row_record (stored_rows cs))).life ≡ c.life
same_life [] c = refl
same_life (x ∷ cs) c = same_life cs (with_record c (Object x.key x.object))

of_batch : (node life : ℕ) (changes : List Published) (s : FileState) → IsOfFile node life s
    → IsOfFile node life (state_with_all s (map row_record (stored_rows changes)))
of_batch node life changes s is = record { version = is.version; node_is = is.node_is; life_is = same_life changes s.contents ∙ is.life_is }

module _ {D : Type 0} (content : D → List ℕ) (may_leave : D → List ℕ → Type 0) (moment : D → ℕ)
    (left_since : D → ℕ → List ℕ → Type 0) (node life : ℕ) (table : Table) where
  -- the device of a batch that was stored, or a front of it
  pub keeps_left_all : (counts : (d : D) (t : ℕ) (c : List ℕ) → t ≤ moment d → may_leave d c → left_since d t c) (base : NodeParts)
      (journal : List Entry) (old new : D) (from to : NodeParts) (writes : List BatchWrite) (receipts : List Receipt) (changes : List Published)
      → may_leave old (content old) → Descends (file_state (content old)).contents.table from.table
      → IsBatch from writes receipts changes to
      → LeavesOnly moment left_since old new (NoneOrAll (content old) (map row_record (stored_rows changes)))
      → KeepsWrites may_leave node life table base journal old → KeepsWrites may_leave node life table base journal new
  keeps_left_all counts base journal old new from to writes receipts changes read known b leaves kept = record {
    before = kept.before;
    run = kept.run;
    leaves = λ bytes left.
        let f = kept.leaves (content old) read in
        let s = file_state (content old) in
        let all = kept.before ++ journal in
        let after = batch_remembers table from to writes receipts changes s all b (record { known = known; grows = f.grows; writes = f.writes }) in
        let more = state_with_all s (map row_record (stored_rows changes)) in
        ⊎_elim
        (λ like. same_file node life table all (content old) bytes like f)
        (λ stands. standing node life table all more bytes stands (of_batch node life changes s (of_file node life table all (content old) f)) after.grows
        (All-front (KnowsWrite more.contents.table) all (entries_of receipts) after.writes))
        (leaves.each bytes (counts new (moment old) bytes leaves.later left));
  }

  pub keeps_stored_all : (base : NodeParts) (journal : List Entry) (old new : D) (gate : ℕ) (from to : NodeParts) (writes : List BatchWrite)
      (receipts : List Receipt) (changes : List Published)
      → may_leave old (content old) → Descends (file_state (content old)).contents.table from.table
      → IsBatch from writes receipts changes to
      → file_state (content new) ≡ state_with_all (file_state (content old)) (map row_record (stored_rows changes))
      → opened None (content new) ≡ Ok (file_state (content new), gate) → IsDurable (content new) (may_leave new)
      → KeepsWrites may_leave node life table base journal old
      → KeepsWrites may_leave node life table base (journal ++ entries_of receipts) new
  keeps_stored_all base journal old new gate from to writes receipts changes read known b told opens durable kept =
      let f = kept.leaves (content old) read in
      let s = file_state (content old) in
      let all = kept.before ++ journal in
      let after = batch_remembers table from to writes receipts changes s all b (record { known = known; grows = f.grows; writes = f.writes }) in
      let more = state_with_all s (map row_record (stored_rows changes)) in
      let file : IsFileWith node life table (all ++ entries_of receipts) (content new) =
      standing node life table (all ++ entries_of receipts) more (content new) (gate, opens ∙ ap (λ (x : FileState). Ok (x, gate)) told)
      (of_batch node life changes s (of_file node life table all (content old) f)) after.grows after.writes in record {
        before = kept.before;
        run = kept.run;
        leaves = λ bytes left.
            subst (IsFileWith node life table (kept.before ++ (journal ++ entries_of receipts))) (sym (durable bytes left))
            (subst (λ es. IsFileWith node life table es (content new)) (append_assoc kept.before journal (entries_of receipts)) file);
      }
