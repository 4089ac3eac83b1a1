-- A file goes on to know the writes of its node.
use Rattle.std.proofs.Common.{◌≡◌, ◌≢◌, ◌≤◌, ℕ, List, [], ◌∷◌, ◌++◌, map, fold, All, Option, Some, None, Ok, Bool, true, false, cond, eqb, leb, ◌&&◌, refl, sym, ap, subst, ◌∙◌, inl, inr, ⊎_elim, ◌⊎◌, arith, append_assoc}
use Rattle.std.proofs.lemmas.Bool.{and_parts, eqb-true, le-leb, leb-true}
use Rattle.std.proofs.lemmas.List.{append-nil, map-append}
use Rattle.std.proofs.lemmas.List.Elements.{All-append, All-cons, All-nil, All-weaker}
use Rattle.std.specs.Option.{unwrap_or}
use Rattle.std.specs.Ordering.{is_eq}
use Rattle.std.specs.declared.cmp.Ordering.{Ordering}
use Rattle.std.specs.declared.cmp.Ordering.TheVariants.{Less, Equal, Greater}
use Rattle.std.specs.FinMap.{find}
use Rattle.std.specs.FinMap.Entries.{find-put}
use Rattle.meta_types.specs.Name.{Key}
use Rattle.meta_types.specs.Order.{key_cmp}
use Rattle.meta_store.specs.Table.{IsTable, Table, object_at, with_object}
use Rattle.meta_store.proofs.Keys.{key_total, same_key}
use Rattle.meta_store.proofs.Tables.{object_at-here}
use Rattle.dvvset.specs.Object.{Counter, Entry as Cell}
use Rattle.dvvset.specs.Clock.{count_for, descends, join}
use Rattle.devices.specs.Device.{IsDurable, LeavesOnly}
use Rattle.node_events.specs.Event.{stored_key}
use Rattle.node_events.specs.declared.event.NodeEvent.{NodeEvent}
use Rattle.node_events.specs.declared.event.NodeEvent.TheVariants.{Write, PutOver}
use Rattle.node_events.specs.declared.reply.Reply.{Reply}
use Rattle.node_events.specs.declared.reply.Reply.TheVariants.{Wrote}
use Rattle.node_core.specs.Growing.{ChangesUnder, Descends, TellsOf}
use Rattle.node_core.specs.Handling.{key_of_write}
use Rattle.node_core.specs.Node.{NodeParts, opening, writer}
use Rattle.node_core.specs.Run.{IsRun}
use Rattle.node_core.proofs.Growing.{descends_itself}
use Rattle.node_core.proofs.Runs.{runs_join}
use Rattle.node_file.specs.Clean.{row_record}
use Rattle.node_file.specs.File.{FileState, OpensLike, StandsFor, file_state, opened, state_or_none, state_with}
use Rattle.node_file.specs.Fold.{Contents, with_record}
use Rattle.node_file.specs.Stored.{LeavesRecord, object_record, record_under, with_stored}
use Rattle.node_file.specs.declared.record.Record.{Record}
use Rattle.node_file.specs.declared.record.Record.TheVariants.{Object}
use Rattle.node_journal.specs.declared.entry.Entry.{Entry}
use Rattle.node_journal.specs.Entry.{step_of}
use Rattle.node_readers.specs.Growth.{GrowsBy, GrowsByAll}
use Rattle.node_readers.specs.Published.{Published, with_all, with_published}
use Rattle.node_call.specs.Journaled.{IsJournaled, IsRunWith}
use Rattle.node_call.specs.Stored.{record_after, stored_rows}
use Rattle.node_call.proofs.Listing.{holds_changed}
use Rattle.node_call.proofs.Runs.{run_of}
use Rattle.node_desk.specs.Lasting.{IsFileWith, KeepsWrites, KnowsWrite, WritesStay}

-- ---- vectors

counted : (v w : List Counter) → descends v w ≡ true → (u : ℕ) → count_for w u ≤ count_for v u
counted v [] e u = omega arith
counted v (c ∷ cs) e u =
    let parts = and_parts (leb c.count (count_for v c.id)) (descends v cs) e in
    elim (eqb c.id u) as (λ b. eqb c.id u ≡ b → cond b c.count (count_for cs u) ≤ count_for v u) [
      | true ↦ λ q. subst (λ n. c.count ≤ count_for v n) (eqb-true c.id u q) (leb-true c.count (count_for v c.id) parts.0)
      | false ↦ λ q. counted v cs parts.1 u
    ] refl

-- what knows all that another one knows
descends_on : (third second first : List Counter) → descends third second ≡ true → descends second first ≡ true → descends third first ≡ true
descends_on third second [] more e = refl
descends_on third second (c ∷ cs) more e =
    let parts = and_parts (leb c.count (count_for second c.id)) (descends second cs) e in
    let one = leb-true c.count (count_for second c.id) parts.0 in
    let two = counted third second more c.id in
    let here : leb c.count (count_for third c.id) ≡ true = le-leb c.count (count_for third c.id) (omega (arith, one, two)) in
    (λ i. here i && descends third cs) ∙ descends_on third second cs more parts.1

all_descend : (one two three : Table) → Descends one two → Descends two three → Descends one three
all_descend one two three first second k =
    descends_on (join (object_at three k)) (join (object_at two k)) (join (object_at one k)) (second k) (first k)

-- ---- a table of a file and what is held

-- what is held knows what the file has, and that knows what the life opened with and the writes among these entries
pub record Remembers (opening held stored : Table) (entries : List Entry) : Type 0 where
  pub known : Descends stored held
  pub grows : Descends opening stored
  pub writes : All (KnowsWrite stored) entries

pub still_known : (opening old new stored : Table) (entries : List Entry) → Descends old new → Remembers opening old stored entries
    → Remembers opening new stored entries
still_known opening old new stored entries grows r =
    record { known = all_descend stored old new r.known grows; grows = r.grows; writes = r.writes }

-- with the object that is held under a key, the file knows all that it knew
put_knows : (held stored : Table) (key : Key) (o : List Cell) → Descends stored held → o ≡ object_at held key
    → (k : Key) (v : List Counter) → descends (join (object_at stored k)) v ≡ true
    → descends (join (object_at (with_object key o stored) k)) v ≡ true
put_knows held stored key o known is k v knows =
    subst (λ (found : Option (List Cell)). descends (join (unwrap_or found [])) v ≡ true) (sym (find-put key_cmp key_total k key o stored))
    (elim (key_cmp k key) as (λ (r : Ordering). key_cmp k key ≡ r → descends (join (unwrap_or (cond (is_eq r) (Some o) (find key_cmp k stored)) [])) v ≡ true) [
      | Less ↦ λ _. knows
      | Equal ↦ λ same.
          let here : k ≡ key = same_key k key same in
          let more : descends (join o) (join (object_at stored k)) ≡ true =
          subst (λ x. descends (join x) (join (object_at stored k)) ≡ true) (ap (object_at held) here ∙ sym is) (known k) in
          descends_on (join o) (join (object_at stored k)) v more knows
      | Greater ↦ λ _. knows
    ] refl)

-- with an object that is known to the other table too, the one is still known to it
put_known : (one other : Table) (key : Key) (o : List Cell) → Descends one other
    → descends (join (object_at other key)) (join o) ≡ true → Descends (with_object key o one) other
put_known one other key o known it k =
    subst (λ (found : Option (List Cell)). descends (join (object_at other k)) (join (unwrap_or found [])) ≡ true)
    (sym (find-put key_cmp key_total k key o one))
    (elim (key_cmp k key) as (λ (r : Ordering). key_cmp k key ≡ r → descends (join (object_at other k)) (join (unwrap_or (cond (is_eq r) (Some o) (find key_cmp k one)) [])) ≡ true) [
      | Less ↦ λ is. known k
      | Equal ↦ λ is. subst (λ (q : Key). descends (join (object_at other q)) (join o) ≡ true) (sym (same_key k key is)) it
      | Greater ↦ λ is. known k
    ] refl)

-- the object that is held under a key is put into the file
pub put_remembers : (opening held stored : Table) (key : Key) (o : List Cell) (entries : List Entry) → IsTable held → o ≡ object_at held key
    → Remembers opening held stored entries → Remembers opening held (with_object key o stored) entries
put_remembers opening held stored key o entries lawful is r = record {
  known =
      put_known stored held key o r.known
      (subst (λ x. descends (join (object_at held key)) (join x) ≡ true) (sym is) (descends_itself held lawful key));
  grows = λ k. put_knows held stored key o r.known is k (join (object_at opening k)) (r.grows k);
  writes =
      All-weaker (KnowsWrite stored) (KnowsWrite (with_object key o stored))
      (λ e knows k v at told. put_knows held stored key o r.known is k v (knows k v at told)) entries r.writes;
}

found_is : (key : Key) (held : Table) (o : List Cell) → find key_cmp key held ≡ Some o → o ≡ object_at held key
found_is key held o is = sym (ap (λ (found : Option (List Cell)). unwrap_or found []) is)

-- what a call stores is put into the file
pub stored_remembers : (opening : Table) (asked : Option Key) (held : Table) (file : FileState) (entries : List Entry) → IsTable held
    → Remembers opening held file.contents.table entries → Remembers opening held (with_stored (record_under asked held) file).contents.table entries
stored_remembers opening None held file entries lawful r = r
stored_remembers opening (Some key) held file entries lawful r =
    elim (find key_cmp key held) as
    (λ found. find key_cmp key held ≡ found → Remembers opening held (with_stored (object_record key found) file).contents.table entries) [
      | None ↦ λ _. r
      | Some o ↦ λ is. put_remembers opening held file.contents.table key o entries lawful (found_is key held o is) r
    ] refl

pub stored_known : (event : NodeEvent) (was held : Table) (before after : FileState) → IsTable held → Descends before.contents.table was
    → Descends was held → after ≡ with_stored (record_after event held) before → Descends after.contents.table held
stored_known event was held before after lawful known grows tells =
    subst (λ (s : FileState). Descends s.contents.table held) (sym tells)
    (stored_remembers [] (stored_key event) held before [] lawful (record {
      known = all_descend before.contents.table was held known grows;
      grows = λ k. refl;
      writes = All-nil (KnowsWrite before.contents.table);
    })).known

-- ---- a write is known once it is stored

stored_here : (key : Key) (held : Table) (file : FileState) → IsTable held → find key_cmp key held ≢ None
    → descends (join (object_at (with_stored (record_under (Some key) held) file).contents.table key)) (join (object_at held key)) ≡ true
stored_here key held file lawful there =
    elim (find key_cmp key held) as
    (λ found. find key_cmp key held ≡ found → descends (join (object_at (with_stored (object_record key found) file).contents.table key)) (join (object_at held key)) ≡ true) [
      | None ↦ λ none. absurd (there none)
      | Some o ↦ λ is.
          let same : object_at (with_object key o file.contents.table) key ≡ object_at held key =
          object_at-here key o file.contents.table ∙ found_is key held o is in
          subst (λ x. descends (join x) (join (object_at held key)) ≡ true) (sym same) (descends_itself held lawful key)
    ] refl

wrote_so : (key : Key) (held : Table) (file : FileState) (reply : Reply) → IsTable held → find key_cmp key held ≢ None
    → reply ≡ Wrote (join (object_at held key)) → (k : Key) (v : List Counter) → Some key ≡ Some k → reply ≡ Wrote v
    → descends (join (object_at (with_stored (record_under (Some key) held) file).contents.table k)) v ≡ true
wrote_so key held file reply lawful there told k v at also =
    let same : key ≡ k = cc (at) in
    let vector : join (object_at held key) ≡ v = cc (told, also) in
    subst (λ x. descends (join (object_at (with_stored (record_under (Some key) held) file).contents.table x)) v ≡ true) same
    (subst (λ x. descends (join (object_at (with_stored (record_under (Some key) held) file).contents.table key)) x ≡ true) vector (stored_here key held file lawful there))

own_known : (w : ℕ) (event : NodeEvent) (reply : Reply) (held : Table) (file : FileState) → IsTable held → TellsOf w event reply held
    → ((key : Key) → key_of_write event ≡ Some key → find key_cmp key held ≢ None)
    → (k : Key) (v : List Counter) → key_of_write event ≡ Some k → reply ≡ Wrote v
    → descends (join (object_at (with_stored (record_after event held) file).contents.table k)) v ≡ true
own_known w (Write key value context) reply held file lawful tells there k v at told =
    wrote_so key held file reply lawful (there key refl) tells.vector k v at told
own_known w (PutOver key value) reply held file lawful tells there k v at told =
    wrote_so key held file reply lawful (there key refl) tells.vector k v at told
own_known w _ reply held file lawful tells there k v at told = absurd (cc (at))

-- the entry of a step, of which this is held then
pub knows_own : (w : ℕ) (e : Entry) (held : Table) (file : FileState) → IsTable held → TellsOf w e.event e.reply held
    → ((key : Key) → key_of_write e.event ≡ Some key → find key_cmp key held ≢ None)
    → KnowsWrite (with_stored (record_after e.event held) file).contents.table e
knows_own w e held file lawful tells there = own_known w e.event e.reply held file lawful tells there

-- what an event wrote is held
pub written_there : (event : NodeEvent) (reply : Reply) (old new : Table) → ChangesUnder event reply old new
    → (key : Key) → key_of_write event ≡ Some key → find key_cmp key new ≢ None
written_there (Write k value context) reply old new under key at =
    let here : k ≡ key = cc (at) in
    holds_changed (Write k value context) reply old new under key (sym here)
written_there (PutOver k value) reply old new under key at =
    let here : k ≡ key = cc (at) in
    holds_changed (PutOver k value) reply old new under key (sym here)
written_there _ reply old new under key at = absurd (cc (at))

-- what the file holds is known to what is held, if both are the table with which it opened
pub file_known : (opened held stored : Table) → IsTable opened → held ≡ opened → stored ≡ opened → Descends stored held
file_known opened held stored lawful at_held at_stored =
    subst (λ (t : Table). Descends stored t) (sym at_held) (subst (λ (t : Table). Descends t opened) (sym at_stored) (descends_itself opened lawful))

-- ---- a file

pub same_file : (node life : ℕ) (table : Table) (entries : List Entry) (old bytes : List ℕ) → OpensLike old bytes → IsFileWith node life table entries old
    → IsFileWith node life table entries bytes
same_file node life table entries old bytes like f =
    let same : file_state bytes ≡ file_state old = ap state_or_none like in record {
      gate = f.gate;
      opens = like ∙ (f.opens ∙ ap (λ (s : FileState). Ok (s, f.gate)) (sym same));
      version = ap (λ (s : FileState). s.version) same ∙ f.version;
      node_is = ap (λ (s : FileState). s.node) same ∙ f.node_is;
      life_is = ap (λ (s : FileState). s.contents.life) same ∙ f.life_is;
      grows = subst (λ (s : FileState). Descends table s.contents.table) (sym same) f.grows;
      writes = subst (λ (s : FileState). All (KnowsWrite s.contents.table) entries) (sym same) f.writes;
    }

-- what is stored is of the same node and life
pub record IsOfFile (node life : ℕ) (s : FileState) : Type 0 where
  pub version : s.version ≡ 2
  pub node_is : s.node ≡ node
  pub life_is : s.contents.life ≡ life

pub of_file : (node life : ℕ) (table : Table) (entries : List Entry) (bytes : List ℕ) → IsFileWith node life table entries bytes → IsOfFile node life (file_state bytes)
of_file node life table entries bytes f = record { version = f.version; node_is = f.node_is; life_is = f.life_is }

stored_of : (node life : ℕ) (asked : Option Key) (held : Table) (s : FileState) → IsOfFile node life s
    → IsOfFile node life (with_stored (record_under asked held) s)
stored_of node life None held s is = is
stored_of node life (Some key) held s is =
    elim (find key_cmp key held) as (λ found. IsOfFile node life (with_stored (object_record key found) s)) [
      | None ↦ is
      | Some o ↦ record { version = is.version; node_is = is.node_is; life_is = is.life_is }
    ]

pub standing : (node life : ℕ) (table : Table) (entries : List Entry) (s : FileState) (bytes : List ℕ) → StandsFor s bytes → IsOfFile node life s
    → Descends table s.contents.table → All (KnowsWrite s.contents.table) entries → IsFileWith node life table entries bytes
standing node life table entries s bytes stands is grows writes =
    let same : file_state bytes ≡ s = ap state_or_none stands.1 in record {
      gate = stands.0;
      opens = stands.1 ∙ ap (λ (f : FileState). Ok (f, stands.0)) (sym same);
      version = ap (λ (f : FileState). f.version) same ∙ is.version;
      node_is = ap (λ (f : FileState). f.node) same ∙ is.node_is;
      life_is = ap (λ (f : FileState). f.contents.life) same ∙ is.life_is;
      grows = subst (λ (f : FileState). Descends table f.contents.table) (sym same) grows;
      writes = subst (λ (f : FileState). All (KnowsWrite f.contents.table) entries) (sym same) writes;
    }

-- ---- lives

knows_on : (stored later : Table) (e : Entry) → Descends stored later → KnowsWrite stored e → KnowsWrite later e
knows_on stored later e grows knows k v at told =
    descends_on (join (object_at later k)) (join (object_at stored k)) v (grows k) (knows k v at told)

pub writes_stay : WritesStay
writes_stay = record {
  next = λ node life next known entries bytes f is. omega (arith, f.life_is, is);
  later = λ node life later known first second bytes last f g.
      let before = (file_state bytes).contents.table in
      let now = (file_state last).contents.table in record {
        gate = g.gate;
        opens = g.opens;
        version = g.version;
        node_is = g.node_is;
        life_is = g.life_is;
        grows = all_descend known before now f.grows g.grows;
        writes =
            All-append (KnowsWrite now) first second
            (All-weaker (KnowsWrite before) (KnowsWrite now) (λ e. knows_on before now e g.grows) first f.writes) g.writes;
      };
}

-- ---- what a crash leaves of a call

left_under : (node life : ℕ) (table : Table) (entries : List Entry) (content : List ℕ) (asked : Option Key) (held : Table) (bytes : List ℕ) → IsTable held
    → Remembers table held (file_state content).contents.table entries → IsFileWith node life table entries content
    → LeavesRecord content (record_under asked held) bytes → IsFileWith node life table entries bytes
left_under node life table entries content None held bytes lawful r f left = same_file node life table entries content bytes left f
left_under node life table entries content (Some key) held bytes lawful r f left =
    elim (find key_cmp key held) as
    (λ found. find key_cmp key held ≡ found → LeavesRecord content (object_record key found) bytes → IsFileWith node life table entries bytes) [
      | None ↦ λ _ like. same_file node life table entries content bytes like f
      | Some o ↦ λ is left. ⊎_elim
          (λ like. same_file node life table entries content bytes like f)
          (λ stands.
          let s = file_state content in
          let more = put_remembers table held s.contents.table key o entries lawful (found_is key held o is) r in
          standing node life table entries (state_with s (Object key o)) bytes stands
          (record { version = f.version; node_is = f.node_is; life_is = f.life_is }) more.grows more.writes)
          left
    ] refl left

module _ {D : Type 0} (content : D → List ℕ) (may_leave : D → List ℕ → Type 0) (moment : D → ℕ)
    (left_since : D → ℕ → List ℕ → Type 0) (node life : ℕ) (table : Table) where
  -- the device of a call that stored something under a key that was asked for, or nothing, or a front of it
  pub keeps_left : (counts : (d : D) (t : ℕ) (c : List ℕ) → t ≤ moment d → may_leave d c → left_since d t c) (base : NodeParts)
      (journal : List Entry) (old new : D) (asked : Option Key) (was held : Table) → may_leave old (content old) → IsTable held
      → Descends (file_state (content old)).contents.table was → Descends was held
      → LeavesOnly moment left_since old new (LeavesRecord (content old) (record_under asked held))
      → KeepsWrites may_leave node life table base journal old → KeepsWrites may_leave node life table base journal new
  keeps_left counts base journal old new asked was held read lawful known grows leaves kept = record {
    before = kept.before;
    run = kept.run;
    leaves = λ bytes left.
        let f = kept.leaves (content old) read in
        left_under node life table (kept.before ++ journal) (content old) asked held bytes lawful
        (record { known = all_descend (file_state (content old)).contents.table was held known grows; grows = f.grows; writes = f.writes }) f
        (leaves.each bytes (counts new (moment old) bytes leaves.later left));
  }

  -- the device of a call that stored what it was to store
  pub keeps_stored : (base : NodeParts) (journal : List Entry) (e : Entry) (old new : D) (gate : ℕ) (w : ℕ) (was held : Table)
      → may_leave old (content old) → IsTable held → Descends (file_state (content old)).contents.table was → Descends was held
      → TellsOf w e.event e.reply held → ((key : Key) → key_of_write e.event ≡ Some key → find key_cmp key held ≢ None)
      → file_state (content new) ≡ with_stored (record_after e.event held) (file_state (content old))
      → opened None (content new) ≡ Ok (file_state (content new), gate) → IsDurable (content new) (may_leave new)
      → KeepsWrites may_leave node life table base journal old → KeepsWrites may_leave node life table base (journal ++ e ∷ []) new
  keeps_stored base journal e old new gate w was held read lawful known grows tells there told opens durable kept =
      let f = kept.leaves (content old) read in
      let s = file_state (content old) in
      let all = kept.before ++ journal in
      let r : Remembers table held s.contents.table all =
      record { known = all_descend s.contents.table was held known grows; grows = f.grows; writes = f.writes } in
      let after = stored_remembers table (stored_key e.event) held s all lawful r in
      let more = with_stored (record_after e.event held) s in
      let writes : All (KnowsWrite more.contents.table) (all ++ e ∷ []) =
      All-append (KnowsWrite more.contents.table) all (e ∷ []) after.writes
      (All-cons (KnowsWrite more.contents.table) e [] (knows_own w e held s lawful tells there) (All-nil (KnowsWrite more.contents.table))) in
      let file : IsFileWith node life table (all ++ e ∷ []) (content new) =
      standing node life table (all ++ e ∷ []) more (content new) (gate, opens ∙ ap (λ (x : FileState). Ok (x, gate)) told)
      (stored_of node life (stored_key e.event) held s (of_file node life table all (content old) f)) after.grows writes in record {
        before = kept.before;
        run = kept.run;
        leaves = λ bytes left.
            subst (IsFileWith node life table (kept.before ++ (journal ++ e ∷ []))) (sym (durable bytes left))
            (subst (λ es. IsFileWith node life table es (content new)) (append_assoc kept.before journal (e ∷ [])) file);
      }

  -- a desk's new file
  pub keeps_new : (base : NodeParts) (device : D) (gate : ℕ) → IsTable table → (file_state (content device)).contents.table ≡ table → base ≡ opening node life table
      → opened None (content device) ≡ Ok (file_state (content device), gate) → (file_state (content device)).version ≡ 2
      → (file_state (content device)).node ≡ node → (file_state (content device)).contents.life ≡ life
      → IsDurable (content device) (may_leave device) → KeepsWrites may_leave node life table base [] device
  keeps_new base device gate lawful same is opens version node_is life_is durable = record {
    before = [];
    run = is;
    leaves = λ bytes left. subst (IsFileWith node life table []) (sym (durable bytes left)) (record {
      gate = gate;
      opens = opens;
      version = version;
      node_is = node_is;
      life_is = life_is;
      grows = subst (Descends table) (sym same) (descends_itself table lawful);
      writes = All-nil (KnowsWrite (file_state (content device)).contents.table);
    });
  }

  -- the journal goes into the base
  pub keeps_cut : (base state : NodeParts) (journal : List Entry) (list : List Published) (device : D) → IsJournaled base state journal list
      → KeepsWrites may_leave node life table base journal device → KeepsWrites may_leave node life table state [] device
  keeps_cut base state journal list device is kept = record {
    before = kept.before ++ journal;
    run =
        subst (λ steps. IsRun (opening node life table) steps state) (sym (map-append step_of kept.before journal))
        (runs_join.joins (map step_of kept.before) (map step_of journal) (opening node life table) base state kept.run (run_of journal is.published base state is.run));
    leaves = λ bytes left. subst (λ es. IsFileWith node life table es bytes) (sym (append-nil (kept.before ++ journal))) (kept.leaves bytes left);
  }
