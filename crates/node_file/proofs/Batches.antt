-- Many objects at once: what their records are together, and which are refused.
use Rattle.std.proofs.Common.{◌≡◌, ◌≢◌, get_or, ℕ, ◌+◌, ◌-◌, ◌<◌, ◌≤◌, List, [], ◌∷◌, ◌++◌, length, take, drop, map, fold, All, Bool, Option, Some, None, true, false, cond, nat_lt, ◌==◌, Ok, refl, sym, ◌∙◌, ap, subst, arith, append-nil, append_assoc, take-append-drop}
use Rattle.std.proofs.lemmas.Bool.{eqb-true}
use Rattle.std.proofs.lemmas.List.{drop_all, drop_more, map_push, take_all, take_more}
use Rattle.std.proofs.lemmas.List.Elements.{All-cons, All-nil, All-append}
use Rattle.meta_types.specs.Name.{Key}
use Rattle.dvvset.specs.Object.{Entry}
use Rattle.meta_store.specs.Table.{Table, most_keys}
use Rattle.node_file.specs.declared.fault.FileFault.{FileFault}
use Rattle.node_file.specs.declared.batch_fault.BatchFault.{BatchFault}
use Rattle.node_file.specs.declared.batch_fault.BatchFault.TheVariants as batches
use Rattle.node_file.specs.declared.record.Record.{Record}
use Rattle.node_file.specs.Record.{IsRecord, payload, record_bytes}
use Rattle.node_file.specs.Fold.{Contents, with_record}
use Rattle.devices.specs.Device.{IsDurable}
use Rattle.node_file.specs.File.{FileState, file_state, opened, record_size}
use Rattle.node_file.specs.View.{FileView, IsSettled}
use Rattle.node_file.specs.Clean.{behind_gates, row_record}
use Rattle.node_file.specs.Batch.{AreAppended, CanTakeAll, EachFollows, at_place, batch_bytes, batch_size, behind_first, most_batch, refusal_of_batch, refused_object, state_with_all}
use Rattle.node_file.specs.Refusal.{most_file, refusal_of_append}
use Rattle.node_file.proofs.Folding.{one_more}
use Rattle.node_file.proofs.Limits.{object_short}
use Rattle.node_file.proofs.Made.{settle}
use Rattle.node_file.proofs.Torn.{length-behind_gates}

abbrev pub Rows : Type 0
Rows = List (Key × List Entry)

-- ---- what they make of contents

-- an object may follow anything
objects_follow : (c : Contents) (rows : Rows) → EachFollows c (map row_record rows)
objects_follow c [] = tt
objects_follow c (row ∷ rows) = (refl, objects_follow (with_record c (row_record row)) rows)

pub life_stays : (c : Contents) (rows : Rows) → (fold with_record c (map row_record rows)).life ≡ c.life
life_stays c [] = refl
life_stays c (row ∷ rows) = life_stays (with_record c (row_record row)) rows

keys_with : (c : Contents) (rows : Rows) → length (fold with_record c (map row_record rows)).table ≤ length c.table + length rows
keys_with c [] = omega arith
keys_with c (row ∷ rows) = omega (arith, keys_with (with_record c (row_record row)) rows, one_more c.table row.0 row.1)

pub few_with_all : (s : FileState) (table : Table) (rows : Rows) → length table + length rows ≤ most_keys → s.contents.table ≡ table → length (state_with_all s (map row_record rows)).contents.table ≤ most_keys
few_with_all s table rows few is = omega (arith, keys_with s.contents rows, ap length is, few)

pub can_take : (s : FileState) (rows : Rows) → s.version ≡ 2 → All IsRecord (map row_record rows) → length (state_with_all s (map row_record rows)).contents.table ≤ most_keys → CanTakeAll s (map row_record rows)
can_take s rows version lawful room = record { version = version; lawful = lawful; follow = objects_follow s.contents rows; room = room }

-- ---- their bytes

-- bytes that begin with an open gate are those of some record, and of more behind it
pub by_first : (P : List Record → Type 0) (spelled : List ℕ) (records : List Record) → 1 ∷ spelled ≡ behind_gates records → ((first : Record) (more : List Record) → spelled ≡ behind_first first more → P (first ∷ more)) → P records
unfolding behind_gates
by_first P spelled [] is then = let one : 1 ≡ 0 = ap (λ (l : List ℕ). get_or l 0 0) is in absurd (omega (arith, one))
by_first P spelled (first ∷ more) is then = then first more (ap (drop 1) is)

pub bytes_of_some : (rows : Rows) → rows ≢ [] → batch_bytes (map row_record rows) ≡ behind_gates (map row_record rows)
bytes_of_some [] some = absurd (some refl)
bytes_of_some (row ∷ rows) some = refl

-- behind their first gate
pub behind_one : (bytes : List ℕ) (rows : Rows) → rows ≢ [] → bytes ≡ behind_gates (map row_record rows) → 1 ∷ take (length bytes - 1) (drop 1 bytes) ≡ behind_gates (map row_record rows)
unfolding behind_gates
behind_one bytes [] some is = absurd (some refl)
behind_one bytes (row ∷ rows) some is =
    let rest = behind_first (row_record row) (map row_record rows) in
    let behind : drop 1 bytes ≡ rest = ap (drop 1) is in
    let long : length rest ≤ length bytes - 1 = omega (arith, ap length is) in
    ap (λ (l : List ℕ). 1 ∷ take (length bytes - 1) l) behind ∙ ap (λ (l : List ℕ). 1 ∷ l) (take_all (length bytes - 1) rest long)

pub size_behind_one : (spelled : List ℕ) (records : List Record) → 1 ∷ spelled ≡ behind_gates records → length spelled ≡ batch_size records
size_behind_one spelled records is = omega (arith, ap length is, length-behind_gates records)

-- one more of them is spelled
pub more_spelled : (rows : Rows) (place : ℕ) (row : Key × List Entry) (bytes all : List ℕ) → place < length rows → get_or rows place row ≡ row
    → bytes ++ behind_gates (map row_record (drop place rows)) ≡ all → (bytes ++ 1 ∷ record_bytes (payload (row_record row))) ++ behind_gates (map row_record (drop (place + 1) rows)) ≡ all
unfolding behind_gates
more_spelled rows place row bytes all within here so_far =
    let one = record_bytes (payload (row_record row)) in
    let there : drop place rows ≡ row ∷ drop (place + 1) rows = drop_more rows place row within ∙ ap (λ (r : Key × List Entry). r ∷ drop (place + 1) rows) here in
    append_assoc bytes (1 ∷ one) (behind_gates (map row_record (drop (place + 1) rows)))
    ∙ sym (ap (λ (r : Rows). bytes ++ behind_gates (map row_record r)) there)
    ∙ so_far

-- of none nothing is written
pub none_appended : (gate : ℕ) (file : List ℕ) → AreAppended gate [] file file
unfolding AreAppended
none_appended gate file =
    let same : gate + 0 ≡ gate = omega arith in
    sym (take-append-drop gate file)
    ∙ ap (λ (n : ℕ). take gate file ++ drop n file) (sym same)
    ∙ ap (λ (l : List ℕ). l ++ drop (gate + 0) file) (sym (append-nil (take gate file)))

-- ---- which is refused

batch_size-push : (records : List Record) (record_ : Record) → batch_size (records ++ record_ ∷ []) ≡ batch_size records + record_size record_
batch_size-push [] record_ = omega arith
batch_size-push (first ∷ records) record_ = omega (arith, batch_size-push records record_)

-- none of the objects before this place is refused, and the one there comes to stand at `end`
pub record IsPassed (gate : ℕ) (rows : Rows) (place end : ℕ) : Type 0 where
  pub rest : refused_object place end (drop place rows) ≡ refused_object 0 gate rows
  pub lawful : All IsRecord (map row_record (take place rows))
  pub size : end ≡ gate + batch_size (map row_record (take place rows))
  pub short : 0 < place → end + 1 ≤ most_file

pub none_passed : (gate : ℕ) (rows : Rows) → IsPassed gate rows 0 gate
none_passed gate rows = record { rest = refl; lawful = All-nil IsRecord; size = omega arith; short = λ lt. absurd (omega (arith, lt)) }

module _ (gate : ℕ) (rows : Rows) (place end : ℕ) (passed : IsPassed gate rows place end) where
  module _ (row : Key × List Entry) (within : place < length rows) (here : get_or rows place row ≡ row) where
    there : drop place rows ≡ row ∷ drop (place + 1) rows
    there = drop_more rows place row within ∙ ap (λ (r : Key × List Entry). r ∷ drop (place + 1) rows) here

    pub is_refused : (fault : FileFault) → refusal_of_append false end row.0 row.1 ≡ Some fault → refused_object 0 gate rows ≡ Some (batches.Object place fault)
    unfolding refused_object
    is_refused fault is =
        sym passed.rest
        ∙ ap (refused_object place end) there
        ∙ ap (λ (o : Option FileFault). at_place place o (refused_object (place + 1) (end + record_size (row_record row)) (drop (place + 1) rows))) is

    pub is_passed : (next : ℕ) → refusal_of_append false end row.0 row.1 ≡ None → IsRecord (row_record row) → next ≡ end + record_size (row_record row) → IsPassed gate rows (place + 1) next
    unfolding refused_object record_size
    is_passed next none lawful is =
        let front : map row_record (take (place + 1) rows) ≡ map row_record (take place rows) ++ row_record row ∷ [] =
        ap (map row_record) (take_more rows place row within ∙ ap (λ (r : Key × List Entry). take place rows ++ r ∷ []) here) ∙ map_push row_record (take place rows) row in
        record {
          rest = ap (λ (n : ℕ). refused_object (place + 1) n (drop (place + 1) rows)) is
              ∙ sym (ap (λ (o : Option FileFault). at_place place o (refused_object (place + 1) (end + record_size (row_record row)) (drop (place + 1) rows))) none)
              ∙ sym (ap (refused_object place end) there)
              ∙ passed.rest;
          lawful = subst (All IsRecord) (sym front) (All-append IsRecord (map row_record (take place rows)) (row_record row ∷ []) passed.lawful (All-cons IsRecord (row_record row) [] lawful (All-nil IsRecord)));
          size = omega (arith, is, passed.size, ap batch_size front, batch_size-push (map row_record (take place rows)) (row_record row));
          short = λ lt. omega (arith, is, object_short end row.0 row.1 none);
        }

  -- all are passed
  pub none_refused : place ≡ length rows → refused_object 0 gate rows ≡ None
  unfolding refused_object
  none_refused all = sym passed.rest ∙ ap (refused_object place end) (drop_all place rows (omega (arith, all)))

  pub all_lawful : place ≡ length rows → All IsRecord (map row_record rows)
  all_lawful all = subst (λ (r : Rows). All IsRecord (map row_record r)) (take_all place rows (omega (arith, all))) passed.lawful

  pub all_fit : place ≡ length rows → rows ≢ [] → gate + batch_size (map row_record rows) + 1 ≤ most_file
  all_fit all some = omega (arith, passed.size, ap (λ (r : Rows). batch_size (map row_record r)) (take_all place rows (omega (arith, all))), passed.short (omega (arith, all, has_one rows some)))
    where
      has_one : (rows : Rows) → rows ≢ [] → 0 < length rows
      has_one [] some = absurd (some refl)
      has_one (row ∷ rows) some = omega arith

-- ---- what a refusal is not

never_at : (place : ℕ) (one : Option FileFault) (more : Option BatchFault) (fault : FileFault) → (more ≡ Some (batches.File fault) → ⊥) → at_place place one more ≡ Some (batches.File fault) → ⊥
never_at place None more fault never is = never is
never_at place (Some other) more fault never is = absurd cc

never_a_file : (place gate : ℕ) (rows : Rows) (fault : FileFault) → refused_object place gate rows ≡ Some (batches.File fault) → ⊥
unfolding refused_object
never_a_file place gate [] fault is = absurd cc
never_a_file place gate (row ∷ rows) fault is =
    let next = gate + record_size (row_record row) in
    never_at place (refusal_of_append false gate row.0 row.1) (refused_object (place + 1) next rows) fault (never_a_file (place + 1) next rows fault) is

-- the objects alone never stop a file
pub not_of_objects : (gate : ℕ) (rows : Rows) (fault : BatchFault) (of_file : FileFault) → Some fault ≡ refusal_of_batch false gate rows → fault ≡ batches.File of_file → ⊥
not_of_objects gate rows fault of_file is same = by_number (nat_lt most_batch (length rows)) (sym is ∙ ap (λ (f : BatchFault). Some f) same)
  where
    by_number : (many : Bool) → cond many (Some batches.TooMany) (refused_object 0 gate rows) ≡ Some (batches.File of_file) → ⊥
    by_number true is = absurd cc
    by_number false is = never_a_file 0 gate rows of_file is

-- nothing is refused of none
pub none_is_taken : (gate : ℕ) (rows : Rows) (fault : BatchFault) → rows ≡ [] → Some fault ≡ refusal_of_batch false gate rows → ⊥
unfolding refused_object
none_is_taken gate [] fault none is = absurd cc
none_is_taken gate (row ∷ rows) fault none is = absurd cc

-- ---- whether there are any

pub is_none : (rows : Rows) → true ≡ (length rows == 0) → rows ≡ []
is_none rows test = by_length rows (eqb-true (length rows) 0 (sym test))
  where
    by_length : (rows : Rows) → length rows ≡ 0 → rows ≡ []
    by_length [] none = refl
    by_length (row ∷ rows) some = absurd (omega (arith, some))

pub is_some : (rows : Rows) → false ≡ (length rows == 0) → rows ≢ []
is_some [] test none = absurd cc
is_some (row ∷ rows) test none = absurd cc

-- ---- a file with them

-- it is settled if it was, and its device holds them for good
pub settled_with : {D : Type 0} (seen : D → List ℕ) (may_leave : D → List ℕ → Type 0) (old new : FileView D) (rows : Rows) → IsSettled seen may_leave old
    → new.node ≡ old.node → new.life ≡ old.life → new.is_served ≡ old.is_served
    → opened None (seen new.device) ≡ Ok (state_with_all (file_state (seen old.device)) (map row_record rows), new.gate) → IsDurable (seen new.device) (may_leave new.device) → IsSettled seen may_leave new
settled_with seen may_leave old new rows before node life served opens durable =
    settle seen may_leave new (state_with_all (file_state (seen old.device)) (map row_record rows)) opens
    (before.node ∙ sym node)
    (life_stays (file_state (seen old.device)).contents rows ∙ before.life ∙ sym life)
    (λ is. before.served (sym served ∙ is))
    durable
