-- Records that are spelled one behind the other are read again.
use Rattle.std.proofs.Common.{◌≡◌, ◌≢◌, ℕ, zero, suc, ◌+◌, ◌-◌, ◌≤◌, List, [], ◌∷◌, ◌++◌, get_or, length, take, drop, All, Some, None, Ok, refl, sym, ◌∙◌, ap, subst, arith, append-nil, append_assoc, length-append, length-drop}
use Rattle.std.proofs.Math.Seq.{set-append_seam}
use Rattle.std.proofs.Math.ListN.{set}
use Rattle.std.proofs.lemmas.List.{drop_at, take_all}
use Rattle.std.proofs.lemmas.List.Elements.{All-append, All-cons, All-head, All-nil, All-tail}
use Rattle.node_file.specs.declared.record.Record.{Record}
use Rattle.node_file.specs.Record.{IsRecord, payload, record_bytes, record_in}
use Rattle.node_file.specs.Fold.{any_may_follow, fold_records}
use Rattle.node_file.specs.File.{gated, record_size}
use Rattle.node_file.specs.Clean.{behind_gates}
use Rattle.node_file.specs.Batch.{batch_bytes, batch_size, behind_first}
use Rattle.node_file.proofs.Appending.{spelled_size}
use Rattle.node_file.proofs.Batches.{size_behind_one}
use Rattle.node_hosted.specs.Unstored.{AreRecords, put_behind, read_or_none, records_in, spelled}

-- ---- reading

-- a record that is spelled is read again, whatever follows it
abbrev pub ReadAgain : Type 0
ReadAgain = (said : Record) (rest : List ℕ) → IsRecord said → record_in 2 (record_bytes (payload said) ++ rest) ≡ Some (said, 36 + length (payload said))

length-record : (r : Record) → length (record_bytes (payload r)) ≡ 36 + length (payload r)
length-record r = omega (arith, spelled_size r (gated r) refl, length-append (record_bytes (payload r)) (0 ∷ []))

skips : (before : List Record) (n : ℕ) (b : List ℕ) → n ≤ length b → fold_records any_may_follow put_behind 2 before n b ≡ fold_records any_may_follow put_behind 2 before 0 (drop n b)
unfolding fold_records
skips before zero b le = refl
skips before (suc n) [] le = absurd (omega arith)
skips before (suc n) (x ∷ b) le = skips before n b (omega arith)

opens : (before : List Record) (rest : List ℕ) (r : Record) (size : ℕ) → record_in 2 rest ≡ Some (r, size)
    → fold_records any_may_follow put_behind 2 before 0 (1 ∷ rest) ≡ fold_records any_may_follow put_behind 2 (before ++ r ∷ []) size rest
unfolding fold_records
opens before rest r size is = rw is refl

closes : (before : List Record) → fold_records any_may_follow put_behind 2 before 0 (0 ∷ []) ≡ Ok (before, 1)
unfolding fold_records
closes before = refl

reads : ReadAgain → (before records : List Record) → All IsRecord records
    → fold_records any_may_follow put_behind 2 before 0 (behind_gates records) ≡ Ok (before ++ records, 1)
unfolding behind_gates
reads again before [] lawful = closes before ∙ ap (λ (l : List Record). Ok (l, 1)) (sym (append-nil before))
reads again before (r ∷ records) lawful =
    let m = record_bytes (payload r) in
    let behind = behind_gates records in
    let size = length-record r in
    opens before (m ++ behind) r (36 + length (payload r)) (again r behind (All-head IsRecord r records lawful))
    ∙ skips (before ++ r ∷ []) (36 + length (payload r)) (m ++ behind) (omega (arith, length-append m behind, size))
    ∙ ap (λ (b : List ℕ). fold_records any_may_follow put_behind 2 (before ++ r ∷ []) 0 b) (drop_at m behind (36 + length (payload r)) size)
    ∙ reads again (before ++ r ∷ []) records (All-tail IsRecord r records lawful)
    ∙ ap (λ (l : List Record). Ok (l, 1)) (append_assoc before (r ∷ []) records)

pub of_none : records_in [] ≡ []
unfolding records_in fold_records
of_none = refl

pub read_again : ReadAgain → (records : List Record) (bytes : List ℕ) → All IsRecord records → bytes ≡ batch_bytes records → records_in bytes ≡ records
unfolding records_in
read_again again [] bytes lawful is = ap records_in is ∙ of_none
read_again again (r ∷ records) bytes lawful is = ap records_in is ∙ ap read_or_none (reads again [] (r ∷ records) lawful)

pub are_records : ReadAgain → (records : List Record) (bytes : List ℕ) → All IsRecord records → bytes ≡ batch_bytes records → AreRecords bytes
are_records again records bytes lawful is =
    let same = read_again again records bytes lawful is in
    record { spelled = is ∙ ap batch_bytes (sym same); lawful = subst (All IsRecord) (sym same) lawful }

-- ---- one more

-- records, each behind an open gate, and no gate behind the last
front : List Record → List ℕ
front [] = []
front (r ∷ records) = 1 ∷ (record_bytes (payload r) ++ front records)

ends : (records : List Record) → behind_gates records ≡ front records ++ 0 ∷ []
unfolding front behind_gates
ends [] = refl
ends (r ∷ records) =
    let m = record_bytes (payload r) in
    ap (λ (l : List ℕ). 1 ∷ (m ++ l)) (ends records) ∙ ap (λ (l : List ℕ). 1 ∷ l) (sym (append_assoc m (front records) (0 ∷ [])))

ends_with : (records : List Record) (r : Record) → behind_gates (records ++ r ∷ []) ≡ front records ++ gated r
unfolding front behind_gates
ends_with [] r = refl
ends_with (q ∷ records) r =
    let m = record_bytes (payload q) in
    ap (λ (l : List ℕ). 1 ∷ (m ++ l)) (ends_with records r) ∙ ap (λ (l : List ℕ). 1 ∷ l) (sym (append_assoc m (front records) (gated r)))

joins : (records : List Record) (r : Record) (bytes : List ℕ) (last : ℕ) → bytes ≡ behind_gates records → last + 1 ≡ length bytes
    → set (bytes ++ drop 1 (gated r)) last 1 ≡ behind_gates (records ++ r ∷ [])
joins records r bytes last is at =
    let f = front records in
    let whole : bytes ≡ f ++ 0 ∷ [] = is ∙ ends records in
    let place : last ≡ length f = omega (arith, at, ap length whole, length-append f (0 ∷ [])) in
    ap (λ (l : List ℕ). set (l ++ drop 1 (gated r)) last 1) whole
    ∙ ap (λ (l : List ℕ). set l last 1) (append_assoc f (0 ∷ []) (drop 1 (gated r)))
    ∙ ap (λ (n : ℕ). set (f ++ 0 ∷ drop 1 (gated r)) n 1) place
    ∙ set-append_seam f 0 (drop 1 (gated r)) 1
    ∙ sym (ends_with records r)

-- the bytes of some records end at a gate
some_bytes : (records : List Record) (bytes : List ℕ) (last : ℕ) → bytes ≡ batch_bytes records → last + 1 ≡ length bytes → bytes ≡ behind_gates records
some_bytes [] bytes last is at = let none : length bytes ≡ 0 = ap length is in absurd (omega (arith, at, none))
some_bytes (r ∷ records) bytes last is at = is

one_more : (records : List Record) (r : Record) → behind_gates (records ++ r ∷ []) ≡ batch_bytes (records ++ r ∷ [])
one_more [] r = refl
one_more (q ∷ records) r = refl

pub joined : (records : List Record) (r : Record) (bytes : List ℕ) (last : ℕ) → bytes ≡ batch_bytes records → last + 1 ≡ length bytes
    → set (bytes ++ drop 1 (gated r)) last 1 ≡ batch_bytes (records ++ r ∷ [])
joined records r bytes last is at = joins records r bytes last (some_bytes records bytes last is at) at ∙ one_more records r

pub more_lawful : (records : List Record) (r : Record) → All IsRecord records → IsRecord r → All IsRecord (records ++ r ∷ [])
more_lawful records r lawful is = All-append IsRecord records (r ∷ []) lawful (All-cons IsRecord r [] is (All-nil IsRecord))

-- ---- their size

size_of_some : (r : Record) (records : List Record) (bytes : List ℕ) → bytes ≡ behind_gates (r ∷ records) → length bytes - 1 ≡ batch_size (r ∷ records)
unfolding behind_gates
size_of_some r records bytes is =
    let rest = behind_first r records in
    let long : length (behind_gates (r ∷ records)) ≡ length rest + 1 = omega arith in
    omega (arith, ap length is, long, size_behind_one rest (r ∷ records) refl)

pub size : (records : List Record) (bytes : List ℕ) → bytes ≡ batch_bytes records → length bytes - 1 ≡ batch_size records
size [] bytes is = let none : length bytes ≡ 0 = ap length is in omega (arith, none)
size (r ∷ records) bytes is = size_of_some r records bytes is

pub size-push : (records : List Record) (r : Record) → batch_size (records ++ r ∷ []) ≡ batch_size records + record_size r
size-push [] r = omega arith
size-push (q ∷ records) r = omega (arith, size-push records r)

-- ---- whether there are any

pub none_spelled : (bytes : List ℕ) (records : List Record) → bytes ≡ batch_bytes records → length bytes ≡ 0 → spelled records ≡ None
unfolding behind_gates
none_spelled bytes [] is none = refl
none_spelled bytes (r ∷ records) is none =
    let long : length (behind_gates (r ∷ records)) ≡ length (behind_first r records) + 1 = omega arith in
    absurd (omega (arith, ap length is, long, none))

pub some_spelled : (bytes : List ℕ) (records : List Record) → bytes ≡ batch_bytes records → length bytes ≢ 0 → spelled records ≡ Some bytes
some_spelled bytes [] is some = absurd (some (ap length is))
some_spelled bytes (r ∷ records) is some = ap (λ (l : List ℕ). Some l) (sym is)

-- ---- a record joins them

-- the bytes of one record
gate_of : (r : Record) (bytes : List ℕ) (byte : ℕ) → bytes ≡ gated r → byte ≡ get_or bytes 0 byte → byte ≡ 1
gate_of r bytes byte is at = at ∙ ap (λ (l : List ℕ). get_or l 0 byte) is

behind_gate : (bytes : List ℕ) → take (length bytes - 1) (drop 1 bytes) ≡ drop 1 bytes
behind_gate bytes = take_all (length bytes - 1) (drop 1 bytes) (omega (arith, length-drop 1 bytes))

-- the first of its bytes is put in place of the last byte of theirs, and the others behind that
pub is_joined : (records : List Record) (r : Record) (old one new : List ℕ) (last byte : ℕ) → old ≡ batch_bytes records → last + 1 ≡ length old
    → one ≡ gated r → new ≡ old ++ take (length one - 1) (drop 1 one) → byte ≡ get_or one 0 byte → set new last byte ≡ batch_bytes (records ++ r ∷ [])
is_joined records r old one new last byte is at said put first =
    ap (λ (n : ℕ). set new last n) (gate_of r one byte said first)
    ∙ ap (λ (l : List ℕ). set l last 1) (put ∙ ap (λ (l : List ℕ). old ++ l) (behind_gate one ∙ ap (drop 1) said))
    ∙ joined records r old last is at

-- what was read of the bytes, and is read of them with the record
pub reads_joined : ReadAgain → (records : List Record) (r : Record) (bytes : List ℕ) → All IsRecord records → IsRecord r
    → bytes ≡ batch_bytes (records ++ r ∷ []) → records_in bytes ≡ records ++ r ∷ []
reads_joined again records r bytes lawful is spelled = read_again again (records ++ r ∷ []) bytes (more_lawful records r lawful is) spelled

pub joined_are_records : ReadAgain → (records : List Record) (r : Record) (bytes : List ℕ) → All IsRecord records → IsRecord r
    → bytes ≡ batch_bytes (records ++ r ∷ []) → AreRecords bytes
joined_are_records again records r bytes lawful is spelled = are_records again (records ++ r ∷ []) bytes (more_lawful records r lawful is) spelled

-- no records were there
pub none_there : (bytes : List ℕ) → length bytes ≡ 0 → records_in bytes ≡ []
none_there [] none = of_none
none_there (x ∷ bytes) none = absurd (omega (arith, none))

pub alone : (r : Record) (bytes : List ℕ) → bytes ≡ gated r → bytes ≡ batch_bytes (r ∷ [])
unfolding behind_gates
alone r bytes is = is
