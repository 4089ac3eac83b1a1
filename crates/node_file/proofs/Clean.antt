-- The bytes of a clean copy, written record by record.
use Rattle.std.proofs.Common.{◌≡◌, ℕ, ◌+◌, ◌-◌, ◌≤◌, List, [], ◌∷◌, ◌++◌, length, map, take, drop, refl, sym, ap, ◌∙◌, arith, append-nil, append_assoc, length-append, length-take}
use Rattle.std.specs.Int.{w16, to_be_bytes}
use Rattle.std.proofs.lemmas.List.{drop_all, take_at}
use Rattle.meta_store.specs.Table.{Table}
use Rattle.devices.specs.Device.{Overwrites}
use Rattle.node_file.specs.declared.record.Record.{Record}
use Rattle.node_file.specs.Record.{payload, record_bytes}
use Rattle.node_file.specs.File.{empty_file, gated, magic}
use Rattle.node_file.specs.Clean.{behind_gates, clean_bytes, file_of, life_records, row_record}
use Rattle.node_file.specs.Reads.{with_each, with_last}
use Rattle.node_file.proofs.Torn.{length-record}

-- ---- one record

-- written over the last byte
pub put_last : (old new bytes : List ℕ) (gate : ℕ) (record_ : Record) → length old ≡ gate + 1 → bytes ≡ gated record_ → Overwrites old gate bytes new → new ≡ with_last old record_
put_last old new bytes gate record_ last is holds =
    let long : 1 ≤ length bytes = omega (arith, ap length is) in
    let none : drop (gate + length bytes) old ≡ [] = drop_all (gate + length bytes) old (omega (arith, last, long)) in
    let before : gate ≡ length old - 1 = omega (arith, last) in
    holds
    ∙ ap (λ (l : List ℕ). (take gate old ++ bytes) ++ l) none
    ∙ append-nil (take gate old ++ bytes)
    ∙ ap (λ (l : List ℕ). take gate old ++ l) is
    ∙ ap (λ (n : ℕ). take n old ++ gated record_) before

-- the last byte is then the closed gate behind it
pub last_there : (old new : List ℕ) (gate : ℕ) (record_ : Record) → length old ≡ gate + 1 → new ≡ with_last old record_ → length new ≡ (gate + (37 + length (payload record_))) + 1
last_there old new gate record_ last is =
    let front : length (take (length old - 1) old) ≡ gate = omega (arith, length-take (length old - 1) old, last) in
    omega (arith, ap length is, length-append (take (length old - 1) old) (gated record_), front, length-append (record_bytes (payload record_)) (0 ∷ []), length-record (payload record_))

-- ---- records one after the other

pub each_of_both : (file : List ℕ) (front rest : Table) → with_each file (map row_record (front ++ rest)) ≡ with_each (with_each file (map row_record front)) (map row_record rest)
each_of_both file [] rest = refl
each_of_both file (row ∷ front) rest = each_of_both (with_last file (row_record row)) front rest

each_of_all : (file : List ℕ) (front rest : List Record) → with_each (with_each file front) rest ≡ with_each file (front ++ rest)
each_of_all file [] rest = refl
each_of_all file (record_ ∷ front) rest = each_of_all (with_last file record_) front rest

-- in place of the closed gate
behind_body : (body : List ℕ) (records : List Record) → with_each (body ++ 0 ∷ []) records ≡ body ++ behind_gates records
unfolding behind_gates
behind_body body [] = refl
behind_body body (record_ ∷ records) =
    let bytes = record_bytes (payload record_) in
    let cut : take (length (body ++ 0 ∷ []) - 1) (body ++ 0 ∷ []) ≡ body = take_at body (0 ∷ []) (length (body ++ 0 ∷ []) - 1) (omega (arith, length-append body (0 ∷ []))) in
    let one : with_last (body ++ 0 ∷ []) record_ ≡ (body ++ 1 ∷ bytes) ++ 0 ∷ [] = ap (λ (l : List ℕ). l ++ gated record_) cut ∙ sym (append_assoc body (1 ∷ bytes) (0 ∷ [])) in
    ap (λ (l : List ℕ). with_each l records) one
    ∙ behind_body (body ++ 1 ∷ bytes) records
    ∙ append_assoc body (1 ∷ bytes) (behind_gates records)

-- ---- a whole copy

pub clean_of : (node life : ℕ) (table : Table) → with_each (with_each (empty_file node) (life_records life)) (map row_record table) ≡ clean_bytes node life table
unfolding file_of
clean_of node life table =
    let front = magic ++ to_be_bytes w16 node in
    let records = life_records life ++ map row_record table in
    each_of_all (empty_file node) (life_records life) (map row_record table)
    ∙ ap (λ (l : List ℕ). with_each l records) (sym (append_assoc magic (to_be_bytes w16 node) (0 ∷ [])))
    ∙ behind_body front records
    ∙ append_assoc magic (to_be_bytes w16 node) (behind_gates records)

-- the front of a file, the record of its life, and those of its table, each written behind the last
pub copied : (node life : ℕ) (table : Table) (front mid copy : List ℕ) → copy ≡ with_each mid (map row_record table) → mid ≡ with_each front (life_records life) → front ≡ empty_file node → copy ≡ clean_bytes node life table
copied node life table front mid copy rows lives made =
    rows
    ∙ ap (λ (l : List ℕ). with_each l (map row_record table)) (lives ∙ ap (λ (l : List ℕ). with_each l (life_records life)) made)
    ∙ clean_of node life table
