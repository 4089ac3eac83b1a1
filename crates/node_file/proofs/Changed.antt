-- An open gate that was changed in a file of records.
use Rattle.std.proofs.Common.{◌≡◌, ◌≢◌, ℕ, ◌+◌, ◌-◌, ◌<◌, ◌≤◌, List, [], ◌∷◌, ◌++◌, length, take, set, All, Some, None, Ok, Bool, true, false, not, cond, ◌&&◌, ◌||◌, ◌==◌, refl, sym, ap, subst, ◌∙◌, arith, append-nil, append_assoc, length-append}
use Rattle.std.specs.Int.{w16, from_be_bytes, to_be_bytes}
use Rattle.std.proofs.Math.Seq.{set-append_seam}
use Rattle.std.proofs.lemmas.Nat.{from_be_bytes-to_be_bytes_2}
use Rattle.std.proofs.lemmas.List.{drop_at}
use Rattle.std.proofs.lemmas.List.Elements.{All-head, All-tail}
use Rattle.node_file.specs.declared.record.Record.{Record}
use Rattle.node_file.specs.Record.{IsRecord, payload, record_bytes}
use Rattle.node_file.specs.File.{front_in, magic}
use Rattle.node_file.specs.Clean.{behind_gates, file_of}
use Rattle.node_file.specs.Gates.{changed_at, changed_gate, end_from, end_of_records, goes_on, length_said, shows_behind, shows_changed_gate, size_in, size_read}
use Rattle.node_file.proofs.Parting.{not_below}
use Rattle.node_file.proofs.Torn.{length-payload, length-record, number, read_again}
use Rattle.node_file.proofs.Ending.{end_opens, ends_shut, is_short, skips_end, unequal}

-- records, each behind an open gate
abbrev open_records : List Record → List ℕ
open_records [] = []
open_records (record_ ∷ records) = 1 ∷ (record_bytes (payload record_) ++ open_records records)

behind_both : (front rest : List Record) → behind_gates (front ++ rest) ≡ open_records front ++ behind_gates rest
unfolding behind_gates
behind_both [] rest = refl
behind_both (record_ ∷ front) rest =
    ap (λ (l : List ℕ). 1 ∷ (record_bytes (payload record_) ++ l)) (behind_both front rest)
    ∙ ap (λ (l : List ℕ). 1 ∷ l) (sym (append_assoc (record_bytes (payload record_)) (open_records front) (behind_gates rest)))

-- the records end at the first gate that isn't open
walks : (before : List Record) (here gate : ℕ) (rest : List ℕ) → All IsRecord before → gate ≢ 1 → end_from 0 here (open_records before ++ gate ∷ rest) ≡ Some (here + length (open_records before))
walks [] here gate rest lawful shut = let same : here ≡ here + 0 = omega arith in ends_shut here gate rest shut ∙ ap (λ (n : ℕ). Some n) same
walks (record_ ∷ before) here gate rest lawful shut =
    let m = payload record_ in
    let tail = open_records before ++ gate ∷ rest in
    let b = record_bytes m ++ tail in
    let size = length-record m in
    let fits = length-payload record_ (All-head IsRecord record_ before lawful) in
    let said : length_said b ≡ length m = number m tail fits in
    let four : 4 ≤ length b = omega (arith, length-append (record_bytes m) tail, size) in
    let total : here + 1 + (36 + length m) + length (open_records before) ≡ here + length (open_records (record_ ∷ before)) = omega (arith, length-append (record_bytes m) (open_records before), size) in
    ap (λ (l : List ℕ). end_from 0 here (1 ∷ l)) (append_assoc (record_bytes m) (open_records before) (gate ∷ rest))
    ∙ end_opens here b
    ∙ is_short here b (end_from (36 + length_said b) (here + 1) b) four (subst (λ (n : ℕ). n ≤ 16777216) (sym said) fits)
    ∙ ap (λ (n : ℕ). end_from (36 + n) (here + 1) b) said
    ∙ skips_end (36 + length m) (here + 1) b
    ∙ ap (end_from 0 (here + 1 + (36 + length m))) (drop_at (record_bytes m) tail (36 + length m) size)
    ∙ walks before (here + 1 + (36 + length m)) gate rest (All-tail IsRecord record_ before lawful) shut
    ∙ ap (λ (n : ℕ). Some n) total

-- ---- what is behind it shows the change

or_true : (a : Bool) → (a || true) ≡ true
or_true true = refl
or_true false = refl

shows_by_rest : (gate : ℕ) (rest : List Record) (tail : List ℕ) → (gate ≡ 0 → rest ≢ []) → (not (gate == 0) || goes_on 2 (behind_gates rest ++ tail)) ≡ true
unfolding behind_gates
shows_by_rest gate [] tail hides = ap (λ (t : Bool). not t || goes_on 2 (0 ∷ tail)) (unequal gate 0 (λ is. hides is refl))
shows_by_rest gate (record_ ∷ rest) tail hides = or_true (not (gate == 0))

shows_lost : (gate : ℕ) (hidden : Record) (rest : List Record) (tail : List ℕ) → IsRecord hidden → gate ≢ 1 → (gate ≡ 0 → rest ≢ []) → shows_changed_gate 2 (gate ∷ (record_bytes (payload hidden) ++ (behind_gates rest ++ tail))) ≡ true
unfolding shows_changed_gate
shows_lost gate hidden rest tail lawful shut hides =
    let m = payload hidden in
    let behind = behind_gates rest ++ tail in
    let b = record_bytes m ++ behind in
    let read : size_in 2 b ≡ Some (36 + length m) = ap size_read (read_again hidden behind lawful) in
    ap (λ (t : Bool). not t && shows_behind 2 gate b (size_in 2 b)) (unequal gate 1 shut)
    ∙ ap (shows_behind 2 gate b) read
    ∙ ap (λ (l : List ℕ). not (gate == 0) || goes_on 2 l) (drop_at (record_bytes m) behind (36 + length m) (length-record m))
    ∙ shows_by_rest gate rest tail hides

-- ---- in a whole file

front_read : (node : ℕ) (rest : List ℕ) → node < 16 → front_in (take 10 (magic ++ (to_be_bytes w16 node ++ rest))) ≡ Ok (2, node)
unfolding front_in
front_read node rest lt =
    let read : from_be_bytes w16 (to_be_bytes w16 node) ≡ node = from_be_bytes-to_be_bytes_2 node (omega (arith, lt)) in
    rw (read, not_below 15 node (omega (arith, lt))) refl

front_size : (node : ℕ) (before : List Record) → length (magic ++ (to_be_bytes w16 node ++ open_records before)) ≡ 10 + length (open_records before)
front_size node before =
    let eight : length magic ≡ 8 = refl in
    let two : length (to_be_bytes w16 node) ≡ 2 = refl in
    omega (arith, length-append magic (to_be_bytes w16 node ++ open_records before), length-append (to_be_bytes w16 node) (open_records before), eight, two)

told_of : (node gate : ℕ) (before : List Record) (hidden : Record) (rest : List Record) (tail : List ℕ) → node < 16 → All IsRecord before → IsRecord hidden → gate ≢ 1 → (gate ≡ 0 → rest ≢ [])
    → changed_gate (magic ++ (to_be_bytes w16 node ++ (open_records before ++ gate ∷ (record_bytes (payload hidden) ++ (behind_gates rest ++ tail))))) ≡ Some (10 + length (open_records before))
unfolding changed_gate end_of_records
told_of node gate before hidden rest tail lt lawful is shut hides =
    let behind = record_bytes (payload hidden) ++ (behind_gates rest ++ tail) in
    let lost = gate ∷ behind in
    let place = 10 + length (open_records before) in
    let file = magic ++ (to_be_bytes w16 node ++ (open_records before ++ lost)) in
    ap (λ r. changed_at file r (end_of_records file)) (front_read node (open_records before ++ lost) lt)
    ∙ ap (changed_at file (Ok (2, node))) (walks before 10 gate behind lawful shut)
    ∙ ap (λ (l : List ℕ). cond (shows_changed_gate 2 l) (Some place) None) (drop_at (magic ++ (to_be_bytes w16 node ++ open_records before)) lost place (front_size node before))
    ∙ ap (λ (t : Bool). cond t (Some place) None) (shows_lost gate hidden rest tail is shut hides)

place_is : (node : ℕ) (before : List Record) → length (file_of node before) - 1 ≡ 10 + length (open_records before)
unfolding file_of behind_gates
place_is node before =
    let closed : behind_gates before ≡ open_records before ++ 0 ∷ [] = ap behind_gates (sym (append-nil before)) ∙ behind_both before [] in
    omega (arith, ap length closed, length-append (open_records before) (0 ∷ []))

with_tail : (node : ℕ) (before : List Record) (hidden : Record) (rest : List Record) (tail : List ℕ)
    → file_of node (before ++ hidden ∷ rest) ++ tail ≡ magic ++ (to_be_bytes w16 node ++ (open_records before ++ 1 ∷ (record_bytes (payload hidden) ++ (behind_gates rest ++ tail))))
unfolding file_of behind_gates
with_tail node before hidden rest tail =
    let two = to_be_bytes w16 node in
    let all = behind_gates (before ++ hidden ∷ rest) in
    let first = record_bytes (payload hidden) in
    append_assoc magic (two ++ all) tail
    ∙ ap (λ (l : List ℕ). magic ++ l) (append_assoc two all tail)
    ∙ ap (λ (l : List ℕ). magic ++ (two ++ (l ++ tail))) (behind_both before (hidden ∷ rest))
    ∙ ap (λ (l : List ℕ). magic ++ (two ++ l)) (append_assoc (open_records before) (1 ∷ (first ++ behind_gates rest)) tail)
    ∙ ap (λ (l : List ℕ). magic ++ (two ++ (open_records before ++ 1 ∷ l))) (append_assoc first (behind_gates rest) tail)

changed_so : (node byte : ℕ) (before : List Record) (hidden : Record) (rest : List Record) (tail : List ℕ)
    → set (file_of node (before ++ hidden ∷ rest) ++ tail) (10 + length (open_records before)) byte ≡ magic ++ (to_be_bytes w16 node ++ (open_records before ++ byte ∷ (record_bytes (payload hidden) ++ (behind_gates rest ++ tail))))
changed_so node byte before hidden rest tail =
    let behind = record_bytes (payload hidden) ++ (behind_gates rest ++ tail) in
    let front = magic ++ (to_be_bytes w16 node ++ open_records before) in
    ap (λ (l : List ℕ). set l (10 + length (open_records before)) byte) (with_tail node before hidden rest tail)
    ∙ ap (λ (n : ℕ). set (magic ++ (to_be_bytes w16 node ++ (open_records before ++ 1 ∷ behind))) n byte) (sym (front_size node before))
    ∙ set-append_seam front 1 behind byte

pub told : (node byte : ℕ) (before : List Record) (hidden : Record) (rest : List Record) (tail : List ℕ) → node < 16 → All IsRecord before → IsRecord hidden → byte ≢ 1 → (byte ≡ 0 → rest ≢ [])
    → changed_gate (set (file_of node (before ++ hidden ∷ rest) ++ tail) (length (file_of node before) - 1) byte) ≡ Some (length (file_of node before) - 1)
told node byte before hidden rest tail lt lawful is shut hides =
    ap (λ (n : ℕ). changed_gate (set (file_of node (before ++ hidden ∷ rest) ++ tail) n byte)) (place_is node before)
    ∙ ap changed_gate (changed_so node byte before hidden rest tail)
    ∙ told_of node byte before hidden rest tail lt lawful is shut hides
    ∙ ap (λ (n : ℕ). Some n) (sym (place_is node before))
