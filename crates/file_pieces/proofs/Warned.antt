-- What a closed gate shows, by the bytes from it on.
use Rattle.std.proofs.Common.{◌≡◌, ◌≢◌, ℕ, ◌+◌, ◌-◌, ◌≤◌, List, [], ◌∷◌, ◌++◌, length, take, drop, Option, Some, None, Bool, true, false, cond, nat_lt, ◌==◌, Result, Ok, Err, refl, sym, ◌∙◌, ap, arith, append_assoc, length-append}
use Rattle.std.proofs.Math.Seq.{drop-append-add}
use Rattle.std.proofs.lemmas.Bool.Decides.{nat_tests}
use Rattle.std.proofs.lemmas.List.{take_at, drop_at}
use Rattle.meta_store.specs.declared.fault.StoreFault.TheVariants.{StoreFull}
use Rattle.node_file.specs.declared.fault.FileFault.{FileFault}
use Rattle.node_file.specs.declared.fault.FileFault.TheVariants.{Damaged, OtherNode, Store}
use Rattle.node_file.specs.Fold.{Contents, contents_from, no_contents}
use Rattle.node_file.specs.File.{FileState, ended, for_node, front_in, is_other, opened}
use Rattle.node_file.specs.Gates.{changed_at, changed_gate, end_from, end_of_records, if_too_long, length_said, shows_changed_gate}
use Rattle.file_pieces.specs.declared.stage.Stage.{Stage}
use Rattle.file_pieces.specs.declared.stage.Stage.TheVariants.{Ended}
use Rattle.file_pieces.specs.Alone.{IsFront, node_in, version_in}
use Rattle.file_pieces.specs.Framing.{IsShut}
use Rattle.file_pieces.specs.Progress.{ReadSoFar, told_of}
use Rattle.file_pieces.specs.Told.{count_read, gate_if_changed, told, warned, warning}
use Rattle.file_pieces.proofs.Turns.{gate_behind}

-- ---- by more of the bytes, or by fewer

on_from : (r : Result (FileState × ℕ) FileFault) (before bytes : List ℕ) (here at : ℕ) → at ≡ here + length before → ((s : FileState) (gate : ℕ) → r ≡ Ok (s, gate) → at ≤ gate) → warning at bytes r ≡ warning here (before ++ bytes) r
on_from (Err fault) before bytes here at sum behind = refl
on_from (Ok file) before bytes here at sum behind =
    let far : file.1 - here ≡ length before + (file.1 - at) = omega (arith, sum, behind file.0 file.1 refl) in
    sym (ap (λ (n : ℕ). gate_if_changed file.0.version file.1 (drop n (before ++ bytes))) far
    ∙ ap (gate_if_changed file.0.version file.1) (drop-append-add before bytes (file.1 - at)))

-- what was read makes no difference
pub warns_on : (p : ReadSoFar) (before bytes : List ℕ) (here : ℕ) (r : Result (FileState × ℕ) FileFault) → p.at ≡ here + length before → told_of p bytes ≡ r → warning p.at bytes (told_of p bytes) ≡ warning here (before ++ bytes) r
warns_on p before bytes here r sum e =
    on_from (told_of p bytes) before bytes here p.at sum (gate_behind p bytes) ∙ ap (warning here (before ++ bytes)) e

-- nothing of a file that is refused
pub warns_none : (stage : Stage) (bytes : List ℕ) (fault : FileFault) → told stage bytes ≡ Err fault → warned stage bytes ≡ None
warns_none stage bytes fault e = ap (warning (count_read stage) bytes) e

-- at the gate, the bytes from it on
pub warns_at : (p : ReadSoFar) (bytes : List ℕ) → warned (Ended p) bytes ≡ gate_if_changed p.version p.at bytes
warns_at p bytes =
    let here : p.at - p.at ≡ 0 = omega arith in
    ap (λ (n : ℕ). gate_if_changed p.version p.at (drop n bytes)) here

-- ---- by the whole file

passed : (t : Bool) (fault : FileFault) (r : Result (FileState × ℕ) FileFault) (file : FileState × ℕ) → cond t (Err fault) r ≡ Ok file → r ≡ Ok file
passed true fault r file e = absurd cc
passed false fault r file e = e

passes_too : (t : Bool) (fault : FileFault) (r q : Result (FileState × ℕ) FileFault) (file : FileState × ℕ) → (r ≡ Ok file → q ≡ Ok file) → cond t (Err fault) r ≡ Ok file → cond t (Err fault) q ≡ Ok file
passes_too true fault r q file goes e = e
passes_too false fault r q file goes e = goes e

for_any : (asked : Option ℕ) (total : ℕ) (behind : List ℕ) (head : Result (ℕ × ℕ) FileFault) (file : FileState × ℕ) → for_node asked total behind head ≡ Ok file → for_node None total behind head ≡ Ok file
for_any asked total behind (Err fault) file e = e
for_any asked total behind (Ok head) file e = passed (is_other asked head.1) OtherNode (ended total head (contents_from head.0 no_contents 0 behind)) file e

-- a file of the node that is asked for is one of any
pub opens_any : (asked : Option ℕ) (bytes : List ℕ) (s : FileState) (gate : ℕ) → opened asked bytes ≡ Ok (s, gate) → opened None bytes ≡ Ok (s, gate)
unfolding opened
opens_any asked bytes s gate e =
    passes_too (nat_lt (length bytes) 11) (Damaged (length bytes))
    (for_node asked (length bytes) (drop 10 bytes) (front_in (take 10 bytes))) (for_node None (length bytes) (drop 10 bytes) (front_in (take 10 bytes))) (s, gate)
    (for_any asked (length bytes) (drop 10 bytes) (front_in (take 10 bytes)) (s, gate)) e

abbrev file_ok : FileState × ℕ → Result (FileState × ℕ) FileFault
file_ok file = Ok file

ok_is : (x y : FileState × ℕ) → file_ok x ≡ file_ok y → x ≡ y
ok_is x y e = cc

same_version : (total : ℕ) (head : ℕ × ℕ) (read : Result (Contents × ℕ) ℕ) (s : FileState) (gate : ℕ) → ended total head read ≡ Ok (s, gate) → head.0 ≡ s.version
same_version total head (Err left) s gate e = absurd cc
same_version total head (Ok read) s gate e =
    let file : FileState × ℕ = (record { version = head.0; node = head.1; contents = read.0 }, total - read.1) in
    ap (λ (x : FileState × ℕ). x.0.version) (ok_is file (s, gate) (passed (nat_lt 8192 (length read.0.table)) (Store StoreFull) (file_ok file) (s, gate) e))

-- the file has a front
abbrev HasHead : Result (ℕ × ℕ) FileFault → FileState → Type 0
HasHead front s = (head : ℕ × ℕ) × (front ≡ Ok head) × (head.0 ≡ s.version)

head_by : (asked : Option ℕ) (total : ℕ) (behind : List ℕ) (front : Result (ℕ × ℕ) FileFault) (s : FileState) (gate : ℕ) → for_node asked total behind front ≡ Ok (s, gate) → HasHead front s
head_by asked total behind (Err fault) s gate e = absurd cc
head_by asked total behind (Ok head) s gate e =
    let read = contents_from head.0 no_contents 0 behind in
    (head, refl, same_version total head read s gate (passed (is_other asked head.1) OtherNode (ended total head read) (s, gate) e))

head_of : (asked : Option ℕ) (bytes : List ℕ) (s : FileState) (gate : ℕ) → opened asked bytes ≡ Ok (s, gate) → HasHead (front_in (take 10 bytes)) s
unfolding opened
head_of asked bytes s gate e =
    head_by asked (length bytes) (drop 10 bytes) (front_in (take 10 bytes)) s gate
    (passed (nat_lt (length bytes) 11) (Damaged (length bytes)) (for_node asked (length bytes) (drop 10 bytes) (front_in (take 10 bytes))) (s, gate) e)

pub warns_whole : (asked : Option ℕ) (bytes : List ℕ) (s : FileState) (gate : ℕ) → opened asked bytes ≡ Ok (s, gate) → end_of_records bytes ≡ Some gate → warning 0 bytes (opened asked bytes) ≡ changed_gate bytes
unfolding changed_gate
warns_whole asked bytes s gate e end =
    let has = head_of asked bytes s gate e in
    let same : gate - 0 ≡ gate = omega arith in
    ap (warning 0 bytes) e
    ∙ ap (λ (n : ℕ). gate_if_changed s.version gate (drop n bytes)) same
    ∙ ap (λ (version : ℕ). gate_if_changed version gate (drop gate bytes)) (sym has.2)
    ∙ sym (ap (λ (front : Result (ℕ × ℕ) FileFault). changed_at bytes front (end_of_records bytes)) has.1
    ∙ ap (changed_at bytes (Ok has.0)) end)

-- ---- by the bytes from the gate on, behind the front

gate_shut : (gate : ℕ) → gate ≢ 1 → (gate == 1) ≡ false
gate_shut gate shut = grind (arith, nat_tests)

ends_here : (here : ℕ) (bytes : List ℕ) → IsShut bytes → end_from 0 here bytes ≡ Some here
unfolding end_from
ends_here here [] shut = absurd (omega (arith, shut.some))
ends_here here (gate ∷ rest) shut =
    ap (λ (t : Bool). cond t (if_too_long here rest (end_from (36 + length_said rest) (here + 1) rest)) (Some here)) (gate_shut gate shut.shut)

ends_behind : (front bytes : List ℕ) → length front ≡ 10 → IsShut bytes → end_of_records (front ++ bytes) ≡ Some 10
unfolding end_of_records
ends_behind front bytes ten shut = ap (end_from 0 10) (drop_at front bytes 10 ten) ∙ ends_here 10 bytes shut

pub shows_alone : (front bytes : List ℕ) → IsFront front → IsShut bytes → changed_gate (front ++ bytes) ≡ gate_if_changed (version_in front) 10 bytes
unfolding changed_gate
shows_alone front bytes is shut =
    ap (λ (ten : List ℕ). changed_at (front ++ bytes) (front_in ten) (end_of_records (front ++ bytes))) (take_at front bytes 10 is.size)
    ∙ ap (λ (head : Result (ℕ × ℕ) FileFault). changed_at (front ++ bytes) head (end_of_records (front ++ bytes))) is.lawful
    ∙ ap (changed_at (front ++ bytes) (Ok (version_in front, node_in front))) (ends_behind front bytes is.size shut)
    ∙ ap (gate_if_changed (version_in front) 10) (drop_at front bytes 10 is.size)

-- more bytes don't change that
pub shut_more : (bytes more : List ℕ) → IsShut bytes → IsShut (bytes ++ more)
shut_more [] more shut = absurd (omega (arith, shut.some))
shut_more (gate ∷ rest) more shut = record { some = omega arith; shut = shut.shut }

same_test : (a b : Bool) (at : ℕ) → cond a (Some at) None ≡ cond b (Some at) None → a ≡ b
same_test true true at e = refl
same_test true false at e = absurd cc
same_test false true at e = absurd cc
same_test false false at e = refl

abbrev IsSeenClose : Type 0
IsSeenClose = (front rest : List ℕ) (gate : ℕ) → end_of_records front ≡ Some gate → gate + 33554506 ≤ length front → changed_gate (front ++ rest) ≡ changed_gate front

pub seen_close : (front bytes following : List ℕ) → IsSeenClose → IsFront front → IsShut bytes → 33554506 ≤ length bytes → shows_changed_gate (version_in front) (bytes ++ following) ≡ shows_changed_gate (version_in front) bytes
seen_close front bytes following close is shut far =
    same_test (shows_changed_gate (version_in front) (bytes ++ following)) (shows_changed_gate (version_in front) bytes) 10 (
    sym (shows_alone front (bytes ++ following) is (shut_more bytes following shut))
    ∙ ap changed_gate (sym (append_assoc front bytes following))
    ∙ close (front ++ bytes) following 10 (ends_behind front bytes is.size shut) (omega (arith, far, is.size, length-append front bytes))
    ∙ shows_alone front bytes is shut)

-- what is shown at one offset is shown at another
abbrev pub at_if : Bool → ℕ → Option ℕ
at_if shows at = cond shows (Some at) None

pub shown_at : (shows : Bool) (gate at : ℕ) → Some gate ≡ at_if shows 10 → Some at ≡ at_if shows at
shown_at true gate at e = refl
shown_at false gate at e = absurd cc

pub shown_none : (shows : Bool) (at : ℕ) → None ≡ at_if shows 10 → None ≡ at_if shows at
shown_none true at e = absurd cc
shown_none false at e = refl
