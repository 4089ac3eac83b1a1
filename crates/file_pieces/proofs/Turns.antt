-- What is told of a file, one record after the other.
use Rattle.std.proofs.Common.{◌≡◌, ℕ, ◌+◌, ◌-◌, ◌<◌, ◌≤◌, List, ◌++◌, length, drop, Some, Bool, true, false, cond, nat_lt, Result, Ok, Err, refl, sym, ◌∙◌, ap, arith, length-append}
use Rattle.std.specs.FinMap.{is_sorted}
use Rattle.meta_types.specs.Name.{Key}
use Rattle.meta_types.specs.Order.{key_cmp}
use Rattle.dvvset.specs.Object.{Entry}
use Rattle.meta_store.specs.Table.{with_object}
use Rattle.meta_store.specs.Step.{is_full_for}
use Rattle.meta_store.specs.declared.fault.StoreFault.TheVariants.{StoreFull}
use Rattle.node_file.specs.declared.fault.FileFault.{FileFault}
use Rattle.node_file.specs.declared.fault.FileFault.TheVariants.{Damaged, Store}
use Rattle.node_file.specs.declared.record.Record.{Record}
use Rattle.node_file.specs.declared.record.Record.TheVariants.{Life, Object}
use Rattle.node_file.specs.Record.{record_in}
use Rattle.node_file.specs.Fold.{Contents, contents_from, fold_records, life_from, life_with, may_follow, may_follow_life, with_record}
use Rattle.node_file.specs.File.{FileState, ended}
use Rattle.file_pieces.specs.Framing.{IsFramed, IsUnfinished, IsShut, IsOverlong}
use Rattle.file_pieces.specs.Progress.{ReadSoFar, ended_full, moved_on, told_of, with_life, with_said, with_too_many}
use Rattle.file_pieces.specs.Told.{state_of}
use Rattle.file_pieces.proofs.Framing.{not_below}
use Rattle.file_pieces.proofs.Folds.{LeftWithin, framed_fails, framed_goes_on, left_within, long_fails, short_fails, shut_ends}
use Rattle.file_pieces.proofs.Full.{ended_many, many_end, tells, too_many_with}

-- ---- what is told, by the records

abbrev of_contents : ReadSoFar → List ℕ → Result (Contents × ℕ) ℕ
of_contents p bytes = fold_records may_follow with_record p.version p.contents 0 bytes

abbrev of_lives : ReadSoFar → List ℕ → Result (ℕ × ℕ) ℕ
of_lives p bytes = fold_records may_follow_life life_with p.version p.contents.life 0 bytes

told_by : (p : ReadSoFar) (bytes : List ℕ) (flag : Bool) → p.has_too_many ≡ flag → told_of p bytes ≡ cond flag (ended_full (p.at + length bytes) (of_lives p bytes)) (ended (p.at + length bytes) (p.version, p.node) (of_contents p bytes))
unfolding told_of contents_from life_from
told_by p bytes flag is = ap (λ (t : Bool). cond t (ended_full (p.at + length bytes) (of_lives p bytes)) (ended (p.at + length bytes) (p.version, p.node) (of_contents p bytes))) is

ended_failed : (at left : ℕ) (front : ℕ × ℕ) (read : Result (Contents × ℕ) ℕ) → read ≡ Err left → ended (at + left) front read ≡ Err (Damaged at)
ended_failed at left front read is = ap (ended (at + left) front) is ∙ ap (λ (n : ℕ). Err (Damaged n)) (omega arith)

full_failed : (at left : ℕ) (read : Result (ℕ × ℕ) ℕ) → read ≡ Err left → ended_full (at + left) read ≡ Err (Damaged at)
full_failed at left read is = ap (ended_full (at + left)) is ∙ ap (λ (n : ℕ). Err (Damaged n)) (omega arith)

ended_well : (at left : ℕ) (front : ℕ × ℕ) (c : Contents) (read : Result (Contents × ℕ) ℕ) → length c.table ≤ 8192 → read ≡ Ok (c, left) → ended (at + left) front read ≡ Ok (record { version = front.0; node = front.1; contents = c }, at)
ended_well at left front c read few is =
    ap (ended (at + left) front) is
    ∙ ap (λ (t : Bool). cond t (Err (Store StoreFull)) (Ok (record { version = front.0; node = front.1; contents = c }, (at + left) - left))) (not_below 8192 (length c.table) few)
    ∙ ap (λ (n : ℕ). Ok (record { version = front.0; node = front.1; contents = c }, n)) (omega arith)

-- ---- the gate that ends the records

pub ends_well : (p : ReadSoFar) (bytes x : List ℕ) → IsShut bytes → p.has_too_many ≡ false → length p.contents.table ≤ 8192 → told_of p (bytes ++ x) ≡ Ok (state_of p, p.at)
ends_well p bytes x shut flag few =
    told_by p (bytes ++ x) false flag
    ∙ ended_well p.at (length (bytes ++ x)) (p.version, p.node) p.contents (of_contents p (bytes ++ x)) few (shut_ends may_follow with_record p.version p.contents bytes x shut)

pub ends_full : (p : ReadSoFar) (bytes x : List ℕ) → IsShut bytes → p.has_too_many ≡ true → told_of p (bytes ++ x) ≡ Err (Store StoreFull)
ends_full p bytes x shut flag =
    told_by p (bytes ++ x) true flag
    ∙ ap (ended_full (p.at + length (bytes ++ x))) (shut_ends may_follow_life life_with p.version p.contents.life bytes x shut)

never_full : (total : ℕ) (read : Result (ℕ × ℕ) ℕ) (file : FileState × ℕ) → ended_full total read ≡ Ok file → ⊥
never_full total (Err left) file e = cc
never_full total (Ok read) file e = cc

abbrev file_ok : FileState × ℕ → Result (FileState × ℕ) FileFault
file_ok file = Ok file

ok_is : (x y : FileState × ℕ) → file_ok x ≡ file_ok y → x ≡ y
ok_is x y e = cc

with_room : (full : Bool) (x y : FileState × ℕ) → cond full (Err (Store StoreFull)) (file_ok x) ≡ file_ok y → x ≡ y
with_room true x y e = absurd cc
with_room false x y e = ok_is x y e

ended_behind : (at n : ℕ) (front : ℕ × ℕ) (read : Result (Contents × ℕ) ℕ) (s : FileState) (gate : ℕ) → LeftWithin n read → ended (at + n) front read ≡ Ok (s, gate) → at ≤ gate
ended_behind at n front (Err left) s gate within e = absurd cc
ended_behind at n front (Ok read) s gate within e =
    let file : FileState × ℕ = (record { version = front.0; node = front.1; contents = read.0 }, (at + n) - read.1) in
    let same : file ≡ (s, gate) = with_room (nat_lt 8192 (length read.0.table)) file (s, gate) e in
    omega (arith, within, ap (λ (x : FileState × ℕ). x.1) same)

behind_by : (p : ReadSoFar) (bytes : List ℕ) (flag : Bool) (s : FileState) (gate : ℕ) → p.has_too_many ≡ flag → told_of p bytes ≡ Ok (s, gate) → p.at ≤ gate
behind_by p bytes true s gate flag e = absurd (never_full (p.at + length bytes) (of_lives p bytes) (s, gate) (sym (told_by p bytes true flag) ∙ e))
behind_by p bytes false s gate flag e =
    ended_behind p.at (length bytes) (p.version, p.node) (of_contents p bytes) s gate
    (left_within may_follow with_record p.version bytes p.contents 0) (sym (told_by p bytes false flag) ∙ e)

-- it stands behind what was read
pub gate_behind : (p : ReadSoFar) (bytes : List ℕ) (s : FileState) (gate : ℕ) → told_of p bytes ≡ Ok (s, gate) → p.at ≤ gate
gate_behind p bytes s gate e = behind_by p bytes p.has_too_many s gate refl e

-- ---- what isn't a record that may follow

fails_by : (p : ReadSoFar) (bytes : List ℕ) (flag : Bool) → p.has_too_many ≡ flag → of_contents p bytes ≡ Err (length bytes) → of_lives p bytes ≡ Err (length bytes) → told_of p bytes ≡ Err (Damaged p.at)
fails_by p bytes true flag contents lives = told_by p bytes true flag ∙ full_failed p.at (length bytes) (of_lives p bytes) lives
fails_by p bytes false flag contents lives = told_by p bytes false flag ∙ ended_failed p.at (length bytes) (p.version, p.node) (of_contents p bytes) contents

pub fails_short : (p : ReadSoFar) (bytes : List ℕ) → IsUnfinished bytes → told_of p bytes ≡ Err (Damaged p.at)
fails_short p bytes short = fails_by p bytes p.has_too_many refl (short_fails may_follow with_record p.version p.contents bytes short) (short_fails may_follow_life life_with p.version p.contents.life bytes short)

pub fails_long : (p : ReadSoFar) (bytes x : List ℕ) → IsOverlong bytes → told_of p (bytes ++ x) ≡ Err (Damaged p.at)
fails_long p bytes x long = fails_by p (bytes ++ x) p.has_too_many refl (long_fails may_follow with_record p.version p.contents bytes x long) (long_fails may_follow_life life_with p.version p.contents.life bytes x long)

same_may : (c : Contents) (said : Record) → may_follow c said ≡ may_follow_life c.life said
same_may c (Life n) = refl
same_may c (Object k o) = refl

pub fails_framed : (p : ReadSoFar) (bytes x : List ℕ) → IsFramed bytes → ((said : Record) (size : ℕ) → record_in p.version (drop 1 bytes) ≡ Some (said, size) → may_follow_life p.contents.life said ≡ false) → told_of p (bytes ++ x) ≡ Err (Damaged p.at)
fails_framed p bytes x framed strays =
    fails_by p (bytes ++ x) p.has_too_many refl
    (framed_fails may_follow with_record p.version p.contents bytes x framed (λ said size is. same_may p.contents said ∙ strays said size is))
    (framed_fails may_follow_life life_with p.version p.contents.life bytes x framed strays)

-- ---- a record that may follow

-- so many bytes on, with these contents
abbrev on_with : ReadSoFar → Contents → Bool → ℕ → ReadSoFar
on_with p c flag n = record { version = p.version; node = p.node; contents = c; has_too_many = flag; at = p.at + n }

sums : (p : ReadSoFar) (bytes x : List ℕ) → (p.at + length bytes) + length x ≡ p.at + length (bytes ++ x)
sums p bytes x = omega (arith, length-append bytes x)

goes_on : (p : ReadSoFar) (c : Contents) (bytes x : List ℕ) → p.has_too_many ≡ false → of_contents p (bytes ++ x) ≡ fold_records may_follow with_record p.version c 0 x → told_of (on_with p c p.has_too_many (length bytes)) x ≡ told_of p (bytes ++ x)
goes_on p c bytes x flag same =
    told_by (on_with p c p.has_too_many (length bytes)) x false flag
    ∙ ap (λ (n : ℕ). ended n (p.version, p.node) (fold_records may_follow with_record p.version c 0 x)) (sums p bytes x)
    ∙ ap (ended (p.at + length (bytes ++ x)) (p.version, p.node)) (sym same)
    ∙ sym (told_by p (bytes ++ x) false flag)

lives_on : (p : ReadSoFar) (c : Contents) (bytes x : List ℕ) → p.has_too_many ≡ true → of_lives p (bytes ++ x) ≡ fold_records may_follow_life life_with p.version c.life 0 x → told_of (on_with p c p.has_too_many (length bytes)) x ≡ told_of p (bytes ++ x)
lives_on p c bytes x flag same =
    told_by (on_with p c p.has_too_many (length bytes)) x true flag
    ∙ ap (λ (n : ℕ). ended_full n (fold_records may_follow_life life_with p.version c.life 0 x)) (sums p bytes x)
    ∙ ap (ended_full (p.at + length (bytes ++ x))) (sym same)
    ∙ sym (told_by p (bytes ++ x) true flag)

-- from here on there are too many
is_overfull : (p : ReadSoFar) (c : Contents) (bytes x : List ℕ) → p.has_too_many ≡ false → c.life ≡ p.contents.life → 8192 < length c.table → of_contents p (bytes ++ x) ≡ fold_records may_follow with_record p.version c 0 x → told_of (on_with p p.contents true (length bytes)) x ≡ told_of p (bytes ++ x)
is_overfull p c bytes x flag life many same =
    told_by (on_with p p.contents true (length bytes)) x true refl
    ∙ ap (λ (n : ℕ). ended_full n (fold_records may_follow_life life_with p.version p.contents.life 0 x)) (sums p bytes x)
    ∙ ap (λ (n : ℕ). ended_full (p.at + length (bytes ++ x)) (fold_records may_follow_life life_with p.version n 0 x)) (sym life)
    ∙ ap (ended_full (p.at + length (bytes ++ x))) (sym (tells p.version x c 0))
    ∙ sym (ended_many (p.at + length (bytes ++ x)) (p.version, p.node) (fold_records may_follow with_record p.version c 0 x) (many_end p.version x c 0 many))
    ∙ ap (ended (p.at + length (bytes ++ x)) (p.version, p.node)) (sym same)
    ∙ sym (told_by p (bytes ++ x) false flag)

takes_life : (p : ReadSoFar) (bytes x : List ℕ) (n size : ℕ) (flag : Bool) → p.has_too_many ≡ flag → IsFramed bytes → record_in p.version (drop 1 bytes) ≡ Some (Life n, size) → nat_lt p.contents.life n ≡ true → told_of (moved_on (with_life p n) (length bytes)) x ≡ told_of p (bytes ++ x)
takes_life p bytes x n size true flag framed is follows = lives_on p (with_record p.contents (Life n)) bytes x flag (framed_goes_on may_follow_life life_with p.version p.contents.life bytes x (Life n) size framed is follows)
takes_life p bytes x n size false flag framed is follows = goes_on p (with_record p.contents (Life n)) bytes x flag (framed_goes_on may_follow with_record p.version p.contents bytes x (Life n) size framed is follows)

-- by whether there are too many, and whether there is room for the key
abbrev pub with_by : Bool → Bool → ReadSoFar → Key → List Entry → ReadSoFar
with_by many full p k o = cond many p (cond full (with_too_many p) (record {
  version = p.version;
  node = p.node;
  contents = record { life = p.contents.life; table = with_object k o p.contents.table };
  has_too_many = p.has_too_many;
  at = p.at;
}))

takes_object : (p : ReadSoFar) (bytes x : List ℕ) (k : Key) (o : List Entry) (size : ℕ) (flag full : Bool) → p.has_too_many ≡ flag → is_full_for p.contents.table k ≡ full → IsFramed bytes → record_in p.version (drop 1 bytes) ≡ Some (Object k o, size) → is_sorted key_cmp p.contents.table ≡ true → told_of (moved_on (with_by flag full p k o) (length bytes)) x ≡ told_of p (bytes ++ x)
takes_object p bytes x k o size true full flag room framed is rising = lives_on p p.contents bytes x flag (framed_goes_on may_follow_life life_with p.version p.contents.life bytes x (Object k o) size framed is refl)
takes_object p bytes x k o size false true flag room framed is rising = is_overfull p (with_record p.contents (Object k o)) bytes x flag refl (too_many_with p.contents.table k o rising room) (framed_goes_on may_follow with_record p.version p.contents bytes x (Object k o) size framed is refl)
takes_object p bytes x k o size false false flag room framed is rising = goes_on p (with_record p.contents (Object k o)) bytes x flag (framed_goes_on may_follow with_record p.version p.contents bytes x (Object k o) size framed is refl)

pub takes_said : (p : ReadSoFar) (bytes x : List ℕ) (said : Record) (size : ℕ) → IsFramed bytes → record_in p.version (drop 1 bytes) ≡ Some (said, size) → may_follow_life p.contents.life said ≡ true → is_sorted key_cmp p.contents.table ≡ true → told_of (moved_on (with_said p said) (length bytes)) x ≡ told_of p (bytes ++ x)
takes_said p bytes x (Life n) size framed is follows rising = takes_life p bytes x n size p.has_too_many refl framed is follows
takes_said p bytes x (Object k o) size framed is follows rising = takes_object p bytes x k o size p.has_too_many (is_full_for p.contents.table k) refl refl framed is rising
