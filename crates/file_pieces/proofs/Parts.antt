-- Bytes that were read, and those behind them.
use Rattle.std.proofs.Common.{◌≡◌, ◌≢◌, ℕ, ◌+◌, ◌-◌, ◌<◌, ◌≤◌, List, [], ◌∷◌, ◌++◌, length, take, drop, Option, Some, None, Bool, true, false, cond, Err, refl, sym, ◌∙◌, ap, subst, arith, append_assoc, append-nil, length-append}
use Rattle.std.proofs.lemmas.List.{drop-drop, drop_at}
use Rattle.node_file.specs.declared.fault.FileFault.{FileFault}
use Rattle.node_file.specs.declared.fault.FileFault.TheVariants.{Damaged, Store}
use Rattle.meta_store.specs.declared.fault.StoreFault.TheVariants.{StoreFull}
use Rattle.node_file.specs.declared.record.Record.{Record}
use Rattle.node_file.specs.declared.record.Record.TheVariants.{Life, Object}
use Rattle.node_file.specs.Record.{record_in}
use Rattle.node_file.specs.Fold.{may_follow_life}
use Rattle.node_file.specs.File.{for_node, front_in, opened}
use Rattle.meta_types.specs.Name.{Key}
use Rattle.dvvset.specs.Object.{Entry}
use Rattle.meta_store.specs.Table.{IsTable, Table}
use Rattle.meta_store.specs.Step.{is_full_for}
use Rattle.file_pieces.specs.declared.stage.Stage.{Stage}
use Rattle.file_pieces.specs.declared.stage.Stage.TheVariants.{Ended, Front, Records, Refused}
use Rattle.file_pieces.specs.Alone.{IsSaid, version_in}
use Rattle.file_pieces.specs.Framing.{IsFramed, IsUnfinished, IsShut, IsOverlong}
use Rattle.file_pieces.specs.Progress.{HasTaken, ReadSoFar, told_of, with_said}
use Rattle.file_pieces.specs.Told.{Came, HasRead, IsWaiting, tells, told, warned, warning}
use Rattle.file_pieces.proofs.Framing.{below, not_below}
use Rattle.file_pieces.proofs.Turns.{ends_full, ends_well, fails_framed, fails_long, fails_short, takes_said, with_by}
use Rattle.file_pieces.proofs.Warned.{warns_none, warns_on}

-- ---- one record

no_life : (life : ℕ) (said : Record) → said ≡ Life 0 → may_follow_life life said ≡ false
no_life life said is = ap (may_follow_life life) is ∙ not_below life 0 (omega arith)

at_by : (p : ReadSoFar) (k : Key) (o : List Entry) (many full : Bool) → (with_by many full p k o).at ≡ p.at
at_by p k o true full = refl
at_by p k o false true = refl
at_by p k o false false = refl

at_said : (p : ReadSoFar) (said : Record) → (with_said p said).at ≡ p.at
at_said p (Life n) = refl
at_said p (Object k o) = at_by p k o p.has_too_many (is_full_for p.contents.table k)

read_at : (v w : ℕ) (bytes : List ℕ) → v ≡ w → (r : Option (Record × ℕ)) → record_in w bytes ≡ r → record_in v bytes ≡ r
read_at v w bytes same r is = ap (λ (n : ℕ). record_in n bytes) same ∙ is

pub took_none : (p : ReadSoFar) (bytes front : List ℕ) (read : Option Record) → version_in front ≡ p.version → read ≡ None → IsFramed bytes → IsSaid (record_in (version_in front) (drop 1 bytes)) read → HasTaken bytes p p false
took_none p bytes front read version none framed said =
    let nothing : IsSaid (record_in (version_in front) (drop 1 bytes)) None = subst (IsSaid (record_in (version_in front) (drop 1 bytes))) none said in
    (refl, λ rest. fails_framed p bytes rest framed (λ r size is. no_life p.contents.life r (nothing r size (read_at (version_in front) p.version (drop 1 bytes) version (Some (r, size)) is))))

some_read : (a b : Record × ℕ) → Some a ≡ Some b → a ≡ b
some_read a b e = cc

pub took_stray : (p new : ReadSoFar) (bytes front : List ℕ) (read : Option Record) (said : Record) (taken : Bool) → version_in front ≡ p.version → read ≡ Some said → IsFramed bytes → IsSaid (record_in (version_in front) (drop 1 bytes)) read → taken ≡ may_follow_life p.contents.life said → taken ≡ false → new ≡ p → HasTaken bytes p new false
took_stray p new bytes front read said taken version some framed says follows isnt same =
    let is : IsSaid (record_in (version_in front) (drop 1 bytes)) (Some said) = subst (IsSaid (record_in (version_in front) (drop 1 bytes))) some says in (
      same,
      λ rest. fails_framed p bytes rest framed (λ r size of. ap (λ (x : Record × ℕ). may_follow_life p.contents.life x.0)
          (some_read (r, size) (said, is.0) (sym (read_at (version_in front) p.version (drop 1 bytes) version (Some (r, size)) of) ∙ is.1)) ∙ sym follows ∙ isnt),
    )

-- with another count of bytes
abbrev pub at_with : ReadSoFar → ℕ → ReadSoFar
at_with p n = record { version = p.version; node = p.node; contents = p.contents; has_too_many = p.has_too_many; at = n }

pub took_said : (p new : ReadSoFar) (bytes front : List ℕ) (table : Table) (at : ℕ) (read : Option Record) (said : Record) (taken : Bool) → version_in front ≡ p.version → read ≡ Some said → IsFramed bytes → IsSaid (record_in (version_in front) (drop 1 bytes)) read → taken ≡ may_follow_life p.contents.life said → taken ≡ true → new ≡ with_said p said → IsTable table → table ≡ p.contents.table → at ≡ p.at + length bytes → (rest : List ℕ) → told_of (at_with new at) rest ≡ told_of p (bytes ++ rest)
took_said p new bytes front table at read said taken version some framed says follows is_so next lawful same sum rest =
    let is : IsSaid (record_in (version_in front) (drop 1 bytes)) (Some said) = subst (IsSaid (record_in (version_in front) (drop 1 bytes))) some says in
    let here : record_in p.version (drop 1 bytes) ≡ Some (said, is.0) = read_at p.version (version_in front) (drop 1 bytes) (sym version) (Some (said, is.0)) is.1 in
    let held : IsTable p.contents.table = subst IsTable same lawful in
    ap (λ (q : ReadSoFar). told_of (at_with q at) rest) next
    ∙ ap (λ (n : ℕ). told_of (at_with (with_said p said) n) rest) (sum ∙ ap (λ (n : ℕ). n + length bytes) (sym (at_said p said)))
    ∙ takes_said p bytes rest said is.0 framed here (sym follows ∙ is_so) held.rising

-- ---- a file that is refused

refused_waits : (stage : Stage) (bytes : List ℕ) (fault : FileFault) → stage ≡ Refused fault → IsWaiting stage bytes
refused_waits stage bytes fault is = record {
  front = λ asked e. absurd cc;
  records = λ p e. absurd cc;
  ended = λ p e. absurd cc;
}

pub reads_refused : (old new : Stage) (bytes : List ℕ) (fault : FileFault) → new ≡ Refused fault → ((following : List ℕ) → told old (bytes ++ following) ≡ Err fault) → HasRead old new (length bytes) bytes
reads_refused old new bytes fault is fails = record {
  within = omega arith;
  tells = λ following. ap (λ (s : Stage). told s (drop (length bytes) bytes ++ following)) is ∙ sym (fails following);
  warns = λ following. ap (λ (s : Stage). warned s (drop (length bytes) bytes ++ following)) is ∙ sym (warns_none old (bytes ++ following) fault (fails following));
  waits = refused_waits new (drop (length bytes) bytes) fault is;
}

abbrev GoesOnAs : ReadSoFar → List ℕ → ReadSoFar → List ℕ → Type 0
GoesOnAs p rest begun bytes = (following : List ℕ) → told_of p (rest ++ following) ≡ told_of begun (bytes ++ following)

refuses : (begun p : ReadSoFar) (bytes rest : List ℕ) (stage : Stage) (fault : FileFault) → stage ≡ Refused fault → ((following : List ℕ) → told_of p (rest ++ following) ≡ Err fault) → GoesOnAs p rest begun bytes → HasRead (Records begun) stage (length bytes) bytes
refuses begun p bytes rest stage fault is fails so_far = reads_refused (Records begun) stage bytes fault is (λ following. sym (so_far following) ∙ fails following)

pub was_too_long : (begun p : ReadSoFar) (bytes rest : List ℕ) (stage : Stage) (at : ℕ) → IsOverlong rest → stage ≡ Refused (Damaged at) → at ≡ p.at → GoesOnAs p rest begun bytes → HasRead (Records begun) stage (length bytes) bytes
was_too_long begun p bytes rest stage at long is here so_far = refuses begun p bytes rest stage (Damaged p.at) (is ∙ ap (λ (n : ℕ). Refused (Damaged n)) here) (λ following. fails_long p rest following long) so_far

pub was_refused : (begun p new : ReadSoFar) (bytes rest record_ behind : List ℕ) (stage : Stage) (at : ℕ) (taken : Bool) → rest ≡ record_ ++ behind → taken ≡ false → HasTaken record_ p new taken → stage ≡ Refused (Damaged at) → at ≡ new.at → GoesOnAs p rest begun bytes → HasRead (Records begun) stage (length bytes) bytes
was_refused begun p new bytes rest record_ behind stage at taken parts isnt took is here so_far =
    let failed : HasTaken record_ p new false = subst (HasTaken record_ p new) isnt took in
    refuses begun p bytes rest stage (Damaged p.at) (is ∙ ap (λ (n : ℕ). Refused (Damaged n)) (here ∙ ap (λ (q : ReadSoFar). q.at) failed.0))
    (λ following. ap (λ (l : List ℕ). told_of p (l ++ following)) parts ∙ ap (told_of p) (append_assoc record_ behind following) ∙ failed.1 (behind ++ following)) so_far

-- ---- one record more, or none

-- the records in front of the rest were read
abbrev pub IsReadUpTo : ReadSoFar → ReadSoFar → List ℕ → List ℕ → Type 0
IsReadUpTo begun p bytes rest = (before : List ℕ) × (bytes ≡ before ++ rest) × (p.at ≡ begun.at + length before) × GoesOnAs p rest begun bytes

pub went_on : (begun p new : ReadSoFar) (bytes rest record_ behind : List ℕ) (taken : Bool) → rest ≡ record_ ++ behind → taken ≡ true → HasTaken record_ p new taken → IsReadUpTo begun p bytes rest → IsReadUpTo begun new bytes behind
went_on begun p new bytes rest record_ behind taken parts is took so_far =
    let before = so_far.0 in
    let goes : HasTaken record_ p new true = subst (HasTaken record_ p new) is took in (
      before ++ record_,
      so_far.1 ∙ ap (λ (l : List ℕ). before ++ l) parts ∙ sym (append_assoc before record_ behind),
      omega (arith, goes.0, so_far.2, length-append before record_),
      λ following. goes.1 (behind ++ following) ∙ ap (told_of p) (sym (append_assoc record_ behind following)) ∙ ap (λ (l : List ℕ). told_of p (l ++ following)) (sym parts) ∙ so_far.3 following,
    )

-- what was read of the rest was read of them all
pub read_up_to : (begun p : ReadSoFar) (bytes rest : List ℕ) (new : Stage) (read : ℕ) → read ≡ length bytes - length rest → HasRead (Records p) new 0 rest → IsReadUpTo begun p bytes rest → HasRead (Records begun) new read bytes
read_up_to begun p bytes rest new read count has so_far =
    let before = so_far.0 in
    let size : length bytes ≡ length before + length rest = ap length so_far.1 ∙ length-append before rest in
    let here : read ≡ length before = omega (arith, count, size) in
    let left : drop read bytes ≡ rest = ap (λ (n : ℕ). drop n bytes) here ∙ ap (drop (length before)) so_far.1 ∙ drop_at before rest (length before) refl in
    record {
      within = omega (arith, here, size);
      tells = λ following. ap (λ (l : List ℕ). told new (l ++ following)) left ∙ has.tells following ∙ so_far.3 following;
      warns = λ following. ap (λ (l : List ℕ). warned new (l ++ following)) left
          ∙ has.warns following
          ∙ warns_on p before (rest ++ following) begun.at (told_of begun (bytes ++ following)) so_far.2 (so_far.3 following)
          ∙ ap (λ (l : List ℕ). warning begun.at l (told_of begun (bytes ++ following))) (sym (append_assoc before rest following) ∙ ap (λ (l : List ℕ). l ++ following) (sym so_far.1));
      waits = subst (IsWaiting new) (sym left) has.waits;
    }

pub waits_for_more : (p : ReadSoFar) (rest : List ℕ) → IsUnfinished rest → HasRead (Records p) (Records p) 0 rest
waits_for_more p rest short = record {
  within = omega arith;
  tells = λ following. refl;
  warns = λ following. refl;
  waits = record { front = λ asked e. absurd cc; records = λ q e. short; ended = λ q e. absurd cc };
}

-- at the gate that ends the records
pub stops_full : (p : ReadSoFar) (bytes : List ℕ) → IsShut bytes → p.has_too_many ≡ true → HasRead (Records p) (Refused (Store StoreFull)) 0 bytes
stops_full p bytes shut flag = record {
  within = omega arith;
  tells = λ following. sym (ends_full p bytes following shut flag);
  warns = λ following. sym (warns_none (Records p) (bytes ++ following) (Store StoreFull) (ends_full p bytes following shut flag));
  waits = refused_waits (Refused (Store StoreFull)) bytes (Store StoreFull) refl;
}

pub stops_well : (p : ReadSoFar) (bytes : List ℕ) → IsShut bytes → p.has_too_many ≡ false → length p.contents.table ≤ 8192 → HasRead (Records p) (Ended p) 0 bytes
stops_well p bytes shut flag few = record {
  within = omega arith;
  tells = λ following. sym (ends_well p bytes following shut flag few);
  warns = λ following. sym (ap (warning p.at (bytes ++ following)) (ends_well p bytes following shut flag few));
  waits = record { front = λ asked e. absurd cc; records = λ q e. absurd cc; ended = λ q e. shut };
}

-- ---- behind the front

no_empty : (a b : List ℕ) → 1 ≤ length a → a ++ b ≢ []
no_empty [] b some e = absurd (omega (arith, some))
no_empty (x ∷ a) b some e = cc

drops : (a b : List ℕ) (n m : ℕ) → length a ≡ m → drop (m + n) (a ++ b) ≡ drop n b
drops a b n m is = sym (drop-drop n m (a ++ b)) ∙ ap (drop n) (drop_at a b m is)

pub behind_front : (asked : Option ℕ) (p : ReadSoFar) (new : Stage) (read : ℕ) (front behind bytes : List ℕ) → bytes ≡ front ++ behind → length front ≡ 10 → 1 ≤ length behind → p.at ≡ 10 → ((rest : List ℕ) → rest ≢ [] → opened asked (front ++ rest) ≡ told_of p rest) → HasRead (Records p) new read behind → HasRead (Front asked) new (10 + read) bytes
behind_front asked p new read front behind bytes split ten some at begun has =
    let left : drop (10 + read) bytes ≡ drop read behind = ap (drop (10 + read)) split ∙ drops front behind read 10 ten in
    record {
      within = omega (arith, has.within, ap length split, length-append front behind, ten);
      tells = λ following. ap (λ (l : List ℕ). told new (l ++ following)) left
          ∙ has.tells following
          ∙ sym (begun (behind ++ following) (no_empty behind following some))
          ∙ ap (opened asked) (sym (append_assoc front behind following))
          ∙ ap (λ (l : List ℕ). opened asked (l ++ following)) (sym split);
      warns = λ following. ap (λ (l : List ℕ). warned new (l ++ following)) left
          ∙ has.warns following
          ∙ warns_on p front (behind ++ following) 0 (opened asked (front ++ (behind ++ following))) (omega (arith, at, ten)) (sym (begun (behind ++ following) (no_empty behind following some)))
          ∙ ap (warned (Front asked)) (sym (append_assoc front behind following) ∙ ap (λ (l : List ℕ). l ++ following) (sym split));
      waits = subst (IsWaiting new) (sym left) has.waits;
    }

-- ---- a file that ends too early

front_short : (asked : Option ℕ) (bytes : List ℕ) → length bytes < 11 → opened asked (bytes ++ []) ≡ Err (Damaged (length bytes))
unfolding opened
front_short asked bytes few =
    ap (opened asked) (append-nil bytes)
    ∙ ap (λ (t : Bool). cond t (Err (Damaged (length bytes))) (for_node asked (length bytes) (drop 10 bytes) (front_in (take 10 bytes)))) (below (length bytes) 11 few)

abbrev came_as : Stage → List ℕ → Came
came_as stage rest = record { stage = stage; rest = rest }

pub ends_in_front : (came : Came) (stage : Stage) (asked : Option ℕ) (rest : List ℕ) (n : ℕ) → came_as stage rest ≡ came → stage ≡ Front asked → length rest < 11 → n ≡ length rest → tells came [] ≡ Err (Damaged n)
ends_in_front came stage asked rest n is here few count =
    sym (ap (λ (x : Came). tells x []) is)
    ∙ ap (λ (s : Stage). told s (rest ++ [])) here
    ∙ front_short asked rest few
    ∙ ap (λ (m : ℕ). Err (Damaged m)) (sym count)

pub ends_in_records : (came : Came) (stage : Stage) (p : ReadSoFar) (rest : List ℕ) (at : ℕ) → came_as stage rest ≡ came → stage ≡ Records p → IsUnfinished rest → at ≡ p.at → tells came [] ≡ Err (Damaged at)
ends_in_records came stage p rest at is here unfinished same =
    sym (ap (λ (x : Came). tells x []) is)
    ∙ ap (λ (s : Stage). told s (rest ++ [])) here
    ∙ ap (told_of p) (append-nil rest)
    ∙ fails_short p rest unfinished
    ∙ ap (λ (m : ℕ). Err (Damaged m)) (sym same)
