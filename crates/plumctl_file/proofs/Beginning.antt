-- Bytes that are damaged at 0 begin as no node file does.
use Rattle.std.proofs.Common.{◌≡◌, ◌↔◌, ℕ, zero, suc, ◌+◌, ◌-◌, ◌≤◌, ◌==◌, List, [], ◌∷◌, length, take, drop, Option, Some, None, is_none, Result, Ok, Err, Bool, true, false, cond, nat_lt, nat_eq, IsTrue, refl, sym, ap, subst, ◌∙◌, arith, length-drop}
use Rattle.std.proofs.lemmas.Bool.Decides.{nat_tests}
use Rattle.std.proofs.lemmas.List.{take-take}
use Rattle.node_file.specs.declared.fault.FileFault.{FileFault}
use Rattle.node_file.specs.declared.fault.FileFault.TheVariants.{Damaged, Store}
use Rattle.node_file.specs.declared.record.Record.{Record}
use Rattle.node_file.specs.Record.{record_in}
use Rattle.node_file.specs.Fold.{Contents, after_record, contents_from, fold_records, may_follow, no_contents, with_record}
use Rattle.node_file.specs.File.{FileState, ended, for_node, front_in, front_of, opened, version_of}
use Rattle.meta_store.specs.Table.{most_keys}
use Rattle.meta_store.specs.declared.fault.StoreFault.TheVariants.{StoreFull}
use Rattle.plumctl_file.specs.Report.{begins_otherwise}

-- ---- a gate that damages stands among the bytes

abbrev LeavesAtMost : ℕ → Result (Contents × ℕ) ℕ → Type 0
LeavesAtMost n (Ok read) = Unit {0}
LeavesAtMost n (Err left) = left ≤ n

more_room : (n m : ℕ) (read : Result (Contents × ℕ) ℕ) → n ≤ m → LeavesAtMost n read → LeavesAtMost m read
more_room n m (Ok read) le few = tt
more_room n m (Err left) le few = omega (arith, le, few)

by_test : (g : Bool) (n left : ℕ) (read : Result (Contents × ℕ) ℕ) → left ≤ n → LeavesAtMost n read → LeavesAtMost n (cond g read (Err left))
by_test true n left read le few = few
by_test false n left read le few = le

by_gate : (g : Bool) (c : Contents) (n left : ℕ) (read : Result (Contents × ℕ) ℕ) → LeavesAtMost n read → LeavesAtMost n (cond g read (Ok (c, left)))
by_gate true c n left read few = few
by_gate false c n left read few = tt

by_record : (c : Contents) (n left : ℕ) (r : Option (Record × ℕ)) (more : Contents → ℕ → Result (Contents × ℕ) ℕ) → left ≤ n → ((d : Contents) (skip : ℕ) → LeavesAtMost n (more d skip)) → LeavesAtMost n (after_record may_follow with_record c left r more)
by_record c n left None more le few = le
by_record c n left (Some r) more le few = by_test (may_follow c r.0) n left (more (with_record c r.0) r.1) le (few (with_record c r.0) r.1)

few_walk : (version : ℕ) (b : List ℕ) (c : Contents) (skip : ℕ) → LeavesAtMost (length b) (fold_records may_follow with_record version c skip b)
unfolding fold_records
few_walk version [] c zero = omega arith
few_walk version [] c (suc skip) = omega arith
few_walk version (x ∷ b) c (suc skip) = more_room (length b) (length (x ∷ b)) (fold_records may_follow with_record version c skip b) (omega arith) (few_walk version b c skip)
few_walk version (gate ∷ b) c zero =
    let more : Contents → ℕ → Result (Contents × ℕ) ℕ = λ d skip. fold_records may_follow with_record version d skip b in
    by_gate (gate == 1) c (length (gate ∷ b)) (length b + 1) (after_record may_follow with_record c (length b + 1) (record_in version b) more)
    (by_record c (length (gate ∷ b)) (length b + 1) (record_in version b) more (omega arith) (λ d skip. more_room (length b) (length (gate ∷ b)) (more d skip) (omega arith) (few_walk version b d skip)))

few_left : (version : ℕ) (b : List ℕ) → LeavesAtMost (length b) (contents_from version no_contents 0 b)
unfolding contents_from
few_left version b = few_walk version b no_contents 0

-- ---- which damage is at 0

abbrev damaged : ℕ → Result (FileState × ℕ) FileFault
damaged at = Err (Damaged at)

damaged_is : (n m : ℕ) → damaged n ≡ damaged m → n ≡ m
damaged_is n m e = cc

of_few : (n : ℕ) → (damaged n ≡ damaged 0) ↔ IsTrue (nat_eq n 0)
of_few n = (λ e. same n (damaged_is n 0 e), λ is_so. ap damaged (zero_is n is_so))
  where
    same : (n : ℕ) → n ≡ 0 → IsTrue (nat_eq n 0)
    same n e = grind (arith, nat_tests)

    zero_is : (n : ℕ) → IsTrue (nat_eq n 0) → n ≡ 0
    zero_is n is_so = grind (arith, nat_tests)

full_or_read : (full : Bool) (read : FileState × ℕ) → cond full (Err (Store StoreFull)) (Ok read) ≡ damaged 0 → ⊥
full_or_read true read e = cc e
full_or_read false read e = cc e

never_behind : (total n : ℕ) (front : ℕ × ℕ) (read : Result (Contents × ℕ) ℕ) → total ≡ n + 10 → LeavesAtMost n read → ended total front read ≡ damaged 0 → ⊥
never_behind total n front (Ok read) is few e =
    full_or_read (nat_lt most_keys (length read.0.table)) (record { version = front.0; node = front.1; contents = read.0 }, total - read.1) e
never_behind total n front (Err left) is few e = let at : total - left ≡ 0 = damaged_is (total - left) 0 e in omega (arith, at, is, few)

by_node : (outside : Bool) (version node total : ℕ) (behind : List ℕ) → total ≡ length behind + 10 → for_node None total behind (cond outside (Err (Damaged 8)) (Ok (version, node))) ≡ damaged 0 → ⊥
by_node true version node total behind is e = cc (damaged_is 8 0 e)
by_node false version node total behind is e = never_behind total (length behind) (version, node) (contents_from version no_contents 0 behind) is (few_left version behind) e

of_many : (version : Option ℕ) (node total : ℕ) (behind : List ℕ) → total ≡ length behind + 10 → (for_node None total behind (front_of version node) ≡ damaged 0) ↔ IsTrue (is_none version)
of_many None node total behind is = (λ _. refl, λ _. refl)
of_many (Some version) node total behind is = (λ e. absurd (by_node (nat_lt 15 node) version node total behind is e), λ is_so. absurd (cc is_so))

-- ---- of any bytes

abbrev Same : Result (FileState × ℕ) FileFault → Bool → Type 0
Same read otherwise = (read ≡ damaged 0) ↔ IsTrue otherwise

by_length : (few : Bool) (x y : Result (FileState × ℕ) FileFault) (p q : Bool) → Same x p → (few ≡ false → Same y q) → Same (cond few x y) (cond few p q)
by_length true x y p q same other = same
by_length false x y p q same other = other refl

long : (n : ℕ) → nat_lt n 11 ≡ false → n ≡ (n - 10) + 10
long n e = grind (arith, nat_tests)

pub another_beginning : (bytes : List ℕ) → (opened None bytes ≡ damaged 0) ↔ IsTrue (begins_otherwise bytes)
unfolding opened front_in
another_beginning bytes =
    let front = take 10 bytes in
    let behind = drop 10 bytes in
    let node = Rattle.std.specs.Int.from_be_bytes Rattle.std.specs.Int.w16 (drop 8 front) in
    by_length (nat_lt (length bytes) 11) (damaged (length bytes)) (for_node None (length bytes) behind (front_of (version_of (take 8 front)) node)) (nat_eq (length bytes) 0) (is_none (version_of (take 8 bytes)))
    (of_few (length bytes))
    (λ many. subst (λ (eight : List ℕ). Same (for_node None (length bytes) behind (front_of (version_of (take 8 front)) node)) (is_none (version_of eight))) (take-take 8 10 bytes (omega arith))
    (of_many (version_of (take 8 front)) node (length bytes) behind (long (length bytes) many ∙ ap (λ (n : ℕ). n + 10) (sym (length-drop 10 bytes)))))
