-- Records one after the other, by what stands in front of them.
use Rattle.std.proofs.Common.{◌≡◌, ◌≢◌, ℕ, zero, suc, ◌+◌, ◌<◌, ◌≤◌, List, [], ◌∷◌, ◌++◌, length, drop, Option, Some, None, Bool, true, false, cond, ◌==◌, Result, Ok, Err, refl, sym, ◌∙◌, ap, subst, arith, length-append}
use Rattle.std.proofs.lemmas.Bool.Decides.{nat_tests}
use Rattle.std.proofs.lemmas.List.{drop_at}
use Rattle.node_file.specs.declared.record.Record.{Record}
use Rattle.node_file.specs.Gates.{length_said}
use Rattle.node_file.specs.Record.{record_in}
use Rattle.node_file.specs.Fold.{fold_records, after_record}
use Rattle.file_pieces.specs.Framing.{IsFramed, IsUnfinished, IsShut, IsOverlong}
use Rattle.file_pieces.proofs.Framing.{none_of_long, none_of_short, said_more, same_behind, whole_size}

-- so many bytes are left at the end, or fewer
abbrev pub LeftWithin : {S : Type 0} → ℕ → Result (S × ℕ) ℕ → Type 0
LeftWithin n (Ok read) = read.1 ≤ n
LeftWithin n (Err left) = Unit {0}

within_test : {S : Type 0} (t : Bool) (n left : ℕ) (r : Result (S × ℕ) ℕ) → LeftWithin n r → LeftWithin n (cond t r (Err left))
within_test true n left r within = within
within_test false n left r within = tt

within_gate : {S : Type 0} (t : Bool) (n left : ℕ) (s : S) (r : Result (S × ℕ) ℕ) → left ≤ n → LeftWithin n r → LeftWithin n (cond t r (Ok (s, left)))
within_gate true n left s r here within = within
within_gate false n left s r here within = here

within_more : {S : Type 0} (n m : ℕ) (r : Result (S × ℕ) ℕ) → n ≤ m → LeftWithin n r → LeftWithin m r
within_more n m (Ok read) le within = omega (arith, le, within)
within_more n m (Err left) le within = tt

module _ {S : Type 0} (may : S → Record → Bool) (next : S → Record → S) (version : ℕ) where
  skips : (s : S) (n : ℕ) (b : List ℕ) → n ≤ length b → fold_records may next version s n b ≡ fold_records may next version s 0 (drop n b)
  unfolding fold_records
  skips s zero b le = refl
  skips s (suc n) [] le = absurd (omega arith)
  skips s (suc n) (x ∷ b) le = skips s n b (omega arith)

  no_gate : (s : S) → fold_records may next version s 0 [] ≡ Err 0
  unfolding fold_records
  no_gate s = refl

  closed : (s : S) (gate : ℕ) (rest : List ℕ) → gate ≢ 1 → fold_records may next version s 0 (gate ∷ rest) ≡ Ok (s, length rest + 1)
  unfolding fold_records
  closed s gate rest shut = grind (arith, nat_tests)

  opens : (s : S) (rest : List ℕ) → fold_records may next version s 0 (1 ∷ rest) ≡ after_record may next s (length rest + 1) (record_in version rest) (λ t skip. fold_records may next version t skip rest)
  unfolding fold_records
  opens s rest = refl

  takes : (s : S) (rest : List ℕ) (record_ : Record) (size : ℕ) → record_in version rest ≡ Some (record_, size) → may s record_ ≡ true → size ≤ length rest → fold_records may next version s 0 (1 ∷ rest) ≡ fold_records may next version (next s record_) 0 (drop size rest)
  takes s rest record_ size is follows le = opens s rest ∙ rw (is, follows) (skips (next s record_) size rest le)

  fails_after : (s : S) (left : ℕ) (read : Option (Record × ℕ)) (more : S → ℕ → Result (S × ℕ) ℕ) → ((said : Record) (size : ℕ) → read ≡ Some (said, size) → may s said ≡ false) → after_record may next s left read more ≡ Err left
  fails_after s left None more strays = refl
  fails_after s left (Some r) more strays = ap (λ (t : Bool). cond t (more (next s r.0) r.1) (Err left)) (strays r.0 r.1 refl)

  fails : (s : S) (rest : List ℕ) → ((said : Record) (size : ℕ) → record_in version rest ≡ Some (said, size) → may s said ≡ false) → fold_records may next version s 0 (1 ∷ rest) ≡ Err (length rest + 1)
  fails s rest strays = opens s rest ∙ fails_after s (length rest + 1) (record_in version rest) (λ t skip. fold_records may next version t skip rest) strays

  none_strays : (s : S) (rest : List ℕ) → record_in version rest ≡ None → (said : Record) (size : ℕ) → record_in version rest ≡ Some (said, size) → may s said ≡ false
  none_strays s rest none said size is = absurd cc

  open_gate : (s : S) (g : ℕ) (b : List ℕ) → g ≡ 1 → fold_records may next version s 0 (g ∷ b) ≡ fold_records may next version s 0 (1 ∷ b)
  open_gate s g b is = ap (λ (x : ℕ). fold_records may next version s 0 (x ∷ b)) is

  one_more : (n m : ℕ) → n + 1 ≡ m → (r : Result (S × ℕ) ℕ) → r ≡ Err (n + 1) → r ≡ Err m
  one_more n m is r e = e ∙ ap (λ (k : ℕ). Err k) is

  -- a gate that isn't open ends them
  pub shut_ends : (s : S) (bytes x : List ℕ) → IsShut bytes → fold_records may next version s 0 (bytes ++ x) ≡ Ok (s, length (bytes ++ x))
  shut_ends s [] x shut = absurd (omega (arith, shut.some))
  shut_ends s (g ∷ b) x shut = closed s g (b ++ x) shut.shut ∙ ap (λ (n : ℕ). Ok (s, n)) (omega arith)

  -- a length that no record has
  pub long_fails : (s : S) (bytes x : List ℕ) → IsOverlong bytes → fold_records may next version s 0 (bytes ++ x) ≡ Err (length (bytes ++ x))
  long_fails s [] x long = absurd (omega (arith, long.whole))
  long_fails s (g ∷ b) x long =
      let more : 16777216 < length_said (b ++ x) = subst (λ (k : ℕ). 16777216 < k) (sym (said_more b x (omega (arith, long.whole)))) long.long in
      one_more (length (b ++ x)) (length (g ∷ (b ++ x))) (omega arith) (fold_records may next version s 0 (g ∷ (b ++ x)))
      (open_gate s g (b ++ x) long.gate ∙ fails s (b ++ x) (none_strays s (b ++ x) (none_of_long version (b ++ x) more)))

  -- a record of which the last bytes aren't there
  pub short_fails : (s : S) (bytes : List ℕ) → IsUnfinished bytes → fold_records may next version s 0 bytes ≡ Err (length bytes)
  short_fails s [] short = no_gate s
  short_fails s (g ∷ b) short =
      one_more (length b) (length (g ∷ b)) (omega arith) (fold_records may next version s 0 (g ∷ b))
      (open_gate s g b (short.gate (omega arith)) ∙ fails s b (none_strays s b (none_of_short version b (λ le. omega (arith, short.short (omega (arith, le)))))))

  -- a record that may follow
  pub framed_goes_on : (s : S) (bytes x : List ℕ) (said : Record) (size : ℕ) → IsFramed bytes → record_in version (drop 1 bytes) ≡ Some (said, size) → may s said ≡ true → fold_records may next version s 0 (bytes ++ x) ≡ fold_records may next version (next s said) 0 x
  framed_goes_on s [] x said size framed is follows = absurd (omega (arith, framed.size))
  framed_goes_on s (g ∷ b) x said size framed is follows =
      let whole : length b ≡ 36 + length_said b = omega (arith, framed.size) in
      let n : size ≡ length b = whole_size version b said size whole framed.fits is in
      open_gate s g (b ++ x) framed.gate
      ∙ takes s (b ++ x) said size (same_behind version b x whole framed.fits ∙ is) follows (omega (arith, n, length-append b x))
      ∙ ap (fold_records may next version (next s said) 0) (drop_at b x size (sym n))

  -- a record that isn't whole, or may not follow
  pub framed_fails : (s : S) (bytes x : List ℕ) → IsFramed bytes → ((said : Record) (size : ℕ) → record_in version (drop 1 bytes) ≡ Some (said, size) → may s said ≡ false) → fold_records may next version s 0 (bytes ++ x) ≡ Err (length (bytes ++ x))
  framed_fails s [] x framed strays = absurd (omega (arith, framed.size))
  framed_fails s (g ∷ b) x framed strays =
      let whole : length b ≡ 36 + length_said b = omega (arith, framed.size) in
      one_more (length (b ++ x)) (length (g ∷ (b ++ x))) (omega arith) (fold_records may next version s 0 (g ∷ (b ++ x)))
      (open_gate s g (b ++ x) framed.gate ∙ fails s (b ++ x) (λ said size is. strays said size (sym (same_behind version b x whole framed.fits) ∙ is)))

  within_record : (s : S) (n left : ℕ) (read : Option (Record × ℕ)) (more : S → ℕ → Result (S × ℕ) ℕ) → ((t : S) (skip : ℕ) → LeftWithin n (more t skip)) → LeftWithin n (after_record may next s left read more)
  within_record s n left None more within = tt
  within_record s n left (Some read) more within = within_test (may s read.0) n left (more (next s read.0) read.1) (within (next s read.0) read.1)

  -- no more are left than there were
  pub left_within : (b : List ℕ) (s : S) (skip : ℕ) → LeftWithin (length b) (fold_records may next version s skip b)
  unfolding fold_records
  left_within [] s zero = tt
  left_within [] s (suc skip) = tt
  left_within (x ∷ b) s (suc skip) = within_more (length b) (length (x ∷ b)) (fold_records may next version s skip b) (omega arith) (left_within b s skip)
  left_within (gate ∷ b) s zero =
      within_gate (gate == 1) (length (gate ∷ b)) (length b + 1) s
      (after_record may next s (length b + 1) (record_in version b) (λ t skip. fold_records may next version t skip b)) (omega arith)
      (within_record s (length (gate ∷ b)) (length b + 1) (record_in version b) (λ t skip. fold_records may next version t skip b)
      (λ t skip. within_more (length b) (length (gate ∷ b)) (fold_records may next version t skip b) (omega arith) (left_within b t skip)))
