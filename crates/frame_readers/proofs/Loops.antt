-- Fields read one after another, as a loop does.
use Rattle.std.proofs.Common.{◌≡◌, ℕ, suc, ◌-◌, ◌+◌, ◌≤◌, ◌<◌, List, [], ◌∷◌, ◌++◌, Result, Ok, Err, refl, sym, ap, ◌∙◌, append_assoc, arith}
use Rattle.std.proofs.lemmas.List.{append-nil}
use Rattle.frame_readers.specs.declared.fault.FieldFault.{FieldFault}
use Rattle.frame_readers.specs.declared.fault.FieldFault.TheVariants as faults
use Rattle.frame_readers.specs.Reader.{Reader, ◌>>=◌, Fails, each_reader}

-- what was read before, and what is still read
abbrev pub with_front : {A : Type 0} → List A → Result (List A × List ℕ) ℕ → Result (List A × List ℕ) ℕ
with_front front read = read >>= λ x. Ok (front ++ x.0, x.1)

regroup : {A : Type 0} (front : List A) (n : A) (read : Result (List A × List ℕ) ℕ) → with_front front (read >>= λ x. Ok (n ∷ x.0, x.1)) ≡ with_front (front ++ n ∷ []) read
regroup {A} front n (Ok x) = ap (λ (ns : List A). Ok (ns, x.1)) (simp append_assoc)
regroup front n (Err f) = refl

pub goes_on : {S A : Type 0} (read : S → Reader A) (next : A → S) (front : List A) (count i : ℕ) (state : S) (bytes : List ℕ) (n : A) (after : List ℕ) (total : Result (List A × List ℕ) ℕ) → i < count → read state bytes ≡ Ok (n, after)
    → with_front front (each_reader read next state (count - i) bytes) ≡ total → with_front (front ++ n ∷ []) (each_reader read next (next n) (count - (i + 1)) after) ≡ total
unfolding each_reader
goes_on read next front count i state bytes n after total lt h so_far =
    let k : count - i ≡ suc (count - (i + 1)) = omega arith in
    let one : with_front front (each_reader read next state (count - i) bytes) ≡ with_front (front ++ n ∷ []) (each_reader read next (next n) (count - (i + 1)) after) = rw (k, h) (regroup front n (each_reader read next (next n) (count - (i + 1)) after)) in
    sym one ∙ so_far

pub ends : {S A : Type 0} (read : S → Reader A) (next : A → S) (e : FieldFault) (front : List A) (count i : ℕ) (state : S) (bytes : List ℕ) (total : Result (List A × List ℕ) ℕ) → i < count → Fails e (read state bytes)
    → with_front front (each_reader read next state (count - i) bytes) ≡ total → Fails e total
unfolding each_reader
ends read next faults.Memory front count i state bytes total lt h so_far = tt
ends read next (faults.Left f) front count i state bytes total lt h so_far =
    let k : count - i ≡ suc (count - (i + 1)) = omega arith in
    let one : with_front front (each_reader read next state (count - i) bytes) ≡ Err f = rw (k, h) refl in
    sym so_far ∙ one

pub is_done : {S A : Type 0} (read : S → Reader A) (next : A → S) (front : List A) (count i : ℕ) (state : S) (bytes : List ℕ) (total : Result (List A × List ℕ) ℕ) → count ≤ i → with_front front (each_reader read next state (count - i) bytes) ≡ total → total ≡ Ok (front, bytes)
unfolding each_reader
is_done {A = A} read next front count i state bytes total le so_far =
    let k : count - i ≡ 0 = omega arith in
    let one : with_front front (each_reader read next state (count - i) bytes) ≡ Ok (front, bytes) = rw k (ap (λ (ns : List A). Ok (ns, bytes)) (append-nil front)) in
    sym so_far ∙ one
