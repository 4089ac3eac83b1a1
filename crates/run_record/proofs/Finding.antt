-- The first place of a frame among others.
use Rattle.std.proofs.Common.{◌≡◌, ◌<◌, ◌≤◌, ◌+◌, ℕ, nat_eq, true, false, List, length, get_or, slice_get, Some, refl, sym, ap, ◌∙◌, below_more, arith}
use Rattle.std.proofs.lemmas.Option.{slice_get_read, slice_get_within}
use Rattle.std.specs.Cmp.Lexicographic.{pointwise, bytes_decides}

pub found : (frames : List (List ℕ)) (k : ℕ) (other frame : List ℕ) → k < length frames
    → other ≡ get_or frames k other → pointwise nat_eq other frame ≡ true
    → slice_get frames k ≡ Some frame
found frames k other frame lt is same =
    let equal = (bytes_decides other frame).0 same in
    slice_get_read frames (length frames) k other refl lt is ∙ ap (λ f. Some f) equal

pub one_more : (frames : List (List ℕ)) (n : ℕ) (other frame : List ℕ) → n < length frames
    → other ≡ get_or frames n other → pointwise nat_eq other frame ≡ false
    → ((k : ℕ) → k < n → slice_get frames k ≡ Some frame → ⊥)
    → (k : ℕ) → k < n + 1 → slice_get frames k ≡ Some frame → ⊥
one_more frames n other frame lt is differs before = below_more _ _ before (λ there.
    let read = slice_get_read frames (length frames) n other refl lt is in
    let same : other ≡ frame = cc (read, there) in
    let both : true ≡ false = sym ((bytes_decides other frame).1 same) ∙ differs in
    absurd (cc))

pub none_there : (frames : List (List ℕ)) (n : ℕ) (frame : List ℕ) → length frames ≤ n
    → ((k : ℕ) → k < n → slice_get frames k ≡ Some frame → ⊥)
    → (k : ℕ) → slice_get frames k ≡ Some frame → ⊥
none_there frames n frame all before k there =
    before k (let within = slice_get_within frames k frame there in omega arith) there
