-- Where the records of a file end, by their lengths alone.
use Rattle.std.proofs.Common.{◌≡◌, ◌≢◌, inl, inr, get_or, ℕ, zero, suc, ◌+◌, ◌-◌, ◌<◌, ◌≤◌, List, [], ◌∷◌, ◌++◌, length, take, drop, Option, Some, None, Result, Ok, Err, Bool, true, false, not, cond, nat_lt, is_some, ◌&&◌, ◌||◌, ◌==◌, refl, sym, ◌∙◌, ap, subst, arith, length-append, length-drop}
use Rattle.std.specs.Int.{w32, from_be_bytes}
use Rattle.std.proofs.lemmas.Bool.{cases_eq, cases_lt}
use Rattle.std.proofs.lemmas.Bool.Decides.{nat_tests}
use Rattle.std.proofs.lemmas.List.{drop-drop, drop_all, drop_more, take-append-le, drop-append-le}
use Rattle.node_file.specs.declared.fault.FileFault.{FileFault}
use Rattle.node_file.specs.declared.fault.FileFault.TheVariants.{Damaged, Store}
use Rattle.meta_store.specs.declared.fault.StoreFault.TheVariants.{StoreFull}
use Rattle.node_file.specs.declared.record.Record.{Record}
use Rattle.node_file.specs.Record.{record_in, record_of_length, whole_record}
use Rattle.node_file.specs.Fold.{Contents, contents_from, fold_records, may_follow, no_contents, after_record, with_record}
use Rattle.node_file.specs.File.{FileState, ended, for_node, front_in, opened}
use Rattle.node_file.specs.Gates.{changed_at, changed_gate, end_from, end_of_records, goes_on, if_too_long, length_said, shows_behind, shows_changed_gate, size_in, size_read}
use Rattle.node_file.proofs.Folding.{closed, opens}
use Rattle.node_file.proofs.Parting.{at_least, both_are, for_ok, guard_some, held, inside, located_ok, long_enough, no_bytes, not_below, parts, reads_whole, taken_ok, unfolded, walked}

-- ---- the turns of the walk

inside_end : (skip here x : ℕ) (b : List ℕ) → end_from (suc skip) here (x ∷ b) ≡ end_from skip (here + 1) b
unfolding end_from
inside_end skip here x b = refl

no_end : (skip here : ℕ) → end_from skip here [] ≡ None
unfolding end_from
no_end zero here = refl
no_end (suc skip) here = refl

pub ends_shut : (here gate : ℕ) (b : List ℕ) → gate ≢ 1 → end_from 0 here (gate ∷ b) ≡ Some here
unfolding end_from
ends_shut here gate b shut = grind (arith, nat_tests)

pub end_opens : (here : ℕ) (b : List ℕ) → end_from 0 here (1 ∷ b) ≡ if_too_long here b (end_from (36 + length_said b) (here + 1) b)
unfolding end_from
end_opens here b = refl

pub skips_end : (n here : ℕ) (b : List ℕ) → end_from n here b ≡ end_from 0 (here + n) (drop n b)
unfolding end_from
skips_end zero here b = let same : here ≡ here + 0 = omega arith in ap (λ (h : ℕ). end_from 0 h b) same
skips_end (suc n) here [] = refl
skips_end (suc n) here (x ∷ b) = let same : here + 1 + n ≡ here + suc n = omega arith in skips_end n (here + 1) b ∙ ap (λ (h : ℕ). end_from 0 h (drop n b)) same

pub is_short : (here : ℕ) (b : List ℕ) (more : Option ℕ) → 4 ≤ length b → length_said b ≤ 16777216 → if_too_long here b more ≡ more
is_short here b more four fits = rw (not_below (length b) 4 four, not_below 16777216 (length_said b) fits) refl

above : (a b : ℕ) → a < b → nat_lt a b ≡ true
above a b lt = grind (arith, nat_tests)

is_long : (here : ℕ) (b : List ℕ) (more : Option ℕ) → 4 ≤ length b → 16777216 < length_said b → if_too_long here b more ≡ Some here
is_long here b more four long = rw (not_below (length b) 4 four, above 16777216 (length_said b) long) refl

is_cut : (here : ℕ) (b : List ℕ) (more : Option ℕ) → length b < 4 → if_too_long here b more ≡ None
is_cut here b more cut = rw (above (length b) 4 cut) refl

-- at an open gate of these bytes
at_open : (bytes : List ℕ) (at : ℕ) → at < length bytes → get_or bytes at 0 ≡ 1 → end_from 0 at (drop at bytes) ≡ if_too_long at (drop (at + 1) bytes) (end_from (36 + length_said (drop (at + 1) bytes)) (at + 1) (drop (at + 1) bytes))
at_open bytes at lt is_open =
    ap (end_from 0 at) (drop_more bytes at 0 lt)
    ∙ ap (λ (g : ℕ). end_from 0 at (g ∷ drop (at + 1) bytes)) is_open
    ∙ end_opens at (drop (at + 1) bytes)

pub end_went_on : (bytes : List ℕ) (at len next : ℕ) (total : Option ℕ) → at < length bytes → get_or bytes at 0 ≡ 1 → 4 ≤ length (drop (at + 1) bytes) → len ≡ length_said (drop (at + 1) bytes) → len ≤ 16777216 → next ≡ at + (37 + len)
    → end_from 0 at (drop at bytes) ≡ total → end_from 0 next (drop next bytes) ≡ total
end_went_on bytes at len next total lt is_open four said fits next_is so_far =
    let rest = drop (at + 1) bytes in
    let size : 36 + length_said rest ≡ 36 + len = ap (λ (n : ℕ). 36 + n) (sym said) in
    let far : at + 1 + (36 + len) ≡ next = omega (arith, next_is) in
    let behind : drop (36 + len) rest ≡ drop next bytes = drop-drop (36 + len) (at + 1) bytes ∙ ap (λ (n : ℕ). drop n bytes) far in
    sym (
    at_open bytes at lt is_open
    ∙ is_short at rest (end_from (36 + length_said rest) (at + 1) rest) four (subst (λ (n : ℕ). n ≤ 16777216) said fits)
    ∙ ap (λ (n : ℕ). end_from n (at + 1) rest) size
    ∙ skips_end (36 + len) (at + 1) rest
    ∙ ap (λ (n : ℕ). end_from 0 n (drop (36 + len) rest)) far
    ∙ ap (end_from 0 next) behind)
    ∙ so_far

pub end_was_shut : (bytes : List ℕ) (at : ℕ) (total : Option ℕ) → at < length bytes → get_or bytes at 0 ≢ 1 → end_from 0 at (drop at bytes) ≡ total → total ≡ Some at
end_was_shut bytes at total lt shut so_far =
    sym so_far ∙ ap (end_from 0 at) (drop_more bytes at 0 lt) ∙ ends_shut at (get_or bytes at 0) (drop (at + 1) bytes) shut

pub end_was_long : (bytes : List ℕ) (at len : ℕ) (total : Option ℕ) → at < length bytes → get_or bytes at 0 ≡ 1 → 4 ≤ length (drop (at + 1) bytes) → len ≡ length_said (drop (at + 1) bytes) → 16777216 < len → end_from 0 at (drop at bytes) ≡ total → total ≡ Some at
end_was_long bytes at len total lt is_open four said long so_far =
    let rest = drop (at + 1) bytes in
    sym so_far ∙ at_open bytes at lt is_open ∙ is_long at rest (end_from (36 + length_said rest) (at + 1) rest) four (subst (λ (n : ℕ). 16777216 < n) said long)

pub end_was_cut : (bytes : List ℕ) (at : ℕ) (total : Option ℕ) → at < length bytes → get_or bytes at 0 ≡ 1 → length (drop (at + 1) bytes) < 4 → end_from 0 at (drop at bytes) ≡ total → total ≡ None
end_was_cut bytes at total lt is_open cut so_far =
    let rest = drop (at + 1) bytes in
    sym so_far ∙ at_open bytes at lt is_open ∙ is_cut at rest (end_from (36 + length_said rest) (at + 1) rest) cut

pub end_was_none : (bytes : List ℕ) (at : ℕ) (total : Option ℕ) → length bytes ≤ at → end_from 0 at (drop at bytes) ≡ total → total ≡ None
end_was_none bytes at total le so_far = sym so_far ∙ ap (end_from 0 at) (drop_all at bytes le) ∙ no_end 0 at

pub ruleset end_turns = (end_went_on, end_was_shut, end_was_long, end_was_cut, end_was_none)

-- ---- what is behind a closed gate, by the parts of the bytes

pub unequal : (a b : ℕ) → a ≢ b → (a == b) ≡ false
unequal a b e = grind (arith, nat_tests)

pub shows_none : (version : ℕ) (bytes : List ℕ) → length bytes ≡ 0 → shows_changed_gate version bytes ≡ false
unfolding shows_changed_gate
shows_none version [] none = refl
shows_none version (gate ∷ behind) none = absurd (omega (arith, none))

pub shows_open : (version : ℕ) (bytes : List ℕ) → 0 < length bytes → get_or bytes 0 0 ≡ 1 → shows_changed_gate version bytes ≡ false
unfolding shows_changed_gate
shows_open version [] some is_open = absurd (omega arith)
shows_open version (gate ∷ behind) some is_open = ap (λ (g : ℕ). not (g == 1) && shows_behind version g behind (size_in version behind)) is_open

-- a closed gate, by the size of the record behind it
shut_shows : (version : ℕ) (bytes : List ℕ) (read : Option ℕ) → 0 < length bytes → get_or bytes 0 0 ≢ 1 → size_in version (drop 1 bytes) ≡ read → shows_changed_gate version bytes ≡ shows_behind version (get_or bytes 0 0) (drop 1 bytes) read
unfolding shows_changed_gate
shut_shows version [] read some shut is = absurd (omega arith)
shut_shows version (gate ∷ behind) read some shut is =
    ap (λ (t : Bool). not t && shows_behind version gate behind (size_in version behind)) (unequal gate 1 shut)
    ∙ ap (shows_behind version gate behind) is

pub shows_alone : (version : ℕ) (bytes : List ℕ) → 0 < length bytes → get_or bytes 0 0 ≢ 1 → size_in version (drop 1 bytes) ≡ None → shows_changed_gate version bytes ≡ false
shows_alone version bytes some shut is = shut_shows version bytes None some shut is

pub shows_other : (version : ℕ) (bytes : List ℕ) (size : ℕ) → 0 < length bytes → get_or bytes 0 0 ≢ 1 → size_in version (drop 1 bytes) ≡ Some size → get_or bytes 0 0 ≢ 0 → shows_changed_gate version bytes ≡ true
shows_other version bytes size some shut is other =
    shut_shows version bytes (Some size) some shut is
    ∙ ap (λ (t : Bool). not t || goes_on version (drop size (drop 1 bytes))) (unequal (get_or bytes 0 0) 0 other)

pub shows_on : (version : ℕ) (bytes : List ℕ) (size : ℕ) → 0 < length bytes → get_or bytes 0 0 ≢ 1 → size_in version (drop 1 bytes) ≡ Some size → get_or bytes 0 0 ≡ 0 → shows_changed_gate version bytes ≡ goes_on version (drop size (drop 1 bytes))
shows_on version bytes size some shut is zero_ =
    shut_shows version bytes (Some size) some shut is
    ∙ ap (λ (g : ℕ). not (g == 0) || goes_on version (drop size (drop 1 bytes))) zero_

pub goes_none : (version : ℕ) (bytes : List ℕ) → length bytes ≡ 0 → goes_on version bytes ≡ false
goes_none version [] none = refl
goes_none version (gate ∷ behind) none = absurd (omega (arith, none))

pub goes_open : (version : ℕ) (bytes : List ℕ) → 0 < length bytes → get_or bytes 0 0 ≡ 1 → goes_on version bytes ≡ true
goes_open version [] some is_open = absurd (omega arith)
goes_open version (gate ∷ behind) some is_open = ap (λ (g : ℕ). (g == 1) || is_some (size_in version behind)) is_open

pub goes_read : (version : ℕ) (bytes : List ℕ) → 0 < length bytes → get_or bytes 0 0 ≢ 1 → goes_on version bytes ≡ is_some (size_in version (drop 1 bytes))
goes_read version [] some shut = absurd (omega arith)
goes_read version (gate ∷ behind) some shut = ap (λ (t : Bool). t || is_some (size_in version behind)) (unequal gate 1 shut)

pub ruleset gate_signs = (shows_none, shows_open, shows_alone, shows_other, shows_on, goes_none, goes_open, goes_read)

-- ---- a file that opens ends there

module _ {S : Type 0} (may : S → Record → Bool) (next : S → Record → S) (version : ℕ) where
  fold_ends : (b : List ℕ) (s : S) (skip : ℕ) (t : S) (left here end : ℕ) → fold_records may next version s skip b ≡ Ok (t, left) → end + left ≡ here + length b → end_from skip here b ≡ Some end
  fold_ends [] s skip t left here end e is = absurd (no_bytes may next version s skip (t, left) e)
  fold_ends (x ∷ b) s (suc skip) t left here end e is =
      inside_end skip here x b ∙ fold_ends b s skip t left (here + 1) end (sym (inside may next version s skip x b) ∙ e) (omega (arith, is))
  fold_ends (x ∷ b) s zero t left here end e is = elim (cases_eq x 1) [
    | inl is_open ↦
        let more = λ (u : S) (skip : ℕ). fold_records may next version u skip b in
        let h : after_record may next s (length b + 1) (record_in version b) more ≡ Ok (t, left) = sym (opens may next version s b) ∙ ap (λ (g : ℕ). fold_records may next version s 0 (g ∷ b)) (sym is_open) ∙ e in
        let q = taken_ok may next version s (length b + 1) (record_in version b) more (t, left) h in
        let w = held version b q.0.0 q.0.1 q.1 in
        ap (λ (g : ℕ). end_from 0 here (g ∷ b)) is_open
        ∙ end_opens here b
        ∙ is_short here b (end_from (36 + length_said b) (here + 1) b) w.long w.fits
        ∙ ap (λ (n : ℕ). end_from n (here + 1) b) (sym w.size)
        ∙ fold_ends b (next s q.0.0) q.0.1 t left (here + 1) end q.3 (omega (arith, is))
    | inr shut ↦
        let both = both_are may next version s t (length b + 1) left (fold_records may next version s 0 (x ∷ b)) (closed may next version s x b shut) e in
        let same : here ≡ end = omega (arith, is, both.1) in
        ends_shut here x b shut ∙ ap (λ (n : ℕ). Some n) same
  ]

pub ends_at_gate : (bytes : List ℕ) (s : FileState) (gate : ℕ) → opened None bytes ≡ Ok (s, gate) → end_of_records bytes ≡ Some gate
unfolding end_of_records
ends_at_gate bytes s gate e =
    let long = long_enough bytes (s, gate) e in
    let h = for_ok (length bytes) (drop 10 bytes) (front_in (take 10 bytes)) (s, gate) (sym (unfolded bytes long) ∙ e) in
    let l = located_ok (length bytes) h.0 (contents_from h.0.0 no_contents 0 (drop 10 bytes)) s gate h.2 in
    let read : fold_records may_follow with_record h.0.0 no_contents 0 (drop 10 bytes) ≡ Ok (s.contents, l.left) = sym (walked h.0.0 no_contents 0 (drop 10 bytes)) ∙ l.is in
    let p = parts may_follow with_record h.0.0 (drop 10 bytes) no_contents 0 s.contents l.left read in
    fold_ends may_follow with_record h.0.0 (drop 10 bytes) no_contents 0 s.contents l.left 10 gate read
    (omega (arith, l.end_is, p.left_is, ap length p.split, length-append p.front (p.gate ∷ p.rest), length-drop 10 bytes, long))

-- ---- more bytes behind the end

skip_within : (b : List ℕ) (skip here end : ℕ) → end_from skip here b ≡ Some end → skip < length b
skip_within [] skip here end e = let no : None ≡ Some end = sym (no_end skip here) ∙ e in absurd cc
skip_within (x ∷ b) zero here end e = omega arith
skip_within (x ∷ b) (suc skip) here end e = omega (arith, skip_within b skip (here + 1) end (sym (inside_end skip here x b) ∙ e))

four_there : (here : ℕ) (b : List ℕ) (more : Option ℕ) (end : ℕ) → if_too_long here b more ≡ Some end → 4 ≤ length b
four_there here b more end e = at_least (length b) 4 (guard_some (nat_lt (length b) 4) (cond (nat_lt 16777216 (length_said b)) (Some here) more) end e).0

same_length : (b rest : List ℕ) → 4 ≤ length b → length_said (b ++ rest) ≡ length_said b
same_length b rest four = ap (from_be_bytes w32) (take-append-le 4 b rest four)

still_four : (b rest : List ℕ) → 4 ≤ length b → 4 ≤ length (b ++ rest)
still_four b rest four = omega (arith, four, length-append b rest)

-- at an open gate
walk_at : (x here : ℕ) (b : List ℕ) (end : ℕ) → x ≡ 1 → end_from 0 here (x ∷ b) ≡ Some end → if_too_long here b (end_from (36 + length_said b) (here + 1) b) ≡ Some end
walk_at x here b end is_open e = sym (end_opens here b) ∙ ap (λ (g : ℕ). end_from 0 here (g ∷ b)) (sym is_open) ∙ e

-- the walk goes on alike in longer bytes, or the length ends both
walk_longer : (here : ℕ) (b rest : List ℕ) (more on : Option ℕ) (end : ℕ) → 4 ≤ length b → if_too_long here b more ≡ Some end → (length_said b ≤ 16777216 → on ≡ Some end) → if_too_long here (b ++ rest) on ≡ Some end
walk_longer here b rest more on end there walk goes = elim (cases_lt 16777216 (length_said b)) [
  | inl long ↦ is_long here (b ++ rest) on (still_four b rest there) (subst (λ (n : ℕ). 16777216 < n) (sym (same_length b rest there)) long) ∙ sym (is_long here b more there long) ∙ walk
  | inr fits ↦ is_short here (b ++ rest) on (still_four b rest there) (subst (λ (n : ℕ). n ≤ 16777216) (sym (same_length b rest there)) fits) ∙ goes fits
]

end_longer : (rest b : List ℕ) (skip here end : ℕ) → end_from skip here b ≡ Some end → end_from skip here (b ++ rest) ≡ Some end
end_longer rest [] skip here end e = let no : None ≡ Some end = sym (no_end skip here) ∙ e in absurd cc
end_longer rest (x ∷ b) (suc skip) here end e =
    inside_end skip here x (b ++ rest) ∙ end_longer rest b skip (here + 1) end (sym (inside_end skip here x b) ∙ e)
end_longer rest (x ∷ b) zero here end e = elim (cases_eq x 1) [
  | inl is_open ↦
      let more = end_from (36 + length_said b) (here + 1) b in
      let walk = walk_at x here b end is_open e in
      let there = four_there here b more end walk in
      ap (λ (g : ℕ). end_from 0 here (g ∷ (b ++ rest))) is_open
      ∙ end_opens here (b ++ rest)
      ∙ walk_longer here b rest more (end_from (36 + length_said (b ++ rest)) (here + 1) (b ++ rest)) end there walk (λ fits.
      ap (λ (n : ℕ). end_from (36 + n) (here + 1) (b ++ rest)) (same_length b rest there)
      ∙ end_longer rest b (36 + length_said b) (here + 1) end (sym (is_short here b more there fits) ∙ walk))
  | inr shut ↦ ends_shut here x (b ++ rest) shut ∙ sym (ends_shut here x b shut) ∙ e
]

-- ---- a record is read from its own bytes, or isn't one by its length

too_long : (version : ℕ) (bytes : List ℕ) → 4 ≤ length bytes → 16777216 < length_said bytes → record_in version bytes ≡ None
unfolding record_in record_of_length
too_long version bytes four long = rw (not_below (length bytes) 4 four, above 16777216 (from_be_bytes w32 (take 4 bytes)) long) refl

pub same_read : (version : ℕ) (b rest : List ℕ) → 4 ≤ length b → (length_said b ≤ 16777216 → 36 + length_said b ≤ length b) → record_in version (b ++ rest) ≡ record_in version b
same_read version b rest four whole = elim (cases_lt 16777216 (length_said b)) [
  | inl long ↦ too_long version (b ++ rest) (still_four b rest four) (subst (λ (n : ℕ). 16777216 < n) (sym (same_length b rest four)) long) ∙ sym (too_long version b four long)
  | inr fits ↦
      let m = length_said b in
      let within : 36 + m ≤ length b = whole fits in
      let longer : 36 + m ≤ length (b ++ rest) = omega (arith, within, length-append b rest) in
      reads_whole version (b ++ rest) m longer fits (same_length b rest four)
      ∙ ap (whole_record version m) (take-append-le (36 + m) b rest within)
      ∙ sym (reads_whole version b m within fits refl)
]

-- ---- what is read of more bytes

abbrev longer : {S : Type 0} → ℕ → Result (S × ℕ) ℕ → Result (S × ℕ) ℕ
longer n (Ok read) = Ok (read.0, read.1 + n)
longer n (Err left) = Err (left + n)

cond_longer : {S : Type 0} (t : Bool) (n a b : ℕ) (x y : Result (S × ℕ) ℕ) → x ≡ longer n y → a ≡ b + n → cond t x (Err a) ≡ longer n (cond t y (Err b))
cond_longer true n a b x y same is = same
cond_longer false n a b x y same is = ap (λ (k : ℕ). Err k) is

module _ {S : Type 0} (may : S → Record → Bool) (next : S → Record → S) (version : ℕ) where
  abbrev on_from : List ℕ → S → ℕ → Result (S × ℕ) ℕ
  on_from b t skip = fold_records may next version t skip b

  after_longer : (s : S) (b rest : List ℕ) (r : Option (Record × ℕ)) → ((q : Record × ℕ) → r ≡ Some q → on_from (b ++ rest) (next s q.0) q.1 ≡ longer (length rest) (on_from b (next s q.0) q.1))
      → after_record may next s (length (b ++ rest) + 1) r (on_from (b ++ rest)) ≡ longer (length rest) (after_record may next s (length b + 1) r (on_from b))
  after_longer s b rest None same = let size : length (b ++ rest) + 1 ≡ length b + 1 + length rest = omega (arith, length-append b rest) in ap (λ (k : ℕ). Err k) size
  after_longer s b rest (Some q) same =
      cond_longer (may s q.0) (length rest) (length (b ++ rest) + 1) (length b + 1) (on_from (b ++ rest) (next s q.0) q.1) (on_from b (next s q.0) q.1) (same q refl) (omega (arith, length-append b rest))

  fold_longer : (rest b : List ℕ) (s : S) (skip here end : ℕ) → end_from skip here b ≡ Some end → fold_records may next version s skip (b ++ rest) ≡ longer (length rest) (fold_records may next version s skip b)
  fold_longer rest [] s skip here end e = let no : None ≡ Some end = sym (no_end skip here) ∙ e in absurd cc
  fold_longer rest (x ∷ b) s (suc skip) here end e =
      inside may next version s skip x (b ++ rest)
      ∙ fold_longer rest b s skip (here + 1) end (sym (inside_end skip here x b) ∙ e)
      ∙ ap (longer (length rest)) (sym (inside may next version s skip x b))
  fold_longer rest (x ∷ b) s zero here end e = elim (cases_eq x 1) [
    | inl is_open ↦
        let more = end_from (36 + length_said b) (here + 1) b in
        let walk = walk_at x here b end is_open e in
        let there = four_there here b more end walk in
        let goes = λ (fits : length_said b ≤ 16777216). sym (is_short here b more there fits) ∙ walk in
        let read : record_in version (b ++ rest) ≡ record_in version b =
        same_read version b rest there (λ fits. let far = skip_within b (36 + length_said b) (here + 1) end (goes fits) in omega (arith, far)) in
        ap (λ (g : ℕ). fold_records may next version s 0 (g ∷ (b ++ rest))) is_open
        ∙ opens may next version s (b ++ rest)
        ∙ ap (λ (r : Option (Record × ℕ)). after_record may next s (length (b ++ rest) + 1) r (on_from (b ++ rest))) read
        ∙ after_longer s b rest (record_in version b) (λ q is.
        let w = held version b q.0 q.1 is in
        fold_longer rest b (next s q.0) q.1 (here + 1) end (ap (λ (n : ℕ). end_from n (here + 1) b) w.size ∙ goes w.fits))
        ∙ ap (longer (length rest)) (sym (opens may next version s b) ∙ ap (λ (g : ℕ). fold_records may next version s 0 (g ∷ b)) (sym is_open))
    | inr shut ↦
        let size : length (b ++ rest) + 1 ≡ length b + 1 + length rest = omega (arith, length-append b rest) in
        closed may next version s x (b ++ rest) shut
        ∙ ap (λ (k : ℕ). Ok (s, k)) size
        ∙ ap (longer (length rest)) (sym (closed may next version s x b shut))
  ]

-- what a file stands for whose records end at this gate
abbrev ended_at : ℕ × ℕ → Contents → ℕ → Result (FileState × ℕ) FileFault
ended_at head c gate = cond (nat_lt 8192 (length c.table)) (Err (Store StoreFull)) (Ok (record { version = head.0; node = head.1; contents = c }, gate))

abbrev damaged_at : ℕ → Result (FileState × ℕ) FileFault
damaged_at gate = Err (Damaged gate)

ended_longer : (total n : ℕ) (head : ℕ × ℕ) (read : Result (Contents × ℕ) ℕ) → ended (total + n) head (longer n read) ≡ ended total head read
ended_longer total n head (Err left) = let same : total + n - (left + n) ≡ total - left = omega arith in ap damaged_at same
ended_longer total n head (Ok read) = let same : total + n - (read.1 + n) ≡ total - read.1 = omega arith in ap (ended_at head read.0) same

for_longer : (total n : ℕ) (b long : List ℕ) (head : Result (ℕ × ℕ) FileFault) → ((version : ℕ) → contents_from version no_contents 0 long ≡ longer n (contents_from version no_contents 0 b)) → for_node None (total + n) long head ≡ for_node None total b head
for_longer total n b long (Err fault) same = refl
for_longer total n b long (Ok head) same = ap (ended (total + n) head) (same head.0) ∙ ended_longer total n head (contents_from head.0 no_contents 0 b)

enough : (front : List ℕ) (gate : ℕ) → end_of_records front ≡ Some gate → 11 ≤ length front
unfolding end_of_records
enough front gate e = omega (arith, skip_within (drop 10 front) 0 10 gate e, length-drop 10 front)

contents_longer : (front rest : List ℕ) (gate version : ℕ) → end_of_records front ≡ Some gate → contents_from version no_contents 0 (drop 10 front ++ rest) ≡ longer (length rest) (contents_from version no_contents 0 (drop 10 front))
unfolding end_of_records
contents_longer front rest gate version e =
    walked version no_contents 0 (drop 10 front ++ rest)
    ∙ fold_longer may_follow with_record version rest (drop 10 front) no_contents 0 10 gate e
    ∙ ap (longer (length rest)) (sym (walked version no_contents 0 (drop 10 front)))

-- what stands behind the end is nothing, also if the file is refused
pub opens_alike : (front rest : List ℕ) (gate : ℕ) → end_of_records front ≡ Some gate → opened None (front ++ rest) ≡ opened None front
opens_alike front rest gate e =
    let long = enough front gate e in
    let longer_too : 11 ≤ length (front ++ rest) = omega (arith, long, length-append front rest) in
    unfolded (front ++ rest) longer_too
    ∙ ap (λ (ten : List ℕ). for_node None (length (front ++ rest)) (drop 10 (front ++ rest)) (front_in ten)) (take-append-le 10 front rest (omega (arith, long)))
    ∙ ap (λ (b : List ℕ). for_node None (length (front ++ rest)) b (front_in (take 10 front))) (drop-append-le 10 front rest (omega (arith, long)))
    ∙ ap (λ (n : ℕ). for_node None n (drop 10 front ++ rest) (front_in (take 10 front))) (length-append front rest)
    ∙ for_longer (length front) (length rest) (drop 10 front) (drop 10 front ++ rest) (front_in (take 10 front)) (λ version. contents_longer front rest gate version e)
    ∙ sym (unfolded front long)

pub ends_alike : (front rest : List ℕ) (gate : ℕ) → end_of_records front ≡ Some gate → end_of_records (front ++ rest) ≡ Some gate
unfolding end_of_records
ends_alike front rest gate e =
    let long = enough front gate e in
    ap (end_from 0 10) (drop-append-le 10 front rest (omega (arith, long))) ∙ end_longer rest (drop 10 front) 0 10 gate e

-- ---- what a changed gate shows is in the bytes close behind it

far_read : (version : ℕ) (b rest : List ℕ) → 16777252 ≤ length b → record_in version (b ++ rest) ≡ record_in version b
far_read version b rest far = same_read version b rest (omega (arith, far)) (λ fits. omega (arith, far, fits))

goes_alike : (version : ℕ) (b rest : List ℕ) → 16777253 ≤ length b → goes_on version (b ++ rest) ≡ goes_on version b
goes_alike version [] rest far = absurd (omega arith)
goes_alike version (gate ∷ b) rest far = ap (λ (r : Option (Record × ℕ)). (gate == 1) || is_some (size_read r)) (far_read version b rest (omega (arith, far)))

some_number : (a b : ℕ) → Some a ≡ Some b → a ≡ b
some_number a b e = cc

small_size : (version : ℕ) (b : List ℕ) (r : Option (Record × ℕ)) (size : ℕ) → record_in version b ≡ r → size_read r ≡ Some size → size ≤ 16777252
small_size version b None size read is = absurd cc
small_size version b (Some q) size read is =
    let w = held version b q.0 q.1 read in
    omega (arith, w.size, w.fits, some_number q.1 size is)

behind_alike : (version gate : ℕ) (b rest : List ℕ) (read : Option ℕ) → 33554505 ≤ length b → ((size : ℕ) → read ≡ Some size → size ≤ 16777252) → shows_behind version gate (b ++ rest) read ≡ shows_behind version gate b read
behind_alike version gate b rest None far small = refl
behind_alike version gate b rest (Some size) far small =
    let fits = small size refl in
    let within : size ≤ length b = omega (arith, far, fits) in
    ap (λ (d : List ℕ). not (gate == 0) || goes_on version d) (drop-append-le size b rest within)
    ∙ ap (λ (t : Bool). not (gate == 0) || t) (goes_alike version (drop size b) rest (omega (arith, far, fits, length-drop size b)))

shows_alike : (version : ℕ) (b rest : List ℕ) → 33554506 ≤ length b → shows_changed_gate version (b ++ rest) ≡ shows_changed_gate version b
unfolding shows_changed_gate
shows_alike version [] rest far = absurd (omega arith)
shows_alike version (gate ∷ b) rest far =
    ap (λ (r : Option (Record × ℕ)). not (gate == 1) && shows_behind version gate (b ++ rest) (size_read r)) (far_read version b rest (omega (arith, far)))
    ∙ ap (λ (t : Bool). not (gate == 1) && t)
    (behind_alike version gate b rest (size_in version b) (omega (arith, far)) (λ size is. small_size version b (record_in version b) size refl is))

at_alike : (front rest : List ℕ) (gate : ℕ) (head : Result (ℕ × ℕ) FileFault) → gate + 33554506 ≤ length front → changed_at (front ++ rest) head (Some gate) ≡ changed_at front head (Some gate)
at_alike front rest gate (Err fault) far = refl
at_alike front rest gate (Ok head) far =
    let within : gate ≤ length front = omega (arith, far) in
    ap (λ (d : List ℕ). cond (shows_changed_gate head.0 d) (Some gate) None) (drop-append-le gate front rest within)
    ∙ ap (λ (t : Bool). cond t (Some gate) None) (shows_alike head.0 (drop gate front) rest (omega (arith, far, length-drop gate front)))

pub changes_alike : (front rest : List ℕ) (gate : ℕ) → end_of_records front ≡ Some gate → gate + 33554506 ≤ length front → changed_gate (front ++ rest) ≡ changed_gate front
unfolding changed_gate
changes_alike front rest gate e far =
    let long = enough front gate e in
    ap (λ (ten : List ℕ). changed_at (front ++ rest) (front_in ten) (end_of_records (front ++ rest))) (take-append-le 10 front rest (omega (arith, long)))
    ∙ ap (changed_at (front ++ rest) (front_in (take 10 front))) (ends_alike front rest gate e)
    ∙ at_alike front rest gate (front_in (take 10 front)) far
    ∙ ap (changed_at front (front_in (take 10 front))) (sym e)
