-- Reading records one state_with the other.
use Rattle.std.proofs.Common.{◌≡◌, ◌≢◌, get_or, ℕ, zero, suc, ◌+◌, ◌<◌, ◌≤◌, List, [], ◌∷◌, length, drop, Option, Some, None, Bool, true, false, cond, Result, Ok, Err, refl, sym, subst, ◌∙◌, ap, arith}
use Rattle.std.specs.FinMap.{put}
use Rattle.std.specs.FinMap.Entries.{by_order}
use Rattle.meta_types.specs.Name.{Key}
use Rattle.meta_types.specs.Order.{key_cmp}
use Rattle.dvvset.specs.Object.{Entry}
use Rattle.meta_store.specs.Table.{Table}
use Rattle.std.proofs.lemmas.Bool.Decides.{nat_tests}
use Rattle.node_file.specs.declared.record.Record.{Record}
use Rattle.node_file.specs.declared.record.Record.TheVariants.{Life, Object}
use Rattle.node_file.specs.Record.{record_in}
use Rattle.node_file.specs.Fold.{Contents, contents_from, fold_records, life_from, life_with, may_follow, may_follow_life, after_record, with_record}
use Rattle.node_file.specs.Reads.{Ends, FailsBehind, FailsLike, HasTooMany}
use Rattle.std.specs.declared.cmp.Ordering.{Ordering}
use Rattle.std.specs.declared.cmp.Ordering.TheVariants.{Less, Equal, Greater}
use Rattle.node_file.specs.declared.contents.ReadFault.{ReadFault}
use Rattle.node_file.specs.declared.contents.ReadFault.TheVariants as errors

-- ---- any fold_records

module _ {S : Type 0} (may : S → Record → Bool) (next : S → Record → S) (version : ℕ) where
  pub skips : (s : S) (n : ℕ) (b : List ℕ) → n ≤ length b → fold_records may next version s n b ≡ fold_records may next version s 0 (drop n b)
  unfolding fold_records
  skips s zero b le = refl
  skips s (suc n) [] le = absurd (omega arith)
  skips s (suc n) (x ∷ b) le = skips s n b (omega arith)

  pub no_gate : (s : S) → fold_records may next version s 0 [] ≡ Err 0
  unfolding fold_records
  no_gate s = refl

  pub closed : (s : S) (gate : ℕ) (rest : List ℕ) → gate ≢ 1 → fold_records may next version s 0 (gate ∷ rest) ≡ Ok (s, length rest + 1)
  unfolding fold_records
  closed s gate rest shut = grind (arith, nat_tests)

  pub opens : (s : S) (rest : List ℕ) → fold_records may next version s 0 (1 ∷ rest) ≡ after_record may next s (length rest + 1) (record_in version rest) (λ t skip. fold_records may next version t skip rest)
  unfolding fold_records
  opens s rest = refl

  pub takes : (s : S) (rest : List ℕ) (record_ : Record) (size : ℕ) → record_in version rest ≡ Some (record_, size) → may s record_ ≡ true → size ≤ length rest → fold_records may next version s 0 (1 ∷ rest) ≡ fold_records may next version (next s record_) 0 (drop size rest)
  takes s rest record_ size is follows le = opens s rest ∙ rw (is, follows) (skips (next s record_) size rest le)

  pub damaged : (s : S) (rest : List ℕ) → record_in version rest ≡ None → fold_records may next version s 0 (1 ∷ rest) ≡ Err (length rest + 1)
  damaged s rest is = opens s rest ∙ rw is refl

  pub strays : (s : S) (rest : List ℕ) (record_ : Record) (size : ℕ) → record_in version rest ≡ Some (record_, size) → may s record_ ≡ false → fold_records may next version s 0 (1 ∷ rest) ≡ Err (length rest + 1)
  strays s rest record_ size is stray = opens s rest ∙ rw (is, stray) refl

  -- the turns of a loop, whose bytes are known by their parts
  pub turn : (s : S) (rest : List ℕ) (record_ : Record) (size : ℕ) → 0 < length rest → get_or rest 0 0 ≡ 1 → record_in version (drop 1 rest) ≡ Some (record_, size) → may s record_ ≡ true → size ≤ length (drop 1 rest) → fold_records may next version s 0 rest ≡ fold_records may next version (next s record_) 0 (drop size (drop 1 rest))
  turn s [] record_ size some gate is follows le = absurd (omega arith)
  turn s (g ∷ rest) record_ size some gate is follows le = ap (λ (x : ℕ). fold_records may next version s 0 (x ∷ rest)) gate ∙ takes s rest record_ size is follows le

  pub torn_turn : (s : S) (rest : List ℕ) → 0 < length rest → get_or rest 0 0 ≡ 1 → record_in version (drop 1 rest) ≡ None → fold_records may next version s 0 rest ≡ Err (length rest)
  torn_turn s [] some gate is = absurd (omega arith)
  torn_turn s (g ∷ rest) some gate is = ap (λ (x : ℕ). fold_records may next version s 0 (x ∷ rest)) gate ∙ damaged s rest is ∙ ap (λ (n : ℕ). Err n) (omega arith)

  pub stray_turn : (s : S) (rest : List ℕ) (record_ : Record) (size : ℕ) → 0 < length rest → get_or rest 0 0 ≡ 1 → record_in version (drop 1 rest) ≡ Some (record_, size) → may s record_ ≡ false → fold_records may next version s 0 rest ≡ Err (length rest)
  stray_turn s [] record_ size some gate is stray = absurd (omega arith)
  stray_turn s (g ∷ rest) record_ size some gate is stray = ap (λ (x : ℕ). fold_records may next version s 0 (x ∷ rest)) gate ∙ strays s rest record_ size is stray ∙ ap (λ (n : ℕ). Err n) (omega arith)

  pub last_turn : (s : S) (rest : List ℕ) → 0 < length rest → get_or rest 0 0 ≢ 1 → fold_records may next version s 0 rest ≡ Ok (s, length rest)
  last_turn s [] some shut = absurd (omega arith)
  last_turn s (g ∷ rest) some shut = closed s g rest shut ∙ ap (λ (n : ℕ). Ok (s, n)) (omega arith)

  pub no_turn : (s : S) (rest : List ℕ) → length rest ≡ 0 → fold_records may next version s 0 rest ≡ Err 0
  no_turn s [] none = no_gate s
  no_turn s (g ∷ rest) none = absurd (omega (arith, none))

-- ---- the turns of the two loops

pub went_on : (version : ℕ) (c d : Contents) (rest : List ℕ) (record_ : Record) (size : ℕ) (total : Result (Contents × ℕ) ℕ) → 0 < length rest → get_or rest 0 0 ≡ 1 → record_in version (drop 1 rest) ≡ Some (record_, size) → may_follow c record_ ≡ true → d ≡ with_record c record_ → size ≤ length (drop 1 rest) → contents_from version c 0 rest ≡ total → contents_from version d 0 (drop size (drop 1 rest)) ≡ total
unfolding contents_from
went_on version c d rest record_ size total some gate is follows next le so_far = ap (λ (x : Contents). fold_records may_follow with_record version x 0 (drop size (drop 1 rest))) next ∙ sym (turn may_follow with_record version c rest record_ size some gate is follows le) ∙ so_far

pub was_damaged : (version : ℕ) (c : Contents) (rest : List ℕ) (total : Result (Contents × ℕ) ℕ) → 0 < length rest → get_or rest 0 0 ≡ 1 → record_in version (drop 1 rest) ≡ None → contents_from version c 0 rest ≡ total → total ≡ Err (length rest)
unfolding contents_from
was_damaged version c rest total some gate is so_far = sym so_far ∙ torn_turn may_follow with_record version c rest some gate is

pub did_not_follow : (version : ℕ) (c : Contents) (rest : List ℕ) (record_ : Record) (size : ℕ) (total : Result (Contents × ℕ) ℕ) → 0 < length rest → get_or rest 0 0 ≡ 1 → record_in version (drop 1 rest) ≡ Some (record_, size) → may_follow c record_ ≡ false → contents_from version c 0 rest ≡ total → total ≡ Err (length rest)
unfolding contents_from
did_not_follow version c rest record_ size total some gate is stray so_far = sym so_far ∙ stray_turn may_follow with_record version c rest record_ size some gate is stray

pub was_closed : (version : ℕ) (c : Contents) (rest : List ℕ) (total : Result (Contents × ℕ) ℕ) → 0 < length rest → get_or rest 0 0 ≢ 1 → contents_from version c 0 rest ≡ total → total ≡ Ok (c, length rest)
unfolding contents_from
was_closed version c rest total some shut so_far = sym so_far ∙ last_turn may_follow with_record version c rest some shut

pub had_no_gate : (version : ℕ) (c : Contents) (rest : List ℕ) (total : Result (Contents × ℕ) ℕ) → length rest ≡ 0 → contents_from version c 0 rest ≡ total → total ≡ Err 0
unfolding contents_from
had_no_gate version c rest total none so_far = sym so_far ∙ no_turn may_follow with_record version c rest none

pub looked_on : (version life then : ℕ) (rest : List ℕ) (record_ : Record) (size : ℕ) (total : Result (ℕ × ℕ) ℕ) → 0 < length rest → get_or rest 0 0 ≡ 1 → record_in version (drop 1 rest) ≡ Some (record_, size) → may_follow_life life record_ ≡ true → then ≡ life_with life record_ → size ≤ length (drop 1 rest) → life_from version life 0 rest ≡ total → life_from version then 0 (drop size (drop 1 rest)) ≡ total
unfolding life_from
looked_on version life then rest record_ size total some gate is follows next le so_far = ap (λ (x : ℕ). fold_records may_follow_life life_with version x 0 (drop size (drop 1 rest))) next ∙ sym (turn may_follow_life life_with version life rest record_ size some gate is follows le) ∙ so_far

pub looked_damaged : (version life : ℕ) (rest : List ℕ) (total : Result (ℕ × ℕ) ℕ) → 0 < length rest → get_or rest 0 0 ≡ 1 → record_in version (drop 1 rest) ≡ None → life_from version life 0 rest ≡ total → total ≡ Err (length rest)
unfolding life_from
looked_damaged version life rest total some gate is so_far = sym so_far ∙ torn_turn may_follow_life life_with version life rest some gate is

pub looked_not_rising : (version life : ℕ) (rest : List ℕ) (record_ : Record) (size : ℕ) (total : Result (ℕ × ℕ) ℕ) → 0 < length rest → get_or rest 0 0 ≡ 1 → record_in version (drop 1 rest) ≡ Some (record_, size) → may_follow_life life record_ ≡ false → life_from version life 0 rest ≡ total → total ≡ Err (length rest)
unfolding life_from
looked_not_rising version life rest record_ size total some gate is stray so_far = sym so_far ∙ stray_turn may_follow_life life_with version life rest record_ size some gate is stray

pub looked_closed : (version life : ℕ) (rest : List ℕ) (total : Result (ℕ × ℕ) ℕ) → 0 < length rest → get_or rest 0 0 ≢ 1 → life_from version life 0 rest ≡ total → total ≡ Ok (life, length rest)
unfolding life_from
looked_closed version life rest total some shut so_far = sym so_far ∙ last_turn may_follow_life life_with version life rest some shut

pub looked_no_gate : (version life : ℕ) (rest : List ℕ) (total : Result (ℕ × ℕ) ℕ) → length rest ≡ 0 → life_from version life 0 rest ≡ total → total ≡ Err 0
unfolding life_from
looked_no_gate version life rest total none so_far = sym so_far ∙ no_turn may_follow_life life_with version life rest none

-- ---- lives alone, if the keys are too many

-- the same fold_records, but only the life is told
abbrev pub told : Result (Contents × ℕ) ℕ → Result (ℕ × ℕ) ℕ
told (Ok r) = Ok (r.0.life, r.1)
told (Err left) = Err left

by_test : (g : Bool) (left : ℕ) (x : Result (Contents × ℕ) ℕ) (y : Result (ℕ × ℕ) ℕ) → told x ≡ y → told (cond g x (Err left)) ≡ cond g y (Err left)
by_test true left x y same = same
by_test false left x y same = refl

by_gate : (g : Bool) (c : Contents) (left : ℕ) (x : Result (Contents × ℕ) ℕ) (y : Result (ℕ × ℕ) ℕ) → told x ≡ y → told (cond g x (Ok (c, left))) ≡ cond g y (Ok (c.life, left))
by_gate true c left x y same = same
by_gate false c left x y same = refl

by_item : (c : Contents) (left : ℕ) (record_ : Record) (size : ℕ) (more : Contents → ℕ → Result (Contents × ℕ) ℕ) (on : ℕ → ℕ → Result (ℕ × ℕ) ℕ) → ((d : Contents) (skip : ℕ) → told (more d skip) ≡ on d.life skip)
    → told (cond (may_follow c record_) (more (with_record c record_) size) (Err left)) ≡ cond (may_follow_life c.life record_) (on (life_with c.life record_) size) (Err left)
by_item c left (Life n) size more on same = by_test (Rattle.std.specs.Prelude.nat_lt c.life n) left (more (with_record c (Life n)) size) (on n size) (same (with_record c (Life n)) size)
by_item c left (Object key o) size more on same = same (with_record c (Object key o)) size

by_record : (c : Contents) (left : ℕ) (r : Option (Record × ℕ)) (more : Contents → ℕ → Result (Contents × ℕ) ℕ) (on : ℕ → ℕ → Result (ℕ × ℕ) ℕ) → ((d : Contents) (skip : ℕ) → told (more d skip) ≡ on d.life skip)
    → told (after_record may_follow with_record c left r more) ≡ after_record may_follow_life life_with c.life left r on
by_record c left None more on same = refl
by_record c left (Some r) more on same = by_item c left r.0 r.1 more on same

tells_walk : (version : ℕ) (b : List ℕ) (c : Contents) (skip : ℕ) → told (fold_records may_follow with_record version c skip b) ≡ fold_records may_follow_life life_with version c.life skip b
unfolding fold_records
tells_walk version [] c zero = refl
tells_walk version [] c (suc skip) = refl
tells_walk version (x ∷ b) c (suc skip) = tells_walk version b c skip
tells_walk version (gate ∷ b) c zero =
    by_gate (Rattle.std.specs.Prelude.◌==◌ gate 1) c (length b + 1)
    (after_record may_follow with_record c (length b + 1) (record_in version b) (λ d skip. fold_records may_follow with_record version d skip b))
    (after_record may_follow_life life_with c.life (length b + 1) (record_in version b) (λ life skip. fold_records may_follow_life life_with version life skip b))
    (by_record c (length b + 1) (record_in version b) (λ d skip. fold_records may_follow with_record version d skip b) (λ life skip. fold_records may_follow_life life_with version life skip b) (λ d skip. tells_walk version b d skip))

pub tells : (version : ℕ) (c : Contents) (b : List ℕ) → told (contents_from version c 0 b) ≡ life_from version c.life 0 b
unfolding contents_from life_from
tells version c b = tells_walk version b c 0

-- ---- keys don't get fewer

match_many : (o : Ordering) (n : ℕ) (x y z : Table) → n ≤ length x → n ≤ length y → n ≤ length z → n ≤ length (by_order o x y z)
match_many Less n x y z a b c = a
match_many Equal n x y z a b c = b
match_many Greater n x y z a b c = c

pub no_fewer : (t : Table) (key : Key) (o : List Entry) → length t ≤ length (put key_cmp key o t)
no_fewer [] key o = omega arith
no_fewer (e ∷ t) key o = match_many (key_cmp key e.0) (length (e ∷ t)) ((key, o) ∷ e ∷ t) ((e.0, o) ∷ t) (e ∷ put key_cmp key o t) (omega arith) (omega arith) (omega (arith, no_fewer t key o))

match_few : (o : Ordering) (n : ℕ) (x y z : Table) → length x ≤ n → length y ≤ n → length z ≤ n → length (by_order o x y z) ≤ n
match_few Less n x y z a b c = a
match_few Equal n x y z a b c = b
match_few Greater n x y z a b c = c

pub one_more : (t : Table) (key : Key) (o : List Entry) → length (put key_cmp key o t) ≤ length t + 1
one_more [] key o = omega arith
one_more (e ∷ t) key o = match_few (key_cmp key e.0) (length (e ∷ t) + 1) ((key, o) ∷ e ∷ t) ((e.0, o) ∷ t) (e ∷ put key_cmp key o t) (omega arith) (omega arith) (omega (arith, one_more t key o))

still_many : (c : Contents) (record_ : Record) → 8192 < length c.table → 8192 < length (with_record c record_).table
still_many c (Life n) many = many
still_many c (Object key o) many = omega (arith, many, no_fewer c.table key o)

-- so many keys, wherever it ends
abbrev ManyAtEnd : Result (Contents × ℕ) ℕ → Type 0
ManyAtEnd (Ok r) = 8192 < length r.0.table
ManyAtEnd (Err left) = Unit {0}

many_test : (g : Bool) (left : ℕ) (x : Result (Contents × ℕ) ℕ) → ManyAtEnd x → ManyAtEnd (cond g x (Err left))
many_test true left x many = many
many_test false left x many = tt

many_gate : (g : Bool) (c : Contents) (left : ℕ) (x : Result (Contents × ℕ) ℕ) → 8192 < length c.table → ManyAtEnd x → ManyAtEnd (cond g x (Ok (c, left)))
many_gate true c left x here many = many
many_gate false c left x here many = here

many_record : (c : Contents) (left : ℕ) (r : Option (Record × ℕ)) (more : Contents → ℕ → Result (Contents × ℕ) ℕ) → 8192 < length c.table → ((d : Contents) (skip : ℕ) → 8192 < length d.table → ManyAtEnd (more d skip)) → ManyAtEnd (after_record may_follow with_record c left r more)
many_record c left None more here many = tt
many_record c left (Some r) more here many = many_test (may_follow c r.0) left (more (with_record c r.0) r.1) (many (with_record c r.0) r.1 (still_many c r.0 here))

many_walk : (version : ℕ) (b : List ℕ) (c : Contents) (skip : ℕ) → 8192 < length c.table → ManyAtEnd (fold_records may_follow with_record version c skip b)
unfolding fold_records
many_walk version [] c zero here = tt
many_walk version [] c (suc skip) here = tt
many_walk version (x ∷ b) c (suc skip) here = many_walk version b c skip here
many_walk version (gate ∷ b) c zero here =
    many_gate (Rattle.std.specs.Prelude.◌==◌ gate 1) c (length b + 1)
    (after_record may_follow with_record c (length b + 1) (record_in version b) (λ d skip. fold_records may_follow with_record version d skip b)) here
    (many_record c (length b + 1) (record_in version b) (λ d skip. fold_records may_follow with_record version d skip b) here (λ d skip many. many_walk version b d skip many))

pub many : (version : ℕ) (c : Contents) (b : List ℕ) → 8192 < length c.table → ManyAtEnd (contents_from version c 0 b)
unfolding contents_from
many version c b here = many_walk version b c 0 here

err_told : (read : Result (Contents × ℕ) ℕ) (n : ℕ) → told read ≡ Err n → read ≡ Err n
err_told (Ok r) n e = absurd cc
err_told (Err left) n e = ap (λ (k : ℕ). Err k) (left_is left n e)
  where
    left_is : (a b : ℕ) → told (Err a) ≡ told (Err b) → a ≡ b
    left_is a b e = cc

full_told : (read : Result (Contents × ℕ) ℕ) → ManyAtEnd read → Ends (told read) → HasTooMany read
full_told (Ok r) many ends = many
full_told (Err left) many ends = ends

pub was_too_many : (version : ℕ) (c d : Contents) (rest : List ℕ) (record_ : Record) (size : ℕ) (total : Result (Contents × ℕ) ℕ) → 0 < length rest → get_or rest 0 0 ≡ 1 → record_in version (drop 1 rest) ≡ Some (record_, size) → may_follow c record_ ≡ true → d ≡ with_record c record_ → 8192 < length d.table → size ≤ length (drop 1 rest)
    → contents_from version c 0 rest ≡ total → Ends (life_from version d.life 0 (drop size (drop 1 rest))) → HasTooMany total
was_too_many version c d rest record_ size total some gate is follows next too le so_far ends =
    let on = drop size (drop 1 rest) in
    subst (λ (r : Result (Contents × ℕ) ℕ). HasTooMany r) (went_on version c d rest record_ size total some gate is follows next le so_far)
    (full_told (contents_from version d 0 on) (many version d on too) (subst (λ (r : Result (ℕ × ℕ) ℕ). Ends r) (sym (tells version d on)) ends))

pub was_damaged_later : (version : ℕ) (c d : Contents) (rest : List ℕ) (record_ : Record) (size n : ℕ) (total : Result (Contents × ℕ) ℕ) → 0 < length rest → get_or rest 0 0 ≡ 1 → record_in version (drop 1 rest) ≡ Some (record_, size) → may_follow c record_ ≡ true → d ≡ with_record c record_ → size ≤ length (drop 1 rest)
    → contents_from version c 0 rest ≡ total → life_from version d.life 0 (drop size (drop 1 rest)) ≡ Err n → total ≡ Err n
was_damaged_later version c d rest record_ size n total some gate is follows next le so_far ends =
    let on = drop size (drop 1 rest) in
    sym (went_on version c d rest record_ size total some gate is follows next le so_far) ∙ err_told (contents_from version d 0 on) n (tells version d on ∙ ends)

-- what was looked at, and the keys too many
pub failed_behind : (e : ReadFault) (version : ℕ) (c d : Contents) (rest : List ℕ) (record_ : Record) (size : ℕ) (total : Result (Contents × ℕ) ℕ) → 0 < length rest → get_or rest 0 0 ≡ 1 → record_in version (drop 1 rest) ≡ Some (record_, size) → may_follow c record_ ≡ true → d ≡ with_record c record_ → 8192 < length d.table → size ≤ length (drop 1 rest)
    → contents_from version c 0 rest ≡ total → FailsBehind e (life_from version d.life 0 (drop size (drop 1 rest))) → FailsLike e total
failed_behind errors.Memory version c d rest record_ size total some gate is follows next too le so_far ends = tt
failed_behind errors.Full version c d rest record_ size total some gate is follows next too le so_far ends = was_too_many version c d rest record_ size total some gate is follows next too le so_far ends
failed_behind (errors.Left n) version c d rest record_ size total some gate is follows next too le so_far ends = was_damaged_later version c d rest record_ size n total some gate is follows next le so_far ends

-- ---- all turns of a loop

pub ruleset contents_turns = (went_on, was_damaged, did_not_follow, was_closed, had_no_gate)

pub ruleset life_turns = (looked_on, looked_damaged, looked_not_rising, looked_closed, looked_no_gate)
