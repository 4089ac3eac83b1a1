-- A file with too many keys: of its records nothing counts but that they are whole, and that lives
-- rise.
use Rattle.std.proofs.Common.{◌≡◌, ℕ, zero, suc, ◌+◌, ◌-◌, ◌<◌, ◌≤◌, List, [], ◌∷◌, length, Option, Some, None, Bool, true, false, ◌&&◌, is_none, is_some, cond, leb, nat_lt, ◌==◌, Result, Ok, Err, refl, ap, arith}
use Rattle.std.specs.Bool.{passes}
use Rattle.std.specs.FinMap.{find, put, is_sorted}
use Rattle.std.specs.FinMap.Entries.{by_order, length-put}
use Rattle.std.specs.declared.cmp.Ordering.{Ordering}
use Rattle.std.specs.declared.cmp.Ordering.TheVariants.{Less, Equal, Greater}
use Rattle.std.proofs.lemmas.Bool.{leb-true}
use Rattle.meta_types.specs.Name.{Key}
use Rattle.meta_types.specs.Order.{key_cmp}
use Rattle.dvvset.specs.Object.{Entry}
use Rattle.meta_store.specs.Table.{Table, most_keys, with_object}
use Rattle.meta_store.specs.Step.{is_full_for}
use Rattle.meta_store.specs.declared.fault.StoreFault.TheVariants.{StoreFull}
use Rattle.meta_store.proofs.Keys.{key_total}
use Rattle.node_file.specs.declared.fault.FileFault.TheVariants.{Store}
use Rattle.node_file.specs.declared.record.Record.{Record}
use Rattle.node_file.specs.declared.record.Record.TheVariants.{Life, Object}
use Rattle.node_file.specs.Record.{record_in}
use Rattle.node_file.specs.Fold.{Contents, fold_records, life_with, may_follow, may_follow_life, after_record, with_record}
use Rattle.node_file.specs.File.{ended}
use Rattle.file_pieces.specs.Progress.{ended_full}
use Rattle.file_pieces.proofs.Framing.{below}

-- ---- lives alone

-- the same, but of the contents the life alone
abbrev pub lives_of : Result (Contents × ℕ) ℕ → Result (ℕ × ℕ) ℕ
lives_of (Ok r) = Ok (r.0.life, r.1)
lives_of (Err left) = Err left

by_test : (g : Bool) (left : ℕ) (x : Result (Contents × ℕ) ℕ) (y : Result (ℕ × ℕ) ℕ) → lives_of x ≡ y → lives_of (cond g x (Err left)) ≡ cond g y (Err left)
by_test true left x y same = same
by_test false left x y same = refl

by_gate : (g : Bool) (c : Contents) (left : ℕ) (x : Result (Contents × ℕ) ℕ) (y : Result (ℕ × ℕ) ℕ) → lives_of x ≡ y → lives_of (cond g x (Ok (c, left))) ≡ cond g y (Ok (c.life, left))
by_gate true c left x y same = same
by_gate false c left x y same = refl

by_item : (c : Contents) (left : ℕ) (record_ : Record) (size : ℕ) (more : Contents → ℕ → Result (Contents × ℕ) ℕ) (on : ℕ → ℕ → Result (ℕ × ℕ) ℕ) → ((d : Contents) (skip : ℕ) → lives_of (more d skip) ≡ on d.life skip)
    → lives_of (cond (may_follow c record_) (more (with_record c record_) size) (Err left)) ≡ cond (may_follow_life c.life record_) (on (life_with c.life record_) size) (Err left)
by_item c left (Life n) size more on same = by_test (nat_lt c.life n) left (more (with_record c (Life n)) size) (on n size) (same (with_record c (Life n)) size)
by_item c left (Object key o) size more on same = same (with_record c (Object key o)) size

by_record : (c : Contents) (left : ℕ) (r : Option (Record × ℕ)) (more : Contents → ℕ → Result (Contents × ℕ) ℕ) (on : ℕ → ℕ → Result (ℕ × ℕ) ℕ) → ((d : Contents) (skip : ℕ) → lives_of (more d skip) ≡ on d.life skip)
    → lives_of (after_record may_follow with_record c left r more) ≡ after_record may_follow_life life_with c.life left r on
by_record c left None more on same = refl
by_record c left (Some r) more on same = by_item c left r.0 r.1 more on same

pub tells : (version : ℕ) (b : List ℕ) (c : Contents) (skip : ℕ) → lives_of (fold_records may_follow with_record version c skip b) ≡ fold_records may_follow_life life_with version c.life skip b
unfolding fold_records
tells version [] c zero = refl
tells version [] c (suc skip) = refl
tells version (x ∷ b) c (suc skip) = tells version b c skip
tells version (gate ∷ b) c zero =
    by_gate (gate == 1) c (length b + 1)
    (after_record may_follow with_record c (length b + 1) (record_in version b) (λ d skip. fold_records may_follow with_record version d skip b))
    (after_record may_follow_life life_with c.life (length b + 1) (record_in version b) (λ life skip. fold_records may_follow_life life_with version life skip b))
    (by_record c (length b + 1) (record_in version b) (λ d skip. fold_records may_follow with_record version d skip b) (λ life skip. fold_records may_follow_life life_with version life skip b) (λ d skip. tells version b d skip))

-- ---- keys don't get fewer

match_many : (o : Ordering) (n : ℕ) (x y z : Table) → n ≤ length x → n ≤ length y → n ≤ length z → n ≤ length (by_order o x y z)
match_many Less n x y z a b c = a
match_many Equal n x y z a b c = b
match_many Greater n x y z a b c = c

no_fewer : (t : Table) (key : Key) (o : List Entry) → length t ≤ length (put key_cmp key o t)
no_fewer [] key o = omega arith
no_fewer (e ∷ t) key o = match_many (key_cmp key e.0) (length (e ∷ t)) ((key, o) ∷ e ∷ t) ((e.0, o) ∷ t) (e ∷ put key_cmp key o t) (omega arith) (omega arith) (omega (arith, no_fewer t key o))

still_many : (c : Contents) (record_ : Record) → 8192 < length c.table → 8192 < length (with_record c record_).table
still_many c (Life n) many = many
still_many c (Object key o) many = omega (arith, many, no_fewer c.table key o)

-- so many keys, wherever it ends
abbrev ManyAtEnd : Result (Contents × ℕ) ℕ → Type 0
ManyAtEnd (Ok r) = 8192 < length r.0.table
ManyAtEnd (Err left) = Unit {0}

many_test : (g : Bool) (left : ℕ) (x : Result (Contents × ℕ) ℕ) → ManyAtEnd x → ManyAtEnd (cond g x (Err left))
many_test true left x many = many
many_test false left x many = tt

many_gate : (g : Bool) (c : Contents) (left : ℕ) (x : Result (Contents × ℕ) ℕ) → 8192 < length c.table → ManyAtEnd x → ManyAtEnd (cond g x (Ok (c, left)))
many_gate true c left x here many = many
many_gate false c left x here many = here

many_record : (c : Contents) (left : ℕ) (r : Option (Record × ℕ)) (more : Contents → ℕ → Result (Contents × ℕ) ℕ) → 8192 < length c.table → ((d : Contents) (skip : ℕ) → 8192 < length d.table → ManyAtEnd (more d skip)) → ManyAtEnd (after_record may_follow with_record c left r more)
many_record c left None more here many = tt
many_record c left (Some r) more here many = many_test (may_follow c r.0) left (more (with_record c r.0) r.1) (many (with_record c r.0) r.1 (still_many c r.0 here))

pub many_end : (version : ℕ) (b : List ℕ) (c : Contents) (skip : ℕ) → 8192 < length c.table → ManyAtEnd (fold_records may_follow with_record version c skip b)
unfolding fold_records
many_end version [] c zero here = tt
many_end version [] c (suc skip) here = tt
many_end version (x ∷ b) c (suc skip) here = many_end version b c skip here
many_end version (gate ∷ b) c zero here =
    many_gate (gate == 1) c (length b + 1)
    (after_record may_follow with_record c (length b + 1) (record_in version b) (λ d skip. fold_records may_follow with_record version d skip b)) here
    (many_record c (length b + 1) (record_in version b) (λ d skip. fold_records may_follow with_record version d skip b) here (λ d skip many. many_end version b d skip many))

-- what is told of the file at its end
pub ended_many : (total : ℕ) (front : ℕ × ℕ) (read : Result (Contents × ℕ) ℕ) → ManyAtEnd read → ended total front read ≡ ended_full total (lives_of read)
ended_many total front (Err left) many = refl
ended_many total front (Ok r) many = ap (λ (t : Bool). cond t (Err (Store StoreFull)) (Ok (record { version = front.0; node = front.1; contents = r.0 }, total - r.1))) (below 8192 (length r.0.table) many)

-- ---- a key for which there is no room

size_over : (found : Option (List Entry)) (n m : ℕ) → m ≡ cond (is_some found) n (n + 1) → (is_none found && leb most_keys n) ≡ true → most_keys < m
size_over None n m is full = let most : most_keys ≤ n = leb-true most_keys n full in omega (arith, is, most)
size_over (Some o) n m is full = absurd cc

pub too_many_with : (table : Table) (k : Key) (o : List Entry) → is_sorted key_cmp table ≡ true → is_full_for table k ≡ true → most_keys < length (with_object k o table)
too_many_with table k o rising full = size_over (find key_cmp k table) (length table) (length (put key_cmp k o table)) (length-put key_cmp key_total k o table (passes (is_sorted key_cmp table) rising)) full
