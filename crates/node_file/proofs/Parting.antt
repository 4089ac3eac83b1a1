-- The parts of a file that stands for something: whole records, a closed gate, and whatever is behind it.
use Rattle.std.proofs.Common.{◌≡◌, ◌≢◌, inl, inr, ℕ, zero, suc, ◌+◌, ◌-◌, ◌≤◌, List, [], ◌∷◌, ◌++◌, length, take, drop, Option, Some, None, Result, Ok, Err, Bool, true, false, cond, nat_lt, refl, sym, ◌∙◌, ap, subst, arith, append_assoc, length-append, length-take, length-drop, take-append-drop}
use Rattle.std.specs.Int.{w32, from_be_bytes}
use Rattle.std.proofs.lemmas.Bool.{cases_eq}
use Rattle.std.proofs.lemmas.Bool.Decides.{nat_tests}
use Rattle.std.proofs.lemmas.List.{take_at, drop_at, take-take, take-append-le}
use Rattle.node_file.specs.declared.fault.FileFault.{FileFault}
use Rattle.meta_store.specs.declared.fault.StoreFault.TheVariants.{StoreFull}
use Rattle.node_file.specs.declared.fault.FileFault.TheVariants.{Store}
use Rattle.node_file.specs.declared.record.Record.{Record}
use Rattle.node_file.specs.Record.{record_in, record_of_length, whole_record, with_size}
use Rattle.node_file.specs.Fold.{Contents, contents_from, fold_records, may_follow, no_contents, after_record, with_record}
use Rattle.node_file.specs.File.{FileState, ended, for_node, front_in, opened}
use Rattle.node_file.proofs.Folding.{closed, opens}

-- ---- tests that did not fail

pub guard_some : {A : Type 0} (b : Bool) (r : Option A) (y : A) → cond b None r ≡ Some y → (b ≡ false) × (r ≡ Some y)
guard_some true r y e = absurd cc
guard_some false r y e = (refl, e)

test_some : {A : Type 0} (b : Bool) (r : Option A) (y : A) → cond b r None ≡ Some y → r ≡ Some y
test_some true r y e = e
test_some false r y e = absurd cc

guard_ok : {A : Type 0} (b : Bool) (d : FileFault) (r : Result A FileFault) (y : A) → cond b (Err d) r ≡ Ok y → (b ≡ false) × (r ≡ Ok y)
guard_ok true d r y e = absurd cc
guard_ok false d r y e = (refl, e)

test_ok : {A : Type 0} (b : Bool) (left : ℕ) (r : Result A ℕ) (y : A) → cond b r (Err left) ≡ Ok y → (b ≡ true) × (r ≡ Ok y)
test_ok true left r y e = (refl, e)
test_ok false left r y e = absurd cc

pub at_least : (a b : ℕ) → nat_lt a b ≡ false → b ≤ a
at_least a b e = grind (arith, nat_tests)

pub not_below : (a b : ℕ) → b ≤ a → nat_lt a b ≡ false
not_below a b le = grind (arith, nat_tests)

some_is : {A : Type 0} (x y : A) → Some x ≡ Some y → x ≡ y
some_is x y e = cc

abbrev done : {A : Type 0} → A → Result A ℕ
done x = Ok x

ok_is : {A : Type 0} (x y : A) → done x ≡ done y → x ≡ y
ok_is x y e = cc

sized_some : (n : ℕ) (r : Option Record) (record_ : Record) (m : ℕ) → with_size n r ≡ Some (record_, m) → m ≡ n
sized_some n None record_ m e = absurd cc
sized_some n (Some q) record_ m e = ap (λ (x : Record × ℕ). x.1) (sym (some_is (q, n) (record_, m) e))

-- ---- a record

pub record WholeRecord (version : ℕ) (bytes : List ℕ) (record_ : Record) (n : ℕ) : Type 0 where
  pub long : 4 ≤ length bytes
  pub fits : from_be_bytes w32 (take 4 bytes) ≤ 16777216
  pub whole : 36 + from_be_bytes w32 (take 4 bytes) ≤ length bytes
  pub size : n ≡ 36 + from_be_bytes w32 (take 4 bytes)
  pub is : whole_record version (from_be_bytes w32 (take 4 bytes)) (take (36 + from_be_bytes w32 (take 4 bytes)) bytes) ≡ Some (record_, n)

size_of : (version m : ℕ) (whole : List ℕ) (record_ : Record) (n : ℕ) → whole_record version m whole ≡ Some (record_, n) → n ≡ 36 + m
unfolding whole_record
size_of version m whole record_ n e = sized_some (36 + m) _ record_ n (test_some _ _ (record_, n) e)

pub held : (version : ℕ) (bytes : List ℕ) (record_ : Record) (n : ℕ) → record_in version bytes ≡ Some (record_, n) → WholeRecord version bytes record_ n
unfolding record_in record_of_length
held version bytes record_ n e =
    let a = guard_some _ _ (record_, n) e in
    let b = guard_some _ _ (record_, n) a.1 in
    let d = guard_some _ _ (record_, n) b.1 in
    record {
      long = at_least _ _ a.0;
      fits = at_least _ _ b.0;
      whole = at_least _ _ d.0;
      size = size_of version _ _ record_ n d.1;
      is = d.1;
    }

pub reads_whole : (version : ℕ) (bytes : List ℕ) (m : ℕ) → 36 + m ≤ length bytes → m ≤ 16777216 → from_be_bytes w32 (take 4 bytes) ≡ m → record_in version bytes ≡ whole_record version m (take (36 + m) bytes)
unfolding record_in record_of_length
reads_whole version bytes m le fits is = rw (not_below (length bytes) 4 (omega (arith, le)), is, not_below 16777216 m fits, not_below (length bytes) (36 + m) le) refl

-- a record is read from its own bytes alone
pub same_record : (version : ℕ) (bytes other : List ℕ) (record_ : Record) (n : ℕ) → record_in version bytes ≡ Some (record_, n) → take n other ≡ take n bytes → n ≤ length other → record_in version other ≡ Some (record_, n)
same_record version bytes other record_ n e same le =
    let h = held version bytes record_ n e in
    let m = from_be_bytes w32 (take 4 bytes) in
    let four : take 4 other ≡ take 4 bytes = sym (take-take 4 n other (omega (arith, h.size))) ∙ ap (λ (l : List ℕ). take 4 l) same ∙ take-take 4 n bytes (omega (arith, h.size)) in
    let all : take (36 + m) other ≡ take (36 + m) bytes = ap (λ (k : ℕ). take k other) (sym h.size) ∙ same ∙ ap (λ (k : ℕ). take k bytes) h.size in
    reads_whole version other m (omega (arith, h.size, le)) h.fits (ap (from_be_bytes w32) four) ∙ ap (whole_record version m) all ∙ h.is

-- ---- the records of a file

module _ {S : Type 0} (may : S → Record → Bool) (next : S → Record → S) (version : ℕ) where
  pub record Parts (s : S) (skip : ℕ) (b : List ℕ) (t : S) (left : ℕ) : Type 0 where
    pub front : List ℕ
    pub gate : ℕ
    pub rest : List ℕ
    pub split : b ≡ front ++ gate ∷ rest
    pub shut : gate ≢ 1
    pub left_is : left ≡ length rest + 1
    pub covers : skip ≤ length front
    pub goes : (x : List ℕ) → fold_records may next version s skip (front ++ x) ≡ fold_records may next version t 0 x

  abbrev more_from : List ℕ → S → ℕ → Result (S × ℕ) ℕ
  more_from b t skip = fold_records may next version t skip b

  pub taken_ok : (s : S) (left : ℕ) (r : Option (Record × ℕ)) (more : S → ℕ → Result (S × ℕ) ℕ) (y : S × ℕ) → after_record may next s left r more ≡ Ok y → (q : Record × ℕ) × (r ≡ Some q) × (may s q.0 ≡ true) × (more (next s q.0) q.1 ≡ Ok y)
  taken_ok s left None more y e = absurd cc
  taken_ok s left (Some q) more y e = let t = test_ok (may s q.0) left (more (next s q.0) q.1) y e in (q, refl, t.0, t.1)

  pub no_bytes : (s : S) (skip : ℕ) (y : S × ℕ) → fold_records may next version s skip [] ≡ Ok y → ⊥
  unfolding fold_records
  no_bytes s zero y e = cc
  no_bytes s (suc skip) y e = cc

  pub inside : (s : S) (skip x : ℕ) (b : List ℕ) → fold_records may next version s (suc skip) (x ∷ b) ≡ fold_records may next version s skip b
  unfolding fold_records
  inside s skip x b = refl

  pub both_are : (s t : S) (m left : ℕ) (r : Result (S × ℕ) ℕ) → r ≡ Ok (s, m) → r ≡ Ok (t, left) → (s ≡ t) × (left ≡ m)
  both_are s t m left r a b = let e = ok_is (s, m) (t, left) (sym a ∙ b) in (ap (λ (x : S × ℕ). x.0) e, ap (λ (x : S × ℕ). x.1) (sym e))

  pub parts : (b : List ℕ) (s : S) (skip : ℕ) (t : S) (left : ℕ) → fold_records may next version s skip b ≡ Ok (t, left) → Parts s skip b t left
  parts [] s skip t left e = absurd (no_bytes s skip (t, left) e)
  parts (x ∷ b) s (suc skip) t left e =
      let p = parts b s skip t left (sym (inside s skip x b) ∙ e) in
      record {
        front = x ∷ p.front;
        gate = p.gate;
        rest = p.rest;
        split = ap (λ (l : List ℕ). x ∷ l) p.split;
        shut = p.shut;
        left_is = p.left_is;
        covers = omega (arith, p.covers);
        goes = λ y. inside s skip x (p.front ++ y) ∙ p.goes y;
      }
  parts (x ∷ b) s zero t left e = elim (cases_eq x 1) [
    | inl is_open ↦
        let h : after_record may next s (length b + 1) (record_in version b) (more_from b) ≡ Ok (t, left) = sym (opens may next version s b) ∙ ap (λ (g : ℕ). fold_records may next version s 0 (g ∷ b)) (sym is_open) ∙ e in
        let q = taken_ok s (length b + 1) (record_in version b) (more_from b) (t, left) h in
        let size = q.0.1 in
        let p = parts b (next s q.0.0) size t left q.3 in
        record {
          front = x ∷ p.front;
          gate = p.gate;
          rest = p.rest;
          split = ap (λ (l : List ℕ). x ∷ l) p.split;
          shut = p.shut;
          left_is = p.left_is;
          covers = omega arith;
          goes = λ y.
              let same : take size (p.front ++ y) ≡ take size b = take-append-le size p.front y p.covers ∙ sym (take-append-le size p.front (p.gate ∷ p.rest) p.covers) ∙ ap (λ (l : List ℕ). take size l) (sym p.split) in
              let read : record_in version (p.front ++ y) ≡ Some (q.0.0, size) = same_record version b (p.front ++ y) q.0.0 size q.1 same (omega (arith, p.covers, length-append p.front y)) in
              ap (λ (g : ℕ). fold_records may next version s 0 (g ∷ (p.front ++ y))) is_open ∙ opens may next version s (p.front ++ y)
              ∙ ap (λ (r : Option (Record × ℕ)). after_record may next s (length (p.front ++ y) + 1) r (more_from (p.front ++ y))) read
              ∙ ap (λ (g : Bool). cond g (more_from (p.front ++ y) (next s q.0.0) size) (Err (length (p.front ++ y) + 1))) q.2
              ∙ p.goes y;
        }
    | inr shut ↦
        let both = both_are s t (length b + 1) left (fold_records may next version s 0 (x ∷ b)) (closed may next version s x b shut) e in
        record { front = []; gate = x; rest = b; split = refl; shut = shut; left_is = both.1; covers = omega arith; goes = λ y. ap (λ (u : S). fold_records may next version u 0 y) both.0 }
  ]

-- ---- a whole file

pub record IsLaidOut (s : FileState) (end : ℕ) (f : List ℕ) : Type 0 where
  pub front : List ℕ
  pub gate : ℕ
  pub rest : List ℕ
  pub split : f ≡ front ++ gate ∷ rest
  pub shut : gate ≢ 1
  pub size : length front ≡ end
  pub few : length s.contents.table ≤ 8192
  pub goes : (y : ℕ) (x : List ℕ) → opened None (front ++ y ∷ x) ≡ ended (end + (length x + 1)) (s.version, s.node) (fold_records may_follow with_record s.version s.contents 0 (y ∷ x))

pub for_ok : (total : ℕ) (rest : List ℕ) (head : Result (ℕ × ℕ) FileFault) (o : FileState × ℕ) → for_node None total rest head ≡ Ok o → (h : ℕ × ℕ) × (head ≡ Ok h) × (ended total h (contents_from h.0 no_contents 0 rest) ≡ Ok o)
for_ok total rest (Err fault) o e = absurd cc
for_ok total rest (Ok h) o e = (h, refl, e)

abbrev opened_ok : FileState × ℕ → Result (FileState × ℕ) FileFault
opened_ok o = Ok o

opened_is : (x y : FileState × ℕ) → opened_ok x ≡ opened_ok y → x ≡ y
opened_is x y e = cc

pub record Located (total : ℕ) (head : ℕ × ℕ) (read : Result (Contents × ℕ) ℕ) (s : FileState) (end : ℕ) : Type 0 where
  pub left : ℕ
  pub is : read ≡ Ok (s.contents, left)
  pub version : s.version ≡ head.0
  pub node : s.node ≡ head.1
  pub few : length s.contents.table ≤ 8192
  pub end_is : end ≡ total - left

pub located_ok : (total : ℕ) (head : ℕ × ℕ) (read : Result (Contents × ℕ) ℕ) (s : FileState) (end : ℕ) → ended total head read ≡ Ok (s, end) → Located total head read s end
located_ok total head (Err left) s end e = absurd cc
located_ok total head (Ok r) s end e =
    let o : FileState × ℕ = (record { version = head.0; node = head.1; contents = r.0 }, total - r.1) in
    let g = guard_ok (nat_lt 8192 (length r.0.table)) (Store StoreFull) (opened_ok o) (s, end) e in
    let is : o ≡ (s, end) = opened_is o (s, end) g.1 in
    let same : r.0 ≡ s.contents = ap (λ (x : FileState × ℕ). x.0.contents) is in
    record {
      left = r.1;
      is = ap (λ (u : Contents). done (u, r.1)) same;
      version = ap (λ (x : FileState × ℕ). x.0.version) (sym is);
      node = ap (λ (x : FileState × ℕ). x.0.node) (sym is);
      few = subst (λ (u : Contents). length u.table ≤ 8192) same (at_least 8192 (length r.0.table) g.0);
      end_is = ap (λ (x : FileState × ℕ). x.1) (sym is);
    }

pub unfolded : (bytes : List ℕ) → 11 ≤ length bytes → opened None bytes ≡ for_node None (length bytes) (drop 10 bytes) (front_in (take 10 bytes))
unfolding opened
unfolded bytes le = rw (not_below (length bytes) 11 le) refl

pub long_enough : (bytes : List ℕ) (o : FileState × ℕ) → opened None bytes ≡ Ok o → 11 ≤ length bytes
unfolding opened
long_enough bytes o e = at_least (length bytes) 11 (guard_ok _ _ _ o e).0

pub walked : (version : ℕ) (c : Contents) (skip : ℕ) (b : List ℕ) → contents_from version c skip b ≡ fold_records may_follow with_record version c skip b
unfolding contents_from
walked version c skip b = refl

-- what was read of the records
pub read_of : (bytes : List ℕ) (s : FileState) (end : ℕ) → opened None bytes ≡ Ok (s, end) → (left : ℕ) × (fold_records may_follow with_record s.version no_contents 0 (drop 10 bytes) ≡ Ok (s.contents, left))
read_of bytes s end e =
    let long = long_enough bytes (s, end) e in
    let h = for_ok (length bytes) (drop 10 bytes) (front_in (take 10 bytes)) (s, end) (sym (unfolded bytes long) ∙ e) in
    let l = located_ok (length bytes) h.0 (contents_from h.0.0 no_contents 0 (drop 10 bytes)) s end h.2 in
    (l.left, ap (λ (v : ℕ). fold_records may_follow with_record v no_contents 0 (drop 10 bytes)) l.version ∙ sym (walked h.0.0 no_contents 0 (drop 10 bytes)) ∙ l.is)

pub head_read : (bytes : List ℕ) (s : FileState) (end : ℕ) → opened None bytes ≡ Ok (s, end) → front_in (take 10 bytes) ≡ Ok (s.version, s.node)
head_read bytes s end e =
    let long = long_enough bytes (s, end) e in
    let h = for_ok (length bytes) (drop 10 bytes) (front_in (take 10 bytes)) (s, end) (sym (unfolded bytes long) ∙ e) in
    let l = located_ok (length bytes) h.0 (contents_from h.0.0 no_contents 0 (drop 10 bytes)) s end h.2 in
    h.1 ∙ λ i. Ok (sym l.version i, sym l.node i)

pub laid_out : (s : FileState) (end : ℕ) (f : List ℕ) → opened None f ≡ Ok (s, end) → IsLaidOut s end f
laid_out s end f e =
    let long = long_enough f (s, end) e in
    let h = for_ok (length f) (drop 10 f) (front_in (take 10 f)) (s, end) (sym (unfolded f long) ∙ e) in
    let l = located_ok (length f) h.0 (contents_from h.0.0 no_contents 0 (drop 10 f)) s end h.2 in
    let read : fold_records may_follow with_record s.version no_contents 0 (drop 10 f) ≡ Ok (s.contents, l.left) = ap (λ (v : ℕ). fold_records may_follow with_record v no_contents 0 (drop 10 f)) l.version ∙ sym (walked h.0.0 no_contents 0 (drop 10 f)) ∙ l.is in
    let p = parts may_follow with_record s.version (drop 10 f) no_contents 0 s.contents l.left read in
    let ten : length (take 10 f) ≡ 10 = omega (arith, length-take 10 f, long) in
    let behind : length (drop 10 f) ≡ length p.front + (length p.rest + 1) = omega (arith, ap length p.split, length-append p.front (p.gate ∷ p.rest)) in
    let size : length (take 10 f ++ p.front) ≡ end = omega (arith, length-append (take 10 f) p.front, ten, behind, length-drop 10 f, l.end_is, p.left_is, long) in
    let head : front_in (take 10 f) ≡ Ok (s.version, s.node) = h.1 ∙ λ i. Ok (sym l.version i, sym l.node i) in
    record {
      front = take 10 f ++ p.front;
      gate = p.gate;
      rest = p.rest;
      split = sym (take-append-drop 10 f) ∙ ap (λ (b : List ℕ). take 10 f ++ b) p.split ∙ sym (append_assoc (take 10 f) p.front (p.gate ∷ p.rest));
      shut = p.shut;
      size = size;
      few = l.few;
      goes = λ y x. laid_again s end (take 10 f) p.front y x ten size head (p.goes (y ∷ x));
    }
  where
    laid_again : (s : FileState) (end : ℕ) (head front : List ℕ) (y : ℕ) (x : List ℕ) → length head ≡ 10 → length (head ++ front) ≡ end → front_in head ≡ Ok (s.version, s.node)
        → fold_records may_follow with_record s.version no_contents 0 (front ++ y ∷ x) ≡ fold_records may_follow with_record s.version s.contents 0 (y ∷ x)
        → opened None ((head ++ front) ++ y ∷ x) ≡ ended (end + (length x + 1)) (s.version, s.node) (fold_records may_follow with_record s.version s.contents 0 (y ∷ x))
    laid_again s end head front y x ten size is goes =
        let whole = append_assoc head front (y ∷ x) in
        let total : length (head ++ (front ++ y ∷ x)) ≡ end + (length x + 1) = omega (arith, ap length (sym whole), length-append (head ++ front) (y ∷ x), size) in
        ap (opened None) whole
        ∙ unfolded (head ++ (front ++ y ∷ x)) (omega (arith, length-append head (front ++ y ∷ x), length-append front (y ∷ x), ten))
        ∙ rw (take_at head (front ++ y ∷ x) 10 ten, drop_at head (front ++ y ∷ x) 10 ten, is, walked s.version no_contents 0 (front ++ y ∷ x), goes, total) refl
