-- The writes of a history's first happenings, and how many of them are in a set.
use Rattle.std.proofs.Common.{◌≡◌, ℕ, ◌+◌, ◌<◌, ◌≤◌, Bool, true, false, cond, List, ◌∷◌, ◌++◌, length, take, get_or, sym, ap, refl, ◌∙◌, arith, eqb}
use Rattle.std.specs.Prelude.{◌&&◌, ◌||◌, filter}
use Rattle.std.specs.List.{list_any}
use Rattle.std.proofs.lemmas.Bool.{and_from, and_left, and_right}
use Rattle.past_model.specs.declared.happening.Happening.{Happening}
use Rattle.past_model.specs.declared.happening.Happening.TheVariants.{Wrote, Looked, Sent, Got, Kept, Restarted}
use Rattle.past_model.specs.Sets.{Places}
use Rattle.past_model.specs.Past.{Past, Write, happens, past, writer_of, writes}
use Rattle.past_model.specs.Shown.{count_in}
use Rattle.past_model.specs.Moment.{writes_of_happening, marked_places}
use Rattle.past_model.proofs.Walking.{take_next}
use Rattle.past_model.proofs.Told.{next_at}
use Rattle.past_model.proofs.Placed.{written}

pub writes_made : (s : Past) (h : Happening) → (happens s h).writes ≡ writes_of_happening s h ++ s.writes
writes_made s (Wrote n k v r) = refl
writes_made s (Looked n k) = refl
writes_made s (Sent n k) = refl
writes_made s (Got n i) = refl
writes_made s (Kept n k) = refl
writes_made s (Restarted n j) = refl

-- a happening's write stands before the writes of those before it
pub writes_next : (hs : List Happening) (i : ℕ) (h : Happening) → i < length hs → h ≡ get_or hs i h → writes (take (i + 1) hs) ≡ writes_of_happening (past (take i hs)) h ++ writes (take i hs)
writes_next hs i h lt is = ap (λ s. s.writes) (take_next hs i h lt is) ∙ writes_made (past (take i hs)) h

-- ---- how many writes of a writer a set has

one_counted : (b c : Bool) (x : Write) (xs : List Write) → length (cond (b && c) (x ∷ xs) xs) ≡ cond (c && (b || false)) (length xs + 1) (length xs)
one_counted true true x xs = omega arith
one_counted true false x xs = refl
one_counted false true x xs = refl
one_counted false false x xs = refl

none_counted : (b : Bool) (n : ℕ) → n ≡ cond (b && false) (n + 1) n
none_counted true n = refl
none_counted false n = refl

count_made : (s : Past) (h : Happening) (ws : List Write) (S : Places) (w : ℕ) → count_in (writes_of_happening s h ++ ws) S w ≡ cond (S s.next && list_any (λ x. eqb x.writer w) (writes_of_happening s h)) (count_in ws S w + 1) (count_in ws S w)
count_made s (Wrote n k v r) ws S w = one_counted (eqb (writer_of s n) w) (S s.next) (written s n k v r) (filter (λ x. eqb x.writer w && S x.place) ws)
count_made s (Looked n k) ws S w = none_counted (S s.next) (count_in ws S w)
count_made s (Sent n k) ws S w = none_counted (S s.next) (count_in ws S w)
count_made s (Got n i) ws S w = none_counted (S s.next) (count_in ws S w)
count_made s (Kept n k) ws S w = none_counted (S s.next) (count_in ws S w)
count_made s (Restarted n j) ws S w = none_counted (S s.next) (count_in ws S w)

-- so many of the first happenings are counted
pub record Counts (hs : List Happening) (marks : List Bool) (w i count : ℕ) : Type 0 where
  pub few : count ≤ i
  pub counted : count ≡ count_in (writes (take i hs)) (marked_places marks) w

-- whether the happening is a write of the writer
abbrev pub is_by : ℕ → Past → Happening → Bool
is_by w s h = list_any (λ x. eqb x.writer w) (writes_of_happening s h)

count_next : (hs : List Happening) (marks : List Bool) (w i count : ℕ) (h : Happening) → i < length hs → h ≡ get_or hs i h → Counts hs marks w i count → count_in (writes (take (i + 1) hs)) (marked_places marks) w ≡ cond (marked_places marks i && is_by w (past (take i hs)) h) (count + 1) count
count_next hs marks w i count h lt is c =
    let s : Past = past (take i hs) in
    ap (λ ws. count_in ws (marked_places marks) w) (writes_next hs i h lt is)
    ∙ count_made s h (writes (take i hs)) (marked_places marks) w
    ∙ ap (λ p. cond (marked_places marks p && is_by w s h) (count_in (writes (take i hs)) (marked_places marks) w + 1) (count_in (writes (take i hs)) (marked_places marks) w)) (next_at hs i (omega arith))
    ∙ ap (λ n. cond (marked_places marks i && is_by w s h) (n + 1) n) (sym c.counted)

pub Counts-one : (hs : List Happening) (marks : List Bool) (w i count : ℕ) (h : Happening) → i < length hs → h ≡ get_or hs i h → marked_places marks i ≡ true → is_by w (past (take i hs)) h ≡ true → Counts hs marks w i count → Counts hs marks w (i + 1) (count + 1)
Counts-one hs marks w i count h lt is mark by c =
    record {
      few = let few : count ≤ i = c.few in omega arith;
      counted = sym (count_next hs marks w i count h lt is c ∙ ap (λ t. cond t (count + 1) count) (and_from (marked_places marks i) (is_by w (past (take i hs)) h) mark by));
    }

pub Counts-unmarked : (hs : List Happening) (marks : List Bool) (w i count : ℕ) (h : Happening) → i < length hs → h ≡ get_or hs i h → marked_places marks i ≡ false → Counts hs marks w i count → Counts hs marks w (i + 1) count
Counts-unmarked hs marks w i count h lt is mark c =
    record {
      few = let few : count ≤ i = c.few in omega arith;
      counted = sym (count_next hs marks w i count h lt is c ∙ ap (λ t. cond t (count + 1) count) (and_left (marked_places marks i) (is_by w (past (take i hs)) h) mark));
    }

pub Counts-other : (hs : List Happening) (marks : List Bool) (w i count : ℕ) (h : Happening) → i < length hs → h ≡ get_or hs i h → is_by w (past (take i hs)) h ≡ false → Counts hs marks w i count → Counts hs marks w (i + 1) count
Counts-other hs marks w i count h lt is by c =
    record {
      few = let few : count ≤ i = c.few in omega arith;
      counted = sym (count_next hs marks w i count h lt is c ∙ ap (λ t. cond t (count + 1) count) (and_right (marked_places marks i) (is_by w (past (take i hs)) h) by));
    }
