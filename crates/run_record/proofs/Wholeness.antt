-- What follows of whole journals: no other node has one, each names nodes that there are, and there
-- are at most sixteen.
use Rattle.std.proofs.Common.{◌≡◌, ◌<◌, ◌≤◌, ℕ, Bool, true, false, ◌||◌, cond, eqb, List, [], ◌∷◌, length, map, All, Some, refl, sym, ap, ◌∙◌, inl, inr, arith}
use Rattle.std.specs.List.{list_any}
use Rattle.std.proofs.lemmas.Bool.{ne_eqb}
use Rattle.std.proofs.lemmas.Bool.Decides.{eqb_tells}
use Rattle.std.proofs.lemmas.List.{length-map}
use Rattle.std.proofs.lemmas.List.Elements.{All-head, All-tail, All-nil}
use Rattle.std.proofs.lemmas.Map.Steps.{length-le_from_distinct_below}
use Rattle.node_journal.specs.Closed.{AreWhole, ClosedNode, IsWhole, NamesBelow, number_of}
use Rattle.node_journal.specs.declared.entry.Entry.{Entry}
use Rattle.run_record.specs.Journals.{HaveNodes, entry_at, journal_of}
use Rattle.run_record.proofs.Numbers.{all_at}

-- ---- no other node has a journal

none_from : (count n : ℕ) (closed : List ClosedNode) → count ≤ n
    → All (λ c. number_of c < count) closed → journal_of closed n ≡ []
none_from count n [] le within = refl
none_from count n (c ∷ cs) le within =
    let low : number_of c < count = All-head (λ x. number_of x < count) c cs within in
    let other : eqb (number_of c) n ≡ false = ne_eqb (number_of c) n (λ is. omega arith) in
    ap (λ b. cond b c.journal (journal_of cs n)) other
    ∙ none_from count n cs le (All-tail (λ x. number_of x < count) c cs within)

pub have_nodes : (closed : List ClosedNode) → AreWhole closed → HaveNodes closed
have_nodes closed whole n le = none_from (length closed) n closed le whole.within

-- ---- each journal names nodes that there are

either : (P : List Entry → Type 0) (b : Bool) (xs ys : List Entry) → P xs → P ys
    → P (cond b xs ys)
either P true xs ys x y = x
either P false xs ys x y = y

names_in : (count n : ℕ) (closed : List ClosedNode) → All (IsWhole count) closed
    → All (λ (e : Entry). NamesBelow count e.event) (journal_of closed n)
names_in count n [] whole = All-nil (λ (e : Entry). NamesBelow count e.event)
names_in count n (c ∷ cs) whole =
    either (λ es. All (λ (e : Entry). NamesBelow count e.event) es) (eqb (number_of c) n) c.journal
    (journal_of cs n) (All-head (IsWhole count) c cs whole).within
    (names_in count n cs (All-tail (IsWhole count) c cs whole))

pub names_below : (closed : List ClosedNode) (n p : ℕ) (e : Entry) → AreWhole closed
    → entry_at closed n p ≡ Some e → NamesBelow (length closed) e.event
names_below closed n p e whole there = all_at (λ (x : Entry). NamesBelow (length closed) x.event)
    (journal_of closed n) p e (names_in (length closed) n closed whole.whole) there

-- ---- there are at most sixteen

below_any : (count q : ℕ) (closed : List ClosedNode) → All (λ c. number_of c < count) closed
    → list_any (eqb q) (map number_of closed) ≡ true → q < count
below_any count q [] all is = absurd (cc)
below_any count q (c ∷ cs) all is = elim (eqb_tells q (number_of c)) [
  | inl same ↦
      let low : number_of c < count = All-head (λ x. number_of x < count) c cs all in
      omega (arith, same.1, low)
  | inr other ↦ below_any count q cs (All-tail (λ x. number_of x < count) c cs all)
      (sym (ap (λ b. b || list_any (eqb q) (map number_of cs)) other.0) ∙ is)
]

pub at_most : (closed : List ClosedNode) (count : ℕ) → AreWhole closed
    → All (λ c. number_of c < count) closed → length closed ≤ count
at_most closed count whole below =
    let few = length-le_from_distinct_below (map number_of closed) count whole.once
    (λ q any. below_any count q closed below any) in
    let same = length-map closed number_of in
    omega (arith, few, same)
