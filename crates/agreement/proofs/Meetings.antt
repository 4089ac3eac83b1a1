-- Exchanges as happenings: what the nodes know after them.
use Rattle.std.proofs.Common.{◌≡◌, ◌≢◌, ◌↔◌, ℕ, suc, ◌+◌, ◌<◌, Bool, true, false, cond, List, [], ◌∷◌, ◌++◌, length, length-append, append-nil, append_assoc, sym, ap, refl, subst, ◌∙◌, arith, ⊎_elim, Some, eqb}
use Rattle.std.specs.Prelude.{◌||◌, slice_get}
use Rattle.std.proofs.Math.Bool.{or-false}
use Rattle.std.proofs.lemmas.Bool.{false_from_ne_true, or_left, or_right, or_cases, eqb-true, eq-eqb}
use Rattle.meta_types.specs.Name.{Key}
use Rattle.meta_types.specs.Equal.{key_eq}
use Rattle.past_model.specs.declared.happening.Happening.{Happening}
use Rattle.past_model.specs.declared.happening.Happening.TheVariants.{Sent, Got}
use Rattle.past_model.specs.Sets.{Places, Knowledge, knows_nothing, with_set, union_by_key, set_at}
use Rattle.past_model.specs.Past.{Past, start, run, past, known, writes}
use Rattle.past_model.specs.History.{IsHistory}
use Rattle.past_model.proofs.Histories.{history_snoc}
use Rattle.past_model.proofs.Keys.{key_eq-true}
use Rattle.past_model.proofs.Sound.{set_at-here, with_set-at}
use Rattle.past_model.proofs.Staying.{run_append, past-next}
use Rattle.past_model.proofs.Walking.{set_at-other}
use Rattle.agreement.specs.Rounds.{Exchange, Known, KnowAll, own, takes_part, after_one, after_all}
use Rattle.agreement.specs.Meeting.{meeting, meetings}
use Rattle.dvvset.specs.Object.{Entry}
use Rattle.past_model.specs.Arisen.{IsObjectKnown}
use Rattle.past_model.specs.Shown.{IsObjectOf}
use Rattle.past_model.proofs.Entries.{one_object}
use Rattle.agreement.specs.Tree.{IsTree, is_in, outwards}
use Rattle.agreement.proofs.Along.{outwards_know}

-- ---- one exchange

-- what a node that got w knows at p
gets : (f : ℕ → Knowledge) (m : ℕ) (w : Knowledge) (n : ℕ) (l : Key) (p : ℕ) → set_at f m (union_by_key (f m) w) n l p ≡ cond (eqb n m) (f m l p || w l p) (f n l p)
gets f m w n l p = elim (eqb n m) as (λ b. cond b (union_by_key (f m) w) (f n) l p ≡ cond b (f m l p || w l p) (f n l p)) [ true ↦ refl | false ↦ refl ]

-- the two objects that are sent
abbrev pub load_of : Past → ℕ → Key → Knowledge
load_of s n k = with_set knows_nothing k (s.known n k)

abbrev pub loads : Past → Key → Exchange → ℕ → Knowledge
loads s k e = set_at (set_at s.load s.next (load_of s e.one k)) (s.next + 1) (load_of s e.other k)

first_load : (s : Past) (k : Key) (e : Exchange) → loads s k e s.next ≡ load_of s e.one k
first_load s k e =
    set_at-other (set_at s.load s.next (load_of s e.one k)) (s.next + 1) s.next (load_of s e.other k) (λ o. absurd (omega (arith, o)))
    ∙ set_at-here s.load s.next (load_of s e.one k)

second_load : (s : Past) (k : Key) (e : Exchange) → loads s k e (s.next + 1) ≡ load_of s e.other k
second_load s k e = set_at-here (set_at s.load s.next (load_of s e.one k)) (s.next + 1) (load_of s e.other k)

-- what the nodes know once the first of the two, and then the second, got its object
abbrev pub half : Past → Exchange → Knowledge → ℕ → Knowledge
half s e y = set_at s.known e.one (union_by_key (s.known e.one) y)

abbrev pub whole : Past → Exchange → Knowledge → Knowledge → ℕ → Knowledge
whole s e x y = set_at (half s e y) e.other (union_by_key (half s e y e.other) x)

met : (s : Past) (k : Key) (e : Exchange) → (run s (meeting k s.next e)).known ≡ whole s e (load_of s e.one k) (load_of s e.other k)
met s k e = λ i. whole s e (first_load s k e i) (second_load s k e i)

either_first : (u w v a b c : Bool) → cond u (cond w (a || b) b || a) (cond v (a || b) c) ≡ cond (v || u) (a || b) c
either_first true true true true b c = refl
either_first true true true false b c = or-false b
either_first true true false true b c = refl
either_first true true false false b c = or-false b
either_first true false true true true c = refl
either_first true false true true false c = refl
either_first true false true false b c = or-false b
either_first true false false true true c = refl
either_first true false false true false c = refl
either_first true false false false b c = or-false b
either_first false w true a b c = refl
either_first false w false a b c = refl

met_under : (s : Past) (k : Key) (e : Exchange) (n p : ℕ) → (run s (meeting k s.next e)).known n k p ≡ cond (takes_part e n) (s.known e.one k p || s.known e.other k p) (s.known n k p)
met_under s k e n p =
    let x : Knowledge = load_of s e.one k in
    let y : Knowledge = load_of s e.other k in
    let part : (m : ℕ) → half s e (load_of s e.other k) m k p ≡ cond (eqb m e.one) (s.known e.one k p || s.known e.other k p) (s.known m k p) =
    λ m. gets s.known e.one (load_of s e.other k) m k p
    ∙ ap (λ S. cond (eqb m e.one) (s.known e.one k p || S p) (s.known m k p)) (with_set-at knows_nothing k (s.known e.other k)) in
    ap (λ f. f n k p) (met s k e)
    ∙ gets (half s e (load_of s e.other k)) e.other (load_of s e.one k) n k p
    ∙ (λ i. cond (eqb n e.other) (part e.other i || with_set-at knows_nothing k (s.known e.one k) i p) (part n i))
    ∙ either_first (eqb n e.other) (eqb e.other e.one) (eqb n e.one) (s.known e.one k p) (s.known e.other k p) (s.known n k p)

-- under another key nothing is sent
unsent : (k l : Key) (S : Places) (p : ℕ) → l ≢ k → with_set knows_nothing k S l p ≡ false
unsent k l S p ne = ap (λ b. cond b S (knows_nothing l) p) (false_from_ne_true (key_eq l k) (λ e. ne (key_eq-true l k e)))

gets_none : (f : ℕ → Knowledge) (m : ℕ) (k l : Key) (S : Places) (n p : ℕ) → l ≢ k → set_at f m (union_by_key (f m) (with_set knows_nothing k S)) n l p ≡ f n l p
gets_none f m k l S n p ne =
    gets f m (with_set knows_nothing k S) n l p
    ∙ elim (eqb n m) as (λ b. eqb n m ≡ b → cond b (f m l p || with_set knows_nothing k S l p) (f n l p) ≡ f n l p) [
      | true ↦ λ e. ap (λ b. f m l p || b) (unsent k l S p ne) ∙ or-false (f m l p) ∙ ap (λ x. f x l p) (sym (eqb-true n m e))
      | false ↦ λ e. refl
    ] refl

met_other : (s : Past) (k l : Key) (e : Exchange) (n : ℕ) → l ≢ k → (run s (meeting k s.next e)).known n l ≡ s.known n l
met_other s k l e n ne =
    λ i p. (ap (λ f. f n l p) (met s k e)
    ∙ gets_none (half s e (load_of s e.other k)) e.other k l (s.known e.one k) n p ne
    ∙ gets_none s.known e.one k l (s.known e.other k) n p ne) i

-- ---- what spreads

-- what a node has is what those had at first of which it knows
pub record Spread (base : ℕ → ℕ → Bool) (K : Known) (now : ℕ → ℕ → Bool) : Type 0 where
  pub from : (n p : ℕ) → now n p ≡ true → (m : ℕ) × ((K n m ≡ true) × (base m p ≡ true))
  pub has : (n m p : ℕ) → K n m ≡ true → base m p ≡ true → now n p ≡ true

pub Spread-own : (base : ℕ → ℕ → Bool) → Spread base own base
Spread-own base = record {
  from = λ n p has. (n, (eq-eqb n n refl, has));
  has = λ n m p same had. ap (λ x. base x p) (eqb-true n m same) ∙ had;
}

pub Spread-one : (base : ℕ → ℕ → Bool) (K : Known) (e : Exchange) (now next : ℕ → ℕ → Bool) → Spread base K now → ((n p : ℕ) → next n p ≡ cond (takes_part e n) (now e.one p || now e.other p) (now n p)) → Spread base (after_one K e) next
Spread-one base K e now next spread step = record {
  from = λ n p is.
      (elim (takes_part e n) as (λ b. cond b (now e.one p || now e.other p) (now n p) ≡ true → (m : ℕ) × ((cond b (K e.one m || K e.other m) (K n m) ≡ true) × (base m p ≡ true))) [
        | true ↦ λ either.
            ⊎_elim
            (λ one. let found = spread.from e.one p one in (found.0, (or_left (K e.one found.0) (K e.other found.0) found.1.0, found.1.1)))
            (λ other. let found = spread.from e.other p other in (found.0, (or_right (K e.one found.0) (K e.other found.0) found.1.0, found.1.1)))
            (or_cases (now e.one p) (now e.other p) either)
        | false ↦ λ same. spread.from n p same
      ]) (sym (step n p) ∙ is);
  has = λ n m p knows had.
      step n p
      ∙ (elim (takes_part e n) as (λ b. cond b (K e.one m || K e.other m) (K n m) ≡ true → cond b (now e.one p || now e.other p) (now n p) ≡ true) [
        | true ↦ λ either.
            ⊎_elim
            (λ one. or_left (now e.one p) (now e.other p) (spread.has e.one m p one had))
            (λ other. or_right (now e.one p) (now e.other p) (spread.has e.other m p other had))
            (or_cases (K e.one m) (K e.other m) either)
        | false ↦ λ same. spread.has n m p same had
      ]) knows;
}

-- ---- exchanges, one after the other

spread_meetings : (base : ℕ → ℕ → Bool) (k : Key) (s : Past) (K : Known) (es : List Exchange) (place : ℕ) → s.next ≡ place → Spread base K (λ n p. s.known n k p) → Spread base (after_all K es) (λ n p. (run s (meetings k place es)).known n k p)
spread_meetings base k s K [] place at spread = spread
spread_meetings base k s K (e ∷ es) place at spread =
    let t : Past = run s (meeting k place e) in
    let one : Spread base (after_one K e) (λ n p. (run s (meeting k place e)).known n k p) =
    subst (λ q. Spread base (after_one K e) (λ n p. (run s (meeting k q e)).known n k p)) at
    (Spread-one base K e (λ n p. s.known n k p) (λ n p. (run s (meeting k s.next e)).known n k p) spread (met_under s k e)) in
    subst (λ u. Spread base (after_all (after_one K e) es) (λ n p. u.known n k p)) (sym (run_append s (meeting k place e) (meetings k (place + 4) es)))
    (spread_meetings base k (run s (meeting k place e)) (after_one K e) es (place + 4) (omega (arith, at)) one)

other_meetings : (k l : Key) (s : Past) (es : List Exchange) (place n : ℕ) → l ≢ k → s.next ≡ place → (run s (meetings k place es)).known n l ≡ s.known n l
other_meetings k l s [] place n ne at = refl
other_meetings k l s (e ∷ es) place n ne at =
    ap (λ u. u.known n l) (run_append s (meeting k place e) (meetings k (place + 4) es))
    ∙ other_meetings k l (run s (meeting k place e)) es (place + 4) n ne (omega (arith, at))
    ∙ subst (λ q. (run s (meeting k q e)).known n l ≡ s.known n l) at (met_other s k l e n ne)

-- ---- in a history

pub spread_known : (hs : List Happening) (k : Key) (es : List Exchange) → Spread (λ m p. known hs m k p) (after_all own es) (λ n p. known (hs ++ meetings k (length hs) es) n k p)
spread_known hs k es =
    subst (λ u. Spread (λ m p. known hs m k p) (after_all own es) (λ n p. u.known n k p)) (sym (run_append start hs (meetings k (length hs) es)))
    (spread_meetings (λ m p. known hs m k p) k (past hs) own es (length hs) (past-next hs) (Spread-own (λ m p. known hs m k p)))

pub known_after : (hs : List Happening) (k : Key) (es : List Exchange) (n p : ℕ) → (known (hs ++ meetings k (length hs) es) n k p ≡ true) ↔ ((m : ℕ) × ((after_all own es n m ≡ true) × (known hs m k p ≡ true)))
known_after hs k es n p = (
  (λ is. (spread_known hs k es).from n p is),
  (λ found. (spread_known hs k es).has n found.0 p found.1.0 found.1.1),
)

pub others_stay : (hs : List Happening) (k l : Key) (es : List Exchange) (n : ℕ) → l ≢ k → known (hs ++ meetings k (length hs) es) n l ≡ known hs n l
others_stay hs k l es n ne =
    ap (λ u. u.known n l) (run_append start hs (meetings k (length hs) es))
    ∙ other_meetings k l (past hs) es (length hs) n ne (past-next hs)

pub same_bool : (a b : Bool) → (a ≡ true → b ≡ true) → (b ≡ true → a ≡ true) → a ≡ b
same_bool true b to back = sym (to refl)
same_bool false true to back = back refl
same_bool false false to back = refl

pub all_agree : (hs : List Happening) (k : Key) (many : ℕ) (es : List Exchange) → KnowAll many (after_all own es) → ((m p : ℕ) → known hs m k p ≡ true → m < many) → (n m : ℕ) → n < many → m < many → known (hs ++ meetings k (length hs) es) n k ≡ known (hs ++ meetings k (length hs) es) m k
all_agree hs k many es all low n m less lower =
    let spread = spread_known hs k es in
    let to : (x y p : ℕ) → y < many → known (hs ++ meetings k (length hs) es) x k p ≡ true → known (hs ++ meetings k (length hs) es) y k p ≡ true =
    λ x y p small is.
    let found = spread.from x p is in
    spread.has y found.0 p (all y found.0 small (low found.0 p found.1.1)) found.1.1 in
    λ i p. same_bool (known (hs ++ meetings k (length hs) es) n k p) (known (hs ++ meetings k (length hs) es) m k p) (to n m p lower) (to m n p less) i

-- and hold equal objects
pub objects_agree : (hs : List Happening) (k : Key) (many : ℕ) (es : List Exchange) → KnowAll many (after_all own es) → ((m p : ℕ) → known hs m k p ≡ true → m < many) → (n m : ℕ) → n < many → m < many → (a b : List Entry) → IsObjectKnown (hs ++ meetings k (length hs) es) n k a → IsObjectKnown (hs ++ meetings k (length hs) es) m k b → a ≡ b
objects_agree hs k many es all low n m less lower a b one other =
    one_object (writes (hs ++ meetings k (length hs) es)) k (known (hs ++ meetings k (length hs) es) m k) a b
    (subst (λ S. IsObjectOf (writes (hs ++ meetings k (length hs) es)) k S a) (all_agree hs k many es all low n m less lower) one)
    other

-- exchanges outwards tell all what the root knew
pub repaired : (root : ℕ) (edges : List Exchange) → IsTree root edges → (hs : List Happening) (k : Key) (n p : ℕ) → is_in root edges n ≡ true → known hs root k p ≡ true → known (hs ++ meetings k (length hs) (outwards edges)) n k p ≡ true
repaired root edges tree hs k n p place has =
    (spread_known hs k (outwards edges)).has n root p (outwards_know root edges tree own n root place (eq-eqb root root refl)) has

-- ---- it is a history

first_at : (hs rest : List Happening) (a : Happening) → slice_get (hs ++ a ∷ rest) (length hs) ≡ Some a
first_at [] rest a = refl
first_at (x ∷ xs) rest a = first_at xs rest a

second_at : (hs rest : List Happening) (a b : Happening) → slice_get (hs ++ a ∷ b ∷ rest) (suc (length hs)) ≡ Some b
second_at [] rest a b = refl
second_at (x ∷ xs) rest a b = second_at xs rest a b

one_history : (hs : List Happening) (k : Key) (e : Exchange) → IsHistory hs → IsHistory (hs ++ meeting k (length hs) e)
one_history hs k e history =
    let a : Happening = Sent e.one k in
    let b : Happening = Sent e.other k in
    let place : suc (length hs) ≡ length hs + 1 = omega arith in
    let one : IsHistory (hs ++ Sent e.one k ∷ []) = history_snoc hs (Sent e.one k) history tt in
    let two : IsHistory (hs ++ Sent e.one k ∷ Sent e.other k ∷ []) =
    subst IsHistory (append_assoc hs (Sent e.one k ∷ []) (Sent e.other k ∷ []))
    (history_snoc (hs ++ Sent e.one k ∷ []) (Sent e.other k) one tt) in
    let named : slice_get (hs ++ Sent e.one k ∷ Sent e.other k ∷ []) (length hs + 1) ≡ Some (Sent e.other k) =
    ap (λ q. slice_get (hs ++ Sent e.one k ∷ Sent e.other k ∷ []) q) (sym place) ∙ second_at hs [] (Sent e.one k) (Sent e.other k) in
    let three : IsHistory (hs ++ Sent e.one k ∷ Sent e.other k ∷ Got e.one (length hs + 1) ∷ []) =
    subst IsHistory (append_assoc hs (Sent e.one k ∷ Sent e.other k ∷ []) (Got e.one (length hs + 1) ∷ []))
    (history_snoc (hs ++ Sent e.one k ∷ Sent e.other k ∷ []) (Got e.one (length hs + 1)) two (e.other, (k, named))) in
    subst IsHistory (append_assoc hs (Sent e.one k ∷ Sent e.other k ∷ Got e.one (length hs + 1) ∷ []) (Got e.other (length hs) ∷ []))
    (history_snoc (hs ++ Sent e.one k ∷ Sent e.other k ∷ Got e.one (length hs + 1) ∷ []) (Got e.other (length hs)) three
    (e.one, (k, first_at hs (Sent e.other k ∷ Got e.one (length hs + 1) ∷ []) (Sent e.one k))))

pub meetings_history : (hs : List Happening) → IsHistory hs → (k : Key) (es : List Exchange) → IsHistory (hs ++ meetings k (length hs) es)
meetings_history hs history k [] = subst IsHistory (sym (append-nil hs)) history
meetings_history hs history k (e ∷ es) =
    let more : length (hs ++ meeting k (length hs) e) ≡ length hs + 4 = length-append hs (meeting k (length hs) e) in
    subst IsHistory
    (append_assoc hs (meeting k (length hs) e) (meetings k (length (hs ++ meeting k (length hs) e)) es)
    ∙ ap (λ q. hs ++ (meeting k (length hs) e ++ meetings k q es)) more)
    (meetings_history (hs ++ meeting k (length hs) e) (one_history hs k e history) k es)
