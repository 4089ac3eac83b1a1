-- Exchanges along a tree.
use Rattle.std.proofs.Common.{◌≡◌, ◌≢◌, ℕ, zero, suc, ◌+◌, ◌*◌, ◌<◌, Bool, true, false, cond, List, [], ◌∷◌, ◌++◌, length, length-append, sym, ap, refl, ◌∙◌, arith, ⊎_elim, eqb}
use Rattle.std.specs.Prelude.{◌||◌, ◌&&◌}
use Rattle.std.proofs.Math.Bool.{or-false}
use Rattle.std.proofs.lemmas.Bool.{false≢true, or_left, or_right, or_cases, eqb-true, eq-eqb, ne_eqb, cases_eq, and_parts}
use Rattle.agreement.specs.Rounds.{Exchange, Known, KnowAll, own, takes_part, have_met, after_one, after_all, count_known}
use Rattle.agreement.specs.Tree.{is_in, IsTree, outwards, in_and_out}
use Rattle.agreement.proofs.Doubling.{after_all-append, one_if}

-- ---- one exchange

-- both know what either knew
pub both_know : (K : Known) (e : Exchange) (n x : ℕ) → takes_part e n ≡ true → after_one K e n x ≡ (K e.one x || K e.other x)
both_know K e n x part = ap (λ b. cond b (K e.one x || K e.other x) (K n x)) part

-- nothing is forgotten
pub still_known : (K : Known) (e : Exchange) (n x : ℕ) → K n x ≡ true → after_one K e n x ≡ true
still_known K e n x has =
    elim (takes_part e n) as (λ b. takes_part e n ≡ b → cond b (K e.one x || K e.other x) (K n x) ≡ true) [
      | true ↦ λ part.
          ⊎_elim
          (λ f. or_left (K e.one x) (K e.other x) (ap (λ m. K m x) (sym (eqb-true n e.one f)) ∙ has))
          (λ f. or_right (K e.one x) (K e.other x) (ap (λ m. K m x) (sym (eqb-true n e.other f)) ∙ has))
          (or_cases (eqb n e.one) (eqb n e.other) part)
      | false ↦ λ part. has
    ] refl

other_part : (e : Exchange) (n : ℕ) → eqb n e.other ≡ true → takes_part e n ≡ true
other_part e n is = or_right (eqb n e.one) (eqb n e.other) is

one_part : (e : Exchange) → takes_part e e.one ≡ true
one_part e = or_left (eqb e.one e.one) (eqb e.one e.other) (eq-eqb e.one e.one refl)

-- the new node of an edge learns what the old one knows, and the others forget nothing
learns : (K : Known) (root : ℕ) (e : Exchange) (es : List Exchange) (n x : ℕ) → is_in root (e ∷ es) n ≡ true → K e.one x ≡ true → (is_in root es n ≡ true → K n x ≡ true) → after_one K e n x ≡ true
learns K root e es n x place one old =
    ⊎_elim
    (λ new. both_know K e n x (other_part e n new) ∙ or_left (K e.one x) (K e.other x) one)
    (λ there. still_known K e n x (old there))
    (or_cases (eqb n e.other) (is_in root es n) place)

-- ---- inwards and outwards

-- what a node of a bigger tree knew, a node of the smaller one knows after the outermost exchange
gathers : (K : Known) (root : ℕ) (e : Exchange) (es : List Exchange) (m x : ℕ) → is_in root es e.one ≡ true → is_in root (e ∷ es) m ≡ true → K m x ≡ true → (q : ℕ) × ((is_in root es q ≡ true) × (after_one K e q x ≡ true))
gathers K root e es m x one place has =
    ⊎_elim
    (λ new. (e.one, (one, both_know K e e.one x (one_part e) ∙ or_right (K e.one x) (K e.other x) (ap (λ q. K q x) (sym (eqb-true m e.other new)) ∙ has))))
    (λ old. (m, (old, still_known K e m x has)))
    (or_cases (eqb m e.other) (is_in root es m) place)

in_and_out-know : (root : ℕ) (es : List Exchange) → IsTree root es → (K : Known) (n m x : ℕ) → is_in root es n ≡ true → is_in root es m ≡ true → K m x ≡ true → after_all K (in_and_out es) n x ≡ true
in_and_out-know root [] tree K n m x a b has = ap (λ q. K q x) (eqb-true n root a ∙ sym (eqb-true m root b)) ∙ has
in_and_out-know root (e ∷ []) tree K n m x a b has =
    let from = gathers K root e [] m x tree.0 b has in
    let one : after_one K e e.one x ≡ true = ap (λ q. after_one K e q x) (eqb-true e.one root tree.0 ∙ sym (eqb-true from.0 root from.1.0)) ∙ from.1.1 in
    let either : (K e.one x || K e.other x) ≡ true = sym (both_know K e e.one x (one_part e)) ∙ one in
    ⊎_elim
    (λ new. both_know K e n x (other_part e n new) ∙ either)
    (λ old. ap (λ q. after_one K e q x) (eqb-true n root old ∙ sym (eqb-true e.one root tree.0)) ∙ one)
    (or_cases (eqb n e.other) (eqb n root) a)
in_and_out-know root (e ∷ f ∷ es) tree K n m x a b has =
    let from = gathers K root e (f ∷ es) m x tree.0 b has in
    let inner : (q : ℕ) → is_in root (f ∷ es) q ≡ true → after_all (after_one K e) (in_and_out (f ∷ es)) q x ≡ true =
    λ q there. in_and_out-know root (f ∷ es) tree.2 (after_one K e) q from.0 x there from.1.0 from.1.1 in
    ap (λ g. g n x) (after_all-append (after_one K e) (in_and_out (f ∷ es)) (e ∷ []))
    ∙ learns (after_all (after_one K e) (in_and_out (f ∷ es))) root e (f ∷ es) n x a (inner e.one tree.0) (inner n)

pub tree_agrees : (root : ℕ) (es : List Exchange) → IsTree root es → (n m : ℕ) → is_in root es n ≡ true → is_in root es m ≡ true → after_all own (in_and_out es) n m ≡ true
tree_agrees root es tree n m a b = in_and_out-know root es tree own n m m a b (eq-eqb m m refl)

pub outwards_know : (root : ℕ) (es : List Exchange) → IsTree root es → (K : Known) (n x : ℕ) → is_in root es n ≡ true → K root x ≡ true → after_all K (outwards es) n x ≡ true
outwards_know root [] tree K n x a has = ap (λ q. K q x) (eqb-true n root a) ∙ has
outwards_know root (e ∷ es) tree K n x a has =
    ap (λ g. g n x) (after_all-append K (outwards es) (e ∷ []))
    ∙ learns (after_all K (outwards es)) root e es n x a
    (outwards_know root es tree.2 K e.one x tree.0 has)
    (λ there. outwards_know root es tree.2 K n x there has)

-- ---- nodes that have met

kept_all : (K : Known) (es : List Exchange) (n x : ℕ) → K n x ≡ true → after_all K es n x ≡ true
kept_all K [] n x has = has
kept_all K (e ∷ es) n x has = kept_all (after_one K e) es n x (still_known K e n x has)

met_know : (K : Known) (es : List Exchange) (n m : ℕ) → K m m ≡ true → have_met es n m ≡ true → after_all K es n m ≡ true
met_know K [] n m has met = absurd (false≢true met)
met_know K (e ∷ es) n m has met =
    ⊎_elim
    (λ now.
    let parts : (takes_part e n ≡ true) × (takes_part e m ≡ true) = and_parts (takes_part e n) (takes_part e m) now in
    kept_all (after_one K e) es n m
    (both_know K e n m parts.0 ∙ sym (both_know K e m m parts.1) ∙ still_known K e m m has))
    (λ later. met_know (after_one K e) es n m (still_known K e m m has) later)
    (or_cases (takes_part e n && takes_part e m) (have_met es n m) met)

pub all_met : (many : ℕ) (es : List Exchange) → ((n m : ℕ) → n < many → m < many → n ≢ m → have_met es n m ≡ true) → KnowAll many (after_all own es)
all_met many es met n m less lower =
    ⊎_elim
    (λ (same : n ≡ m). kept_all own es n m (eq-eqb n m same))
    (λ apart. met_know own es n m (eq-eqb m m refl) (met n m less lower apart))
    (cases_eq n m)

-- ---- how many

pub count_same : (many : ℕ) (f g : ℕ → Bool) → ((m : ℕ) → m < many → f m ≡ g m) → count_known many f ≡ count_known many g
count_same zero f g same = refl
count_same (suc m) f g same = λ i. one_if (same m (omega arith) i) + count_same m f g (λ x lt. same x (omega (arith, lt))) i

-- one node more
pub count_more : (many x : ℕ) (f : ℕ → Bool) → x < many → f x ≡ false → count_known many (λ m. eqb m x || f m) ≡ count_known many f + 1
count_more zero x f lt fresh = absurd (omega (arith, lt))
count_more (suc m) x f lt fresh =
    ⊎_elim
    (λ (same : m ≡ x).
    let here : one_if (eqb m x || f m) ≡ 1 = ap (λ b. one_if (b || f m)) (eq-eqb m x same) in
    let none : one_if (f m) ≡ 0 = ap one_if (ap f same ∙ fresh) in
    let rest : count_known m (λ y. eqb y x || f y) ≡ count_known m f =
    count_same m (λ y. eqb y x || f y) f (λ y less. ap (λ b. b || f y) (ne_eqb y x (λ e. absurd (omega (arith, less, e, same))))) in
    omega (arith, here, none, rest))
    (λ ne.
    let here : one_if (eqb m x || f m) ≡ one_if (f m) = ap (λ b. one_if (b || f m)) (ne_eqb m x ne) in
    let rest : count_known m (λ y. eqb y x || f y) ≡ count_known m f + 1 = count_more m x f (omega (arith, lt, ne)) fresh in
    omega (arith, here, rest))
    (cases_eq m x)

pub count_none : (many : ℕ) → count_known many (λ m. false) ≡ 0
count_none zero = refl
count_none (suc m) = let rest : count_known m (λ x. false) ≡ 0 = count_none m in omega (arith, rest)

-- a tree has one node more than edges
pub count_tree : (root many : ℕ) (es : List Exchange) → IsTree root es → ((n : ℕ) → is_in root es n ≡ true → n < many) → count_known many (is_in root es) ≡ length es + 1
count_tree root many [] tree low =
    let none : count_known many (λ m. false) ≡ 0 = count_none many in
    let with_root : count_known many (λ m. eqb m root || false) ≡ count_known many (λ m. false) + 1 =
    count_more many root (λ m. false) (low root (eq-eqb root root refl)) refl in
    let same : count_known many (λ m. eqb m root || false) ≡ count_known many (is_in root []) =
    count_same many (λ m. eqb m root || false) (is_in root []) (λ m lt. or-false (eqb m root)) in
    omega (arith, none, with_root, same)
count_tree root many (e ∷ es) tree low =
    let rest : count_known many (is_in root es) ≡ length es + 1 =
    count_tree root many es tree.2 (λ n there. low n (or_right (eqb n e.other) (is_in root es n) there)) in
    let more : count_known many (λ m. eqb m e.other || is_in root es m) ≡ count_known many (is_in root es) + 1 =
    count_more many e.other (is_in root es) (low e.other (or_left (eqb e.other e.other) (is_in root es e.other) (eq-eqb e.other e.other refl))) tree.1 in
    omega (arith, rest, more)

in_and_out-length : (e : Exchange) (es : List Exchange) → length (in_and_out (e ∷ es)) + 1 ≡ 2 * length (e ∷ es)
in_and_out-length e [] = refl
in_and_out-length e (f ∷ es) =
    let rest : length (in_and_out (f ∷ es)) + 1 ≡ 2 * length (f ∷ es) = in_and_out-length f es in
    let parts : length (in_and_out (f ∷ es) ++ e ∷ []) ≡ length (in_and_out (f ∷ es)) + 1 = length-append (in_and_out (f ∷ es)) (e ∷ []) in
    omega (arith, rest, parts)

pub tree_number : (root many : ℕ) (e : Exchange) (es : List Exchange) → IsTree root (e ∷ es) → ((n : ℕ) → is_in root (e ∷ es) n ≡ true → n < many) → length (in_and_out (e ∷ es)) + 3 ≡ 2 * count_known many (is_in root (e ∷ es))
tree_number root many e es tree low =
    let nodes : count_known many (is_in root (e ∷ es)) ≡ length (e ∷ es) + 1 = count_tree root many (e ∷ es) tree low in
    let exchanges : length (in_and_out (e ∷ es)) + 1 ≡ 2 * length (e ∷ es) = in_and_out-length e es in
    omega (arith, nodes, exchanges)
