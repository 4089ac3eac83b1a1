-- What nodes of a tree know once each has passed on what it knows, from the root to the leaves; and a tree over another of its nodes.
use Rattle.std.proofs.Common.{◌≡◌, ◌≢◌, ℕ, Bool, true, false, cond, List, [], ◌∷◌, ◌++◌, sym, ap, subst, refl, ◌∙◌, ⊎_elim, eqb}
use Rattle.std.specs.Prelude.{◌||◌, ◌&&◌}
use Rattle.std.proofs.lemmas.Bool.{false≢true, or_cases, or_from, or_left, or_parts, or_right, and_parts, eqb-true, eq-eqb, ne_eqb}
use Rattle.std.proofs.lemmas.List.Folds.{list_any-append}
use Rattle.agreement.specs.Rounds.{Exchange, Known}
use Rattle.agreement.specs.Tree.{IsSameTree, IsTree, after_passing_one, after_passing_all, are_joined, has_edge, is_in, outwards}
use Rattle.agreement.proofs.Frontier.{edge_from, edge_in, edge_to, root_in}

-- ---- what is passed on

after_passing_all-append : (K : Known) (xs ys : List Exchange) → after_passing_all K (xs ++ ys) ≡ after_passing_all (after_passing_all K xs) ys
after_passing_all-append K [] ys = refl
after_passing_all-append K (x ∷ xs) ys = after_passing_all-append (after_passing_one K x) xs ys

-- what a node knows after the last edge
at_last : (K : Known) (e : Exchange) (es : List Exchange) (n p : ℕ) → after_passing_all K (outwards (e ∷ es)) n p ≡ after_passing_one (after_passing_all K (outwards es)) e n p
at_last K e es n p = ap (λ f. f n p) (after_passing_all-append K (outwards es) (e ∷ []))

-- another node
others_stay : (K : Known) (e : Exchange) (es : List Exchange) (n p : ℕ) → n ≢ e.other → after_passing_all K (outwards (e ∷ es)) n p ≡ after_passing_all K (outwards es) n p
others_stay K e es n p apart =
    at_last K e es n p
    ∙ ap (λ b. cond b (after_passing_all K (outwards es) e.one p || after_passing_all K (outwards es) n p) (after_passing_all K (outwards es) n p)) (ne_eqb n e.other apart)

-- to who is no node of the tree nothing is passed on
pub not_reached : (K : Known) (root : ℕ) (es : List Exchange) (n p : ℕ) → is_in root es n ≡ false → after_passing_all K (outwards es) n p ≡ K n p
not_reached K root [] n p out = refl
not_reached K root (e ∷ es) n p out =
    let parts = or_parts (eqb n e.other) (is_in root es n) out in
    others_stay K e es n p (λ same. false≢true (sym parts.0 ∙ eq-eqb n e.other same)) ∙ not_reached K root es n p parts.1

-- a node of the smaller tree is not the new one
not_new : (root : ℕ) (e : Exchange) (es : List Exchange) → IsTree root (e ∷ es) → (n : ℕ) → is_in root es n ≡ true → n ≢ e.other
not_new root e es tree n place same = false≢true (sym tree.1 ∙ ap (is_in root es) (sym same) ∙ place)

-- the root learns nothing
pub root_stays : (K : Known) (root : ℕ) (es : List Exchange) → IsTree root es → (p : ℕ) → after_passing_all K (outwards es) root p ≡ K root p
root_stays K root [] tree p = refl
root_stays K root (e ∷ es) tree p =
    others_stay K e es root p (not_new root e es tree root (root_in root es)) ∙ root_stays K root es tree.2 p

-- a node of the tree knows what it knew, and what the one knows from which an edge leads to it
pub along_edge : (K : Known) (root : ℕ) (es : List Exchange) → IsTree root es → (a b p : ℕ) → has_edge es a b ≡ true
    → after_passing_all K (outwards es) b p ≡ (after_passing_all K (outwards es) a p || K b p)
along_edge K root [] tree a b p edge = absurd (false≢true edge)
along_edge K root (e ∷ es) tree a b p edge =
    let F : Known = after_passing_all K (outwards es) in
    ⊎_elim
    (λ here.
    let parts = and_parts (eqb a e.one) (eqb b e.other) here in
    let one : a ≡ e.one = eqb-true a e.one parts.0 in
    let other : b ≡ e.other = eqb-true b e.other parts.1 in
    let from : is_in root es a ≡ true = ap (is_in root es) one ∙ tree.0 in
    at_last K e es b p
    ∙ ap (λ t. cond t (after_passing_all K (outwards es) e.one p || after_passing_all K (outwards es) b p) (after_passing_all K (outwards es) b p)) parts.1
    ∙ ap (λ x. after_passing_all K (outwards es) x p || after_passing_all K (outwards es) b p) (sym one)
    ∙ ap (λ x. after_passing_all K (outwards es) a p || x) (not_reached K root es b p (ap (is_in root es) other ∙ tree.1))
    ∙ ap (λ x. x || K b p) (sym (others_stay K e es a p (not_new root e es tree a from))))
    (λ there.
    others_stay K e es b p (not_new root e es tree b (edge_in root es a b there))
    ∙ along_edge K root es tree.2 a b p there
    ∙ ap (λ x. x || K b p) (sym (others_stay K e es a p (not_new root e es tree a (edge_from root es tree.2 a b there)))))
    (or_cases (eqb a e.one && eqb b e.other) (has_edge es a b) edge)

-- all know what the root knew
pub all_reached : (K : Known) (root : ℕ) (es : List Exchange) → IsTree root es → (n p : ℕ) → is_in root es n ≡ true → K root p ≡ true → after_passing_all K (outwards es) n p ≡ true
all_reached K root [] tree n p place knew = ap (λ m. K m p) (eqb-true n root place) ∙ knew
all_reached K root (e ∷ es) tree n p place knew =
    let one : after_passing_all K (outwards es) e.one p ≡ true = all_reached K root es tree.2 e.one p tree.0 knew in
    at_last K e es n p
    ∙ elim (eqb n e.other) as (λ b. eqb n e.other ≡ b → cond b (after_passing_all K (outwards es) e.one p || after_passing_all K (outwards es) n p) (after_passing_all K (outwards es) n p) ≡ true) [
      | true ↦ λ new. or_left (after_passing_all K (outwards es) e.one p) (after_passing_all K (outwards es) n p) one
      | false ↦ λ old. all_reached K root es tree.2 n p (⊎_elim (λ new. absurd (false≢true (sym old ∙ new))) (λ there. there) (or_cases (eqb n e.other) (is_in root es n) place)) knew
    ] refl

-- and nothing that the root didn't know, if no node of the tree knew more
pub no_more_passed_on : (K : Known) (root : ℕ) (es : List Exchange) → IsTree root es → (p : ℕ) → ((m : ℕ) → is_in root es m ≡ true → K m p ≡ true → K root p ≡ true)
    → (n : ℕ) → is_in root es n ≡ true → after_passing_all K (outwards es) n p ≡ true → K root p ≡ true
no_more_passed_on K root [] tree p less n place knows = less n place knows
no_more_passed_on K root (e ∷ es) tree p less n place knows =
    let inner : (m : ℕ) → is_in root es m ≡ true → after_passing_all K (outwards es) m p ≡ true → K root p ≡ true =
    no_more_passed_on K root es tree.2 p (λ m there. less m (or_right (eqb m e.other) (is_in root es m) there)) in
    (elim (eqb n e.other) as (λ b. eqb n e.other ≡ b → cond b (after_passing_all K (outwards es) e.one p || after_passing_all K (outwards es) n p) (after_passing_all K (outwards es) n p) ≡ true → K root p ≡ true) [
      | true ↦ λ new either.
          ⊎_elim
          (λ one. inner e.one tree.0 one)
          (λ own. less n place (sym (not_reached K root es n p (ap (is_in root es) (eqb-true n e.other new) ∙ tree.1)) ∙ own))
          (or_cases (after_passing_all K (outwards es) e.one p) (after_passing_all K (outwards es) n p) either)
      | false ↦ λ old same. inner n (⊎_elim (λ new. absurd (false≢true (sym old ∙ new))) (λ there. there) (or_cases (eqb n e.other) (is_in root es n) place)) same
    ]) refl (sym (at_last K e es n p) ∙ knows)

-- ---- a tree over another of its nodes

regroup : (p a q b : Bool) → ((p || a) || (q || b)) ≡ ((p || q) || (a || b))
regroup true a q b = refl
regroup false true true b = refl
regroup false true false b = refl
regroup false false q b = refl

turned : (a p b q : Bool) → ((a || (p || false)) || (b || (q || false))) ≡ ((q || p) || (a || b))
turned true true true true = refl
turned true true true false = refl
turned true true false true = refl
turned true true false false = refl
turned true false true true = refl
turned true false true false = refl
turned true false false true = refl
turned true false false false = refl
turned false true true true = refl
turned false true true false = refl
turned false true false true = refl
turned false true false false = refl
turned false false true true = refl
turned false false true false = refl
turned false false false true = refl
turned false false false false = refl

pub or-swap : (a b : Bool) → (a || b) ≡ (b || a)
or-swap true true = refl
or-swap true false = refl
or-swap false true = refl
or-swap false false = refl

and-swap : (a b : Bool) → (a && b) ≡ (b && a)
and-swap true true = refl
and-swap true false = refl
and-swap false true = refl
and-swap false false = refl

pub or-assoc : (a b c : Bool) → ((a || b) || c) ≡ (a || (b || c))
or-assoc true b c = refl
or-assoc false b c = refl

-- a tree hangs on a new root
hung_nodes : (root x : ℕ) (es : List Exchange) (n : ℕ) → is_in x (es ++ edge_to x root ∷ []) n ≡ (is_in root es n || eqb n x)
hung_nodes root x [] n = refl
hung_nodes root x (e ∷ es) n = ap (λ b. eqb n e.other || b) (hung_nodes root x es n) ∙ sym (or-assoc (eqb n e.other) (is_in root es n) (eqb n x))

hung : (root x : ℕ) (es : List Exchange) → IsTree root es → is_in root es x ≡ false → IsTree x (es ++ edge_to x root ∷ [])
hung root x [] tree out = (eq-eqb x x refl, ne_eqb root x (λ same. false≢true (sym out ∙ eq-eqb x root (sym same))), tt)
hung root x (e ∷ es) tree out =
    let parts = or_parts (eqb x e.other) (is_in root es x) out in (
      hung_nodes root x es e.one ∙ or_left (is_in root es e.one) (eqb e.one x) tree.0,
      hung_nodes root x es e.other ∙ or_from (is_in root es e.other) (eqb e.other x) tree.1 (ne_eqb e.other x (λ same. false≢true (sym parts.0 ∙ eq-eqb x e.other (sym same)))),
      hung root x es tree.2 parts.1,
    )

-- the edges that join two nodes, with one more
one_more : (es os : List Exchange) (e : Exchange) (n m : ℕ) → are_joined os n m ≡ are_joined es n m → are_joined (e ∷ os) n m ≡ are_joined (e ∷ es) n m
one_more es os e n m same =
    let p : Bool = eqb n e.one && eqb m e.other in
    let q : Bool = eqb m e.one && eqb n e.other in
    regroup p (has_edge os n m) q (has_edge os m n) ∙ ap (λ b. (p || q) || b) same ∙ sym (regroup p (has_edge es n m) q (has_edge es m n))

-- with one more that is turned round
one_turned : (es os : List Exchange) (e : Exchange) (n m : ℕ) → are_joined os n m ≡ are_joined es n m
    → are_joined (os ++ edge_to e.other e.one ∷ []) n m ≡ are_joined (e ∷ es) n m
one_turned es os e n m same =
    let p : Bool = eqb n e.one && eqb m e.other in
    let q : Bool = eqb m e.one && eqb n e.other in
    let back : (x y : ℕ) → has_edge (os ++ edge_to e.other e.one ∷ []) x y ≡ (has_edge os x y || ((eqb y e.one && eqb x e.other) || false)) =
    λ x y. list_any-append (λ (d : Exchange). eqb x d.one && eqb y d.other) os (edge_to e.other e.one ∷ [])
    ∙ ap (λ b. has_edge os x y || (b || false)) (and-swap (eqb x e.other) (eqb y e.one)) in
    (λ i. back n m i || back m n i)
    ∙ turned (has_edge os n m) q (has_edge os m n) p
    ∙ ap (λ b. (p || q) || b) same
    ∙ sym (regroup p (has_edge es n m) q (has_edge es m n))

pub over_another : (root : ℕ) (es : List Exchange) → IsTree root es → (x : ℕ) → is_in root es x ≡ true → (os : List Exchange) × IsSameTree root es x os
over_another root [] tree x place = (
  [],
  record {
    tree = tt;
    nodes = λ n. ap (eqb n) (eqb-true x root place);
    joined = λ n m. refl;
  },
)
over_another root (e ∷ es) tree x place =
    ⊎_elim
    (λ new.
    let at : e.other ≡ x = sym (eqb-true x e.other new) in
    let other = over_another root es tree.2 e.one tree.0 in
    let same : IsSameTree root es e.one other.0 = other.1 in
    let os : List Exchange = other.0 in
    subst (λ y. (os : List Exchange) × IsSameTree root (e ∷ es) y os) at (
      os ++ edge_to e.other e.one ∷ [],
      record {
        tree = hung e.one e.other os same.tree (same.nodes e.other ∙ tree.1);
        nodes = λ n. hung_nodes e.one e.other os n ∙ ap (λ b. b || eqb n e.other) (same.nodes n) ∙ or-swap (is_in root es n) (eqb n e.other);
        joined = λ n m. one_turned es os e n m (same.joined n m);
      },
    ))
    (λ old.
    let other = over_another root es tree.2 x old in
    let same : IsSameTree root es x other.0 = other.1 in (
      e ∷ other.0,
      record {
        tree = (same.nodes e.one ∙ tree.0, same.nodes e.other ∙ tree.1, same.tree);
        nodes = λ n. ap (λ b. eqb n e.other || b) (same.nodes n);
        joined = λ n m. one_more es other.0 e n m (same.joined n m);
      },
    ))
    (or_cases (eqb x e.other) (is_in root es x) place)
