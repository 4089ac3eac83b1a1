-- Edges of a tree that lead from a node that was reached to one that wasn't.
use Rattle.std.proofs.Common.{◌≡◌, ◌≢◌, ℕ, Bool, true, false, cond, not, List, [], ◌∷◌, ◌++◌, map, sym, ap, subst, refl, ◌∙◌, inl, inr, ⊎_elim, eqb, nat_eq}
use Rattle.std.specs.Prelude.{◌||◌, ◌&&◌, ◌⊎◌}
use Rattle.std.specs.List.{AllByRecursion, IsDistinct}
use Rattle.std.proofs.lemmas.Bool.{false≢true, and_from, and_parts, cond_both, or_cases, or_from, or_left, or_parts, or_right, eqb-true, eq-eqb, false_from_ne_true, true_from_ne_false}
use Rattle.std.proofs.lemmas.List.Folds.{list_any-append}
use Rattle.std.proofs.lemmas.Map.Keys.{IsDistinct-head, IsDistinct-tail}
use Rattle.peer_lists.specs.Lists.{has, without_all}
use Rattle.peer_lists.proofs.Members.{has-without_all}
use Rattle.agreement.specs.Rounds.{Exchange}
use Rattle.agreement.specs.Tree.{IsTree, are_joined, has_edge, is_in}

-- ---- edges of a tree

-- whether this is the edge
abbrev is_edge : Exchange → ℕ → ℕ → Bool
is_edge e a b = eqb a e.one && eqb b e.other

pub root_in : (root : ℕ) (es : List Exchange) → is_in root es root ≡ true
root_in root [] = eq-eqb root root refl
root_in root (e ∷ es) = or_right (eqb root e.other) (is_in root es root) (root_in root es)

-- an edge leads to a node of the tree
pub edge_in : (root : ℕ) (es : List Exchange) (a b : ℕ) → has_edge es a b ≡ true → is_in root es b ≡ true
edge_in root [] a b edge = absurd (false≢true edge)
edge_in root (e ∷ es) a b edge =
    ⊎_elim
    (λ here. or_left (eqb b e.other) (is_in root es b) (and_parts (eqb a e.one) (eqb b e.other) here).1)
    (λ there. or_right (eqb b e.other) (is_in root es b) (edge_in root es a b there))
    (or_cases (is_edge e a b) (has_edge es a b) edge)

-- and from one
pub edge_from : (root : ℕ) (es : List Exchange) → IsTree root es → (a b : ℕ) → has_edge es a b ≡ true → is_in root es a ≡ true
edge_from root [] tree a b edge = absurd (false≢true edge)
edge_from root (e ∷ es) tree a b edge =
    ⊎_elim
    (λ here. or_right (eqb a e.other) (is_in root es a) (ap (is_in root es) (eqb-true a e.one (and_parts (eqb a e.one) (eqb b e.other) here).0) ∙ tree.0))
    (λ there. or_right (eqb a e.other) (is_in root es a) (edge_from root es tree.2 a b there))
    (or_cases (is_edge e a b) (has_edge es a b) edge)

-- no edge but the last leads to its node
new_to : (root : ℕ) (e : Exchange) (es : List Exchange) → IsTree root (e ∷ es) → (a b : ℕ) → eqb b e.other ≡ true → has_edge es a b ≡ true → ⊥
new_to root e es tree a b at edge =
    false≢true (sym tree.1 ∙ ap (is_in root es) (sym (eqb-true b e.other at)) ∙ edge_in root es a b edge)

-- to each node leads one edge
pub one_parent : (root : ℕ) (es : List Exchange) → IsTree root es → (a b n : ℕ) → has_edge es a n ≡ true → has_edge es b n ≡ true → a ≡ b
one_parent root [] tree a b n one other = absurd (false≢true one)
one_parent root (e ∷ es) tree a b n one other =
    ⊎_elim
    (λ here.
    let first = and_parts (eqb a e.one) (eqb n e.other) here in
    ⊎_elim
    (λ also. eqb-true a e.one first.0 ∙ sym (eqb-true b e.one (and_parts (eqb b e.one) (eqb n e.other) also).0))
    (λ later. absurd (new_to root e es tree b n first.1 later))
    (or_cases (is_edge e b n) (has_edge es b n) other))
    (λ there.
    ⊎_elim
    (λ also. absurd (new_to root e es tree a n (and_parts (eqb b e.one) (eqb n e.other) also).1 there))
    (λ later. one_parent root es tree.2 a b n there later)
    (or_cases (is_edge e b n) (has_edge es b n) other))
    (or_cases (is_edge e a n) (has_edge es a n) one)

-- to each other node than the root leads one
pub has_parent : (root : ℕ) (es : List Exchange) (n : ℕ) → is_in root es n ≡ true → (n ≡ root) ⊎ ((a : ℕ) × (has_edge es a n ≡ true))
has_parent root [] n place = inl (eqb-true n root place)
has_parent root (e ∷ es) n place =
    ⊎_elim
    (λ new. inr (e.one, or_left (is_edge e e.one n) (has_edge es e.one n) (and_from (eqb e.one e.one) (eqb n e.other) (eq-eqb e.one e.one refl) new)))
    (λ old.
    ⊎_elim
    (λ at. inl at)
    (λ parent. inr (parent.0, or_right (is_edge e parent.0 n) (has_edge es parent.0 n) parent.1))
    (has_parent root es n old))
    (or_cases (eqb n e.other) (is_in root es n) place)

-- none leads to the root
pub none_to_root : (root : ℕ) (es : List Exchange) → IsTree root es → (a : ℕ) → has_edge es a root ≡ true → ⊥
none_to_root root [] tree a edge = false≢true edge
none_to_root root (e ∷ es) tree a edge =
    ⊎_elim
    (λ here. false≢true (sym tree.1 ∙ ap (is_in root es) (sym (eqb-true root e.other (and_parts (eqb a e.one) (eqb root e.other) here).1)) ∙ root_in root es))
    (λ there. none_to_root root es tree.2 a there)
    (or_cases (is_edge e a root) (has_edge es a root) edge)

-- ---- lists of edges, each once

abbrev pub AreOnce : List Exchange → Type 0
AreOnce [] = Unit {0}
AreOnce (e ∷ es) = (has_edge es e.one e.other ≡ false) × AreOnce es

either_edge : (xs ys : List Exchange) (a b : ℕ) → has_edge (xs ++ ys) a b ≡ true → (has_edge xs a b ≡ true) ⊎ (has_edge ys a b ≡ true)
either_edge xs ys a b edge = or_cases (has_edge xs a b) (has_edge ys a b) (sym (list_any-append (λ e. is_edge e a b) xs ys) ∙ edge)

front_edge : (xs ys : List Exchange) (a b : ℕ) → has_edge xs a b ≡ true → has_edge (xs ++ ys) a b ≡ true
front_edge xs ys a b edge = list_any-append (λ e. is_edge e a b) xs ys ∙ or_left (has_edge xs a b) (has_edge ys a b) edge

back_edge : (xs ys : List Exchange) (a b : ℕ) → has_edge ys a b ≡ true → has_edge (xs ++ ys) a b ≡ true
back_edge xs ys a b edge = list_any-append (λ e. is_edge e a b) xs ys ∙ or_right (has_edge xs a b) (has_edge ys a b) edge

neither_edge : (xs ys : List Exchange) (a b : ℕ) → has_edge xs a b ≡ false → has_edge ys a b ≡ false → has_edge (xs ++ ys) a b ≡ false
neither_edge xs ys a b front back = list_any-append (λ e. is_edge e a b) xs ys ∙ or_from (has_edge xs a b) (has_edge ys a b) front back

its_edge : (e : Exchange) → is_edge e e.one e.other ≡ true
its_edge e = and_from (eqb e.one e.one) (eqb e.other e.other) (eq-eqb e.one e.one refl) (eq-eqb e.other e.other refl)

-- without one of them: the others
pub left_edge : (xs ys : List Exchange) (e : Exchange) (a b : ℕ) → has_edge (xs ++ ys) a b ≡ true → has_edge (xs ++ e ∷ ys) a b ≡ true
left_edge xs ys e a b edge =
    ⊎_elim
    (λ front. front_edge xs (e ∷ ys) a b front)
    (λ back. back_edge xs (e ∷ ys) a b (or_right (is_edge e a b) (has_edge ys a b) back))
    (either_edge xs ys a b edge)

pub middle_edge : (xs ys : List Exchange) (e : Exchange) → has_edge (xs ++ e ∷ ys) e.one e.other ≡ true
middle_edge xs ys e = back_edge xs (e ∷ ys) e.one e.other (or_left (is_edge e e.one e.other) (has_edge ys e.one e.other) (its_edge e))

other_edge : (xs ys : List Exchange) (e : Exchange) (a b : ℕ) → b ≢ e.other → has_edge (xs ++ e ∷ ys) a b ≡ true → has_edge (xs ++ ys) a b ≡ true
other_edge xs ys e a b apart edge =
    ⊎_elim
    (λ front. front_edge xs ys a b front)
    (λ back.
    ⊎_elim
    (λ here. absurd (apart (eqb-true b e.other (and_parts (eqb a e.one) (eqb b e.other) here).1)))
    (λ there. back_edge xs ys a b there)
    (or_cases (is_edge e a b) (has_edge ys a b) back))
    (either_edge xs (e ∷ ys) a b edge)

-- one of them is not among the others
pub once_left : (xs ys : List Exchange) (e : Exchange) → AreOnce (xs ++ e ∷ ys) → AreOnce (xs ++ ys) × (has_edge (xs ++ ys) e.one e.other ≡ false)
once_left [] ys e once = (once.1, once.0)
once_left (x ∷ xs) ys e once =
    let rest = once_left xs ys e once.1 in
    let fresh : has_edge (xs ++ ys) x.one x.other ≡ false =
    false_from_ne_true (has_edge (xs ++ ys) x.one x.other) (λ edge. false≢true (sym once.0 ∙ left_edge xs ys e x.one x.other edge)) in
    let unlike : is_edge x e.one e.other ≡ false =
    false_from_ne_true (is_edge x e.one e.other) (λ same.
    let parts = and_parts (eqb e.one x.one) (eqb e.other x.other) same in
    false≢true (sym once.0
    ∙ ap (λ a. has_edge (xs ++ e ∷ ys) a x.other) (sym (eqb-true e.one x.one parts.0))
    ∙ ap (λ b. has_edge (xs ++ e ∷ ys) e.one b) (sym (eqb-true e.other x.other parts.1))
    ∙ middle_edge xs ys e)) in
    ((fresh, rest.0), or_from (is_edge x e.one e.other) (has_edge (xs ++ ys) e.one e.other) unlike rest.1)

once_append : (xs ys : List Exchange) → AreOnce xs → AreOnce ys → ((a b : ℕ) → has_edge xs a b ≡ true → has_edge ys a b ≡ false) → AreOnce (xs ++ ys)
once_append [] ys one other apart = other
once_append (x ∷ xs) ys one other apart = (
  neither_edge xs ys x.one x.other one.0 (apart x.one x.other (or_left (is_edge x x.one x.other) (has_edge xs x.one x.other) (its_edge x))),
  once_append xs ys one.1 other (λ a b edge. apart a b (or_right (is_edge x a b) (has_edge xs a b) edge)),
)

-- ---- edges from one node

abbrev pub edge_to : ℕ → ℕ → Exchange
edge_to n to = record { one = n; other = to }

abbrev pub edges_to : ℕ → List ℕ → List Exchange
edges_to n peers = map (edge_to n) peers

edges_are : (n : ℕ) (peers : List ℕ) (a b : ℕ) → has_edge (edges_to n peers) a b ≡ true → (a ≡ n) × (has peers b ≡ true)
edges_are n [] a b edge = absurd (false≢true edge)
edges_are n (x ∷ peers) a b edge =
    ⊎_elim
    (λ here. let parts = and_parts (eqb a n) (eqb b x) here in (eqb-true a n parts.0, or_left (nat_eq b x) (has peers b) parts.1))
    (λ there. let rest = edges_are n peers a b there in (rest.0, or_right (nat_eq b x) (has peers b) rest.1))
    (or_cases (is_edge (edge_to n x) a b) (has_edge (edges_to n peers) a b) edge)

edges_have : (n : ℕ) (peers : List ℕ) (b : ℕ) → has peers b ≡ true → has_edge (edges_to n peers) n b ≡ true
edges_have n [] b member = absurd (false≢true member)
edges_have n (x ∷ peers) b member =
    ⊎_elim
    (λ here. or_left (is_edge (edge_to n x) n b) (has_edge (edges_to n peers) n b) (and_from (eqb n n) (eqb b x) (eq-eqb n n refl) here))
    (λ there. or_right (is_edge (edge_to n x) n b) (has_edge (edges_to n peers) n b) (edges_have n peers b there))
    (or_cases (nat_eq b x) (has peers b) member)

-- ---- peers, each once

has_none : (z : ℕ) (xs : List ℕ) → AllByRecursion (λ y. nat_eq z y ≡ false) xs → has xs z ≡ false
has_none z [] apart = refl
has_none z (y ∷ ys) apart = or_from (nat_eq z y) (has ys z) apart.0 (has_none z ys apart.1)

-- the one that is left out
left_out : (x m : ℕ) → has (m ∷ []) x ≡ true → x ≡ m
left_out x m is = ⊎_elim (λ same. eqb-true x m same) (λ none. absurd (false≢true none)) (or_cases (nat_eq x m) false is)

-- all but one of them
pub stays_in : (m : ℕ) (peers : List ℕ) (b : ℕ) → has peers b ≡ true → b ≢ m → has (without_all (m ∷ []) peers) b ≡ true
stays_in m [] b member apart = absurd (false≢true member)
stays_in m (x ∷ peers) b member apart =
    elim (has (m ∷ []) x) as (λ gone. has (m ∷ []) x ≡ gone → has (cond (not gone) (x ∷ without_all (m ∷ []) peers) (without_all (m ∷ []) peers)) b ≡ true) [
      | true ↦ λ gone.
          ⊎_elim
          (λ here. absurd (apart (eqb-true b x here ∙ left_out x m gone)))
          (λ there. stays_in m peers b there apart)
          (or_cases (nat_eq b x) (has peers b) member)
      | false ↦ λ kept.
          ⊎_elim
          (λ here. or_left (nat_eq b x) (has (without_all (m ∷ []) peers) b) here)
          (λ there. or_right (nat_eq b x) (has (without_all (m ∷ []) peers) b) (stays_in m peers b there apart))
          (or_cases (nat_eq b x) (has peers b) member)
    ] refl

once_all : (n : ℕ) (peers : List ℕ) → IsDistinct nat_eq peers → AreOnce (edges_to n peers)
once_all n [] distinct = tt
once_all n (x ∷ peers) distinct = (
  false_from_ne_true (has_edge (edges_to n peers) n x) (λ edge. false≢true (sym (has_none x peers (IsDistinct-head nat_eq x peers distinct)) ∙ (edges_are n peers n x edge).1)),
  once_all n peers (IsDistinct-tail nat_eq x peers distinct),
)

once_but_one : (n m : ℕ) (peers : List ℕ) → IsDistinct nat_eq peers → AreOnce (edges_to n (without_all (m ∷ []) peers))
once_but_one n m [] distinct = tt
once_but_one n m (x ∷ peers) distinct =
    let rest : AreOnce (edges_to n (without_all (m ∷ []) peers)) = once_but_one n m peers (IsDistinct-tail nat_eq x peers distinct) in
    cond_both (not (has (m ∷ []) x)) (x ∷ without_all (m ∷ []) peers) (without_all (m ∷ []) peers) (λ xs. AreOnce (edges_to n xs))
    (λ _. (
      false_from_ne_true (has_edge (edges_to n (without_all (m ∷ []) peers)) n x) (λ edge.
          false≢true (sym (has_none x peers (IsDistinct-head nat_eq x peers distinct))
          ∙ (has-without_all (m ∷ []) peers x (edges_are n (without_all (m ∷ []) peers) n x edge).1).0)),
      rest,
    ))
    (λ _. rest)

-- ---- what is due

-- the edges that lead from a node that was reached to one that wasn't, each once; and who reached a node
-- was reached before it
pub record IsFrontier (edges : List Exchange) (reached : ℕ → Bool) (due : List Exchange) : Type 0 where
  pub closed : (a b : ℕ) → has_edge edges a b ≡ true → reached b ≡ true → reached a ≡ true
  pub sound : (a b : ℕ) → has_edge due a b ≡ true → (has_edge edges a b ≡ true) × ((reached a ≡ true) × (reached b ≡ false))
  pub all : (a b : ℕ) → has_edge edges a b ≡ true → reached a ≡ true → reached b ≡ false → has_edge due a b ≡ true
  pub once : AreOnce due

-- one node more was reached
abbrev pub and_also : ℕ → (ℕ → Bool) → ℕ → Bool
and_also n reached m = eqb m n || reached m

module _ (root : ℕ) (edges : List Exchange) (tree : IsTree root edges) where
  -- at first the root was reached, and all its edges are due
  pub first_frontier : (peers : List ℕ) → IsDistinct nat_eq peers → ((m : ℕ) → has peers m ≡ are_joined edges root m)
      → IsFrontier edges (is_in root []) (edges_to root peers)
  first_frontier peers distinct joined = record {
    closed = λ a b edge reached. absurd (none_to_root root edges tree a (ap (has_edge edges a) (sym (eqb-true b root reached)) ∙ edge));
    sound = λ a b edge.
        let is = edges_are root peers a b edge in
        let out : has_edge edges root b ≡ true =
        ⊎_elim (λ out. out) (λ back. absurd (none_to_root root edges tree b back))
        (or_cases (has_edge edges root b) (has_edge edges b root) (sym (joined b) ∙ is.1)) in (
          ap (λ x. has_edge edges x b) is.0 ∙ out,
          (
            eq-eqb a root is.0,
            false_from_ne_true (eqb b root) (λ same.
                none_to_root root edges tree root (ap (has_edge edges root) (sym (eqb-true b root same)) ∙ out)),
          ),
        );
    all = λ a b edge reached fresh.
        let at : root ≡ a = sym (eqb-true a root reached) in
        subst (λ x. has_edge (edges_to root peers) x b ≡ true) at
        (edges_have root peers b (joined b ∙ or_left (has_edge edges root b) (has_edge edges b root) (ap (λ x. has_edge edges x b) at ∙ edge)));
    once = once_all root peers distinct;
  }

  -- one more node was reached, along an edge that was due: its other edges are due now
  module _ (reached : ℕ → Bool) (front back : List Exchange) (e : Exchange) (frontier : IsFrontier edges reached (front ++ e ∷ back)) where
    -- what the edge is
    pub was_due : (has_edge edges e.one e.other ≡ true) × ((reached e.one ≡ true) × (reached e.other ≡ false))
    was_due = frontier.sound e.one e.other (middle_edge front back e)

    -- who was not reached is another node than one who was
    unlike : (a b : ℕ) → reached a ≡ true → reached b ≡ false → a ≢ b
    unlike a b one other same = false≢true (sym other ∙ ap reached (sym same) ∙ one)

    module _ (peers : List ℕ) (distinct : IsDistinct nat_eq peers) (joined : (m : ℕ) → has peers m ≡ are_joined edges e.other m) where
      abbrev new : List Exchange
      new = edges_to e.other (without_all (e.one ∷ []) peers)

      -- an edge of the tree that leads from the new node
      leads : (a b : ℕ) → has_edge new a b ≡ true → (a ≡ e.other) × (has_edge edges e.other b ≡ true)
      leads a b edge =
          let is = edges_are e.other (without_all (e.one ∷ []) peers) a b edge in
          let among = has-without_all (e.one ∷ []) peers b is.1 in (
            is.0,
            ⊎_elim (λ out. out)
                (λ into. absurd (false≢true (sym (or_parts (eqb b e.one) false among.1).0 ∙ eq-eqb b e.one (one_parent root edges tree b e.one e.other into was_due.0))))
                (or_cases (has_edge edges e.other b) (has_edge edges b e.other) (sym (joined b) ∙ among.0)),
          )

      -- it leads to a node that wasn't reached, and isn't the new one
      not_yet : (b : ℕ) → has_edge edges e.other b ≡ true → and_also e.other reached b ≡ false
      not_yet b edge =
          or_from (eqb b e.other) (reached b)
          (false_from_ne_true (eqb b e.other) (λ same.
          unlike e.one e.other was_due.1.0 was_due.1.1
          (one_parent root edges tree e.one e.other e.other was_due.0 (ap (has_edge edges e.other) (sym (eqb-true b e.other same)) ∙ edge))))
          (false_from_ne_true (reached b) (λ was. unlike e.other e.other (frontier.closed e.other b edge was) was_due.1.1 refl))

      closed : (a b : ℕ) → has_edge edges a b ≡ true → and_also e.other reached b ≡ true → and_also e.other reached a ≡ true
      closed a b edge is =
          or_right (eqb a e.other) (reached a)
          (⊎_elim
          (λ same. ap reached (one_parent root edges tree a e.one e.other (ap (has_edge edges a) (sym (eqb-true b e.other same)) ∙ edge) was_due.0) ∙ was_due.1.0)
          (λ was. frontier.closed a b edge was)
          (or_cases (eqb b e.other) (reached b) is))

      sound : (a b : ℕ) → has_edge ((front ++ back) ++ new) a b ≡ true
          → (has_edge edges a b ≡ true) × ((and_also e.other reached a ≡ true) × (and_also e.other reached b ≡ false))
      sound a b edge =
          ⊎_elim
          (λ old.
          let was = frontier.sound a b (left_edge front back e a b old) in (
            was.0,
            (
              or_right (eqb a e.other) (reached a) was.1.0,
              or_from (eqb b e.other) (reached b)
                  (false_from_ne_true (eqb b e.other) (λ same.
                  let other : b ≡ e.other = eqb-true b e.other same in
                  let one : a ≡ e.one = one_parent root edges tree a e.one e.other (ap (has_edge edges a) (sym other) ∙ was.0) was_due.0 in
                  false≢true (sym (once_left front back e frontier.once).1 ∙ ap (λ x. has_edge (front ++ back) x e.other) (sym one) ∙ ap (has_edge (front ++ back) a) (sym other) ∙ old)))
                  was.1.1,
            ),
          ))
          (λ more.
          let is = leads a b more in
          (ap (λ x. has_edge edges x b) is.0 ∙ is.1, (or_left (eqb a e.other) (reached a) (eq-eqb a e.other is.0), not_yet b is.1)))
          (either_edge (front ++ back) new a b edge)

      all : (a b : ℕ) → has_edge edges a b ≡ true → and_also e.other reached a ≡ true → and_also e.other reached b ≡ false → has_edge ((front ++ back) ++ new) a b ≡ true
      all a b edge one other =
          let fresh = or_parts (eqb b e.other) (reached b) other in
          ⊎_elim
          (λ same.
          let at : a ≡ e.other = eqb-true a e.other same in
          let out : has_edge edges e.other b ≡ true = ap (λ x. has_edge edges x b) (sym at) ∙ edge in
          back_edge (front ++ back) new a b
          (subst (λ x. has_edge new x b ≡ true) (sym at)
          (edges_have e.other (without_all (e.one ∷ []) peers) b
          (stays_in e.one peers b (joined b ∙ or_left (has_edge edges e.other b) (has_edge edges b e.other) out) (λ at. unlike e.one b was_due.1.0 fresh.1 (sym at))))))
          (λ was. front_edge (front ++ back) new a b
          (other_edge front back e a b (λ at. false≢true (sym fresh.0 ∙ eq-eqb b e.other at)) (frontier.all a b edge was fresh.1)))
          (or_cases (eqb a e.other) (reached a) one)

      pub next_frontier : IsFrontier edges (and_also e.other reached) ((front ++ back) ++ edges_to e.other (without_all (e.one ∷ []) peers))
      next_frontier = record {
        closed = closed;
        sound = sound;
        all = all;
        once = once_append (front ++ back) new (once_left front back e frontier.once).0 (once_but_one e.other e.one peers distinct)
            (λ a b old. false_from_ne_true (has_edge new a b) (λ more.
            unlike a e.other (frontier.sound a b (left_edge front back e a b old)).1.0 was_due.1.1 (leads a b more).0));
      }

-- where nothing is due all nodes of the tree were reached
pub all_reached_in : (root : ℕ) (edges : List Exchange) (reached : ℕ → Bool) → IsFrontier edges reached [] → reached root ≡ true
    → (es : List Exchange) → IsTree root es → ((a b : ℕ) → has_edge es a b ≡ true → has_edge edges a b ≡ true)
    → (n : ℕ) → is_in root es n ≡ true → reached n ≡ true
all_reached_in root edges reached frontier at [] tree within n place = ap reached (eqb-true n root place) ∙ at
all_reached_in root edges reached frontier at (e ∷ es) tree within n place =
    let rest : (m : ℕ) → is_in root es m ≡ true → reached m ≡ true =
    all_reached_in root edges reached frontier at es tree.2 (λ a b edge. within a b (or_right (is_edge e a b) (has_edge es a b) edge)) in
    ⊎_elim
    (λ new.
    ap reached (eqb-true n e.other new)
    ∙ true_from_ne_false (reached e.other) (λ fresh.
    false≢true (frontier.all e.one e.other (within e.one e.other (or_left (is_edge e e.one e.other) (has_edge es e.one e.other) (its_edge e))) (rest e.one tree.0) fresh)))
    (λ old. rest n old)
    (or_cases (eqb n e.other) (is_in root es n) place)
