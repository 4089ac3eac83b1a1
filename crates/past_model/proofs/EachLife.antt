-- The list of each node in each of its lives: it rises, and every writer of a history is in it.
use Rattle.std.proofs.Common.{◌≡◌, ℕ, ◌+◌, ◌*◌, ◌<◌, ◌≤◌, Bool, true, false, zero, suc, List, [], ◌∷◌, ◌++◌, All, sym, ap, subst, ◌∙◌, arith, ⊎_elim, eqb, Some, add-one, append_assoc}
use Rattle.std.specs.Prelude.{slice_get}
use Rattle.std.specs.List.{list_any}
use Rattle.std.proofs.lemmas.Bool.{cases_eq, eq-eqb, or_left, or_right}
use Rattle.std.proofs.lemmas.List.{append-nil}
use Rattle.std.proofs.lemmas.List.Elements.{All-nil, All-append, All-push}
use Rattle.std.proofs.lemmas.List.Folds.{list_any-append}
use Rattle.meta_types.specs.Node.{IsNode}
use Rattle.meta_types.specs.Actor.{IsWriter, incarnations, writer_number}
use Rattle.past_model.specs.declared.happening.Happening.{Happening}
use Rattle.past_model.specs.Past.{past, writes}
use Rattle.past_model.specs.History.{IsHistory, most_restarts}
use Rattle.past_model.specs.Moment.{AreWriters, lives_of, node_of}
use Rattle.past_model.proofs.Sound.{sound_past}
use Rattle.past_model.proofs.Listing.{Rise, rise_none, rise_below, rise_on, writers_of_nodes}

-- the first nodes, each in each of its lives
abbrev pub each_life : List Happening → ℕ → List ℕ
each_life hs zero = []
each_life hs (suc n) = each_life hs n ++ lives_of n ((past hs).restarts n + 1)

-- ---- it rises

lives_rise : (n lives : ℕ) (ns : List ℕ) → Rise (writer_number n 1) ns → Rise (writer_number n (lives + 1)) (ns ++ lives_of n lives)
lives_rise n zero ns rise = subst (Rise (writer_number n (0 + 1))) (sym (append-nil ns)) (rise_below (writer_number n 1) (writer_number n (0 + 1)) ns (omega arith) rise)
lives_rise n (suc lives) ns rise =
    subst (Rise (writer_number n (suc lives + 1))) (append_assoc ns (lives_of n lives) (writer_number n (suc lives) ∷ []))
    (rise_on (writer_number n (lives + 1)) (writer_number n (suc lives)) (writer_number n (suc lives + 1)) (ns ++ lives_of n lives) (omega arith) (omega arith) (lives_rise n lives ns rise))

pub few_restarts : (hs : List Happening) (n : ℕ) → IsHistory hs → (past hs).restarts n ≤ most_restarts
few_restarts hs n history = (sound_past hs history).lives.few n

each_life_rises : (hs : List Happening) (n : ℕ) → IsHistory hs → Rise (n * incarnations) (each_life hs n)
each_life_rises hs zero history = rise_below 0 (0 * incarnations) [] (omega arith) rise_none
each_life_rises hs (suc n) history =
    let few = few_restarts hs n history in
    let lives : ℕ = (past hs).restarts n + 1 in
    rise_below (writer_number n (lives + 1)) (suc n * incarnations) (each_life hs n ++ lives_of n lives) (omega (arith, few))
    (lives_rise n lives (each_life hs n) (rise_below (n * incarnations) (writer_number n 1) (each_life hs n) (omega arith) (each_life_rises hs n history)))

-- ---- its numbers are those of writers

lives_lawful : (n lives : ℕ) → n < 16 → lives < incarnations → All IsWriter (lives_of n lives)
lives_lawful n zero node few = All-nil IsWriter
lives_lawful n (suc lives) node few =
    let lawful : IsWriter (writer_number n (suc lives)) = omega (arith, node, few) in
    All-push IsWriter (lives_of n lives) (writer_number n (suc lives)) (lives_lawful n lives node (omega (arith, few))) lawful

each_life_lawful : (hs : List Happening) (n : ℕ) → IsHistory hs → n ≤ 16 → All IsWriter (each_life hs n)
each_life_lawful hs zero history le = All-nil IsWriter
each_life_lawful hs (suc n) history le =
    let few = few_restarts hs n history in
    let lives : ℕ = (past hs).restarts n + 1 in
    All-append IsWriter (each_life hs n) (lives_of n lives) (each_life_lawful hs n history (omega (arith, le))) (lives_lawful n lives (omega (arith, le)) (omega (arith, few)))

-- ---- each writer is in it

lives_have : (n lives life : ℕ) → 1 ≤ life → life ≤ lives → list_any (λ w. eqb w (writer_number n life)) (lives_of n lives) ≡ true
lives_have n zero life least most = absurd (omega (arith, least, most))
lives_have n (suc lives) life least most =
    let is : ℕ → Bool = λ w. eqb w (writer_number n life) in
    list_any-append is (lives_of n lives) (writer_number n (suc lives) ∷ [])
    ∙ ⊎_elim
    (λ (same : life ≡ suc lives). or_right (list_any is (lives_of n lives)) (list_any is (writer_number n (suc lives) ∷ []))
    (or_left (is (writer_number n (suc lives))) false (eq-eqb (writer_number n (suc lives)) (writer_number n life) (ap (writer_number n) (sym same)))))
    (λ ne. let less : life ≤ lives = omega (arith, ne, most) in
    or_left (list_any is (lives_of n lives)) (list_any is (writer_number n (suc lives) ∷ [])) (lives_have n lives life least less))
    (cases_eq life (suc lives))

each_life_has : (hs : List Happening) (n m w : ℕ) → m < n → list_any (λ v. eqb v w) (lives_of m ((past hs).restarts m + 1)) ≡ true → list_any (λ v. eqb v w) (each_life hs n) ≡ true
each_life_has hs zero m w lt has = absurd (omega (arith, lt))
each_life_has hs (suc n) m w lt has =
    let is : ℕ → Bool = λ v. eqb v w in
    let lives : List ℕ = lives_of n ((past hs).restarts n + 1) in
    list_any-append is (each_life hs n) lives
    ∙ ⊎_elim
    (λ (same : m ≡ n). or_right (list_any is (each_life hs n)) (list_any is lives) (subst (λ k. list_any is (lives_of k ((past hs).restarts k + 1)) ≡ true) same has))
    (λ ne. let less : m < n = omega (arith, ne, lt) in or_left (list_any is (each_life hs n)) (list_any is lives) (each_life_has hs n m w less has))
    (cases_eq m n)

pub all_writers : (hs : List Happening) (among : List ℕ) → IsHistory hs → ((p : ℕ) (h : Happening) → slice_get hs p ≡ Some h → IsNode (node_of h)) → among ≡ each_life hs 16 → AreWriters (writes hs) among
all_writers hs among history nodes are =
    subst (AreWriters (writes hs)) (sym are)
    (record {
      rising = (each_life_rises hs 16 history).rising;
      lawful = each_life_lawful hs 16 history (omega arith);
      all = λ x m.
          let of = (writers_of_nodes hs nodes).below x m in
          each_life_has hs 16 of.node x.writer of.in_range
          (subst (λ w. list_any (λ v. eqb v w) (lives_of of.node ((past hs).restarts of.node + 1)) ≡ true) (sym of.writer) (lives_have of.node ((past hs).restarts of.node + 1) of.life of.least of.begun));
    })
