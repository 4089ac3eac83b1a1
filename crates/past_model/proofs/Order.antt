-- Contexts are ordered as the sets are.
use Rattle.std.proofs.Common.{◌≡◌, ℕ, ◌+◌, ◌<◌, ◌≤◌, Bool, true, false, cond, List, [], ◌∷◌, sym, ap, refl, subst, ◌∙◌, arith, ⊎_elim, eqb, leb}
use Rattle.std.specs.Prelude.{◌&&◌, ◌↔◌}
use Rattle.std.proofs.lemmas.Bool.{cases_eq, and_from, and_parts, or_left, or_right, or_cases, eqb-true, eq-eqb, ne_eqb, leb-true, le-leb}
use Rattle.meta_types.specs.Name.{Key}
use Rattle.dvvset.specs.Object.{Entry, Counter, RisesFrom, ids_counted}
use Rattle.dvvset.specs.Clock.{join, count_for, descends}
use Rattle.past_model.specs.Sets.{Places, IsSubset, union}
use Rattle.meta_types.specs.Equal.{key_eq}
use Rattle.past_model.specs.Past.{Write, In}
use Rattle.past_model.specs.Shown.{IsClosed, IsObjectOf, count_in}
use Rattle.past_model.proofs.Orderly.{IsFalling}
use Rattle.past_model.proofs.Keys.{key_eq-self}
use Rattle.past_model.proofs.Older.{filter-mono}
use Rattle.past_model.proofs.Members.{in_filter, older_sub}
use Rattle.past_model.proofs.Closed.{in_set, is_of, writes_of, own_count, count_in-own, in_set-older}
use Rattle.past_model.proofs.Entries.{counter-low}

-- a closed set with no more writes of each writer is within
pub subset_from_counts : (ws : List Write) (k : Key) (S T : Places) → IsFalling ws → IsClosed ws k S → IsClosed ws k T → ((w : ℕ) → count_in ws S w ≤ count_in ws T w) → IsSubset S T
subset_from_counts ws k S T falling left right few = record {
  within = λ p e.
      let found : (x : Write) × (In x ws × ((x.place ≡ p) × (x.key ≡ k))) = left.of_writes p e in
      let mine : is_of k found.0.writer found.0 ≡ true =
      and_from (eqb found.0.writer found.0.writer) (key_eq found.0.key k) (eq-eqb found.0.writer found.0.writer refl) (ap (λ l. key_eq l k) found.1.1.1 ∙ key_eq-self k) in
      let one : count_in ws S found.0.writer ≡ own_count ws k S found.0.writer = count_in-own ws k S found.0.writer falling left in
      let two : count_in ws T found.0.writer ≡ own_count ws k T found.0.writer = count_in-own ws k T found.0.writer falling right in
      let le : count_in ws S found.0.writer ≤ count_in ws T found.0.writer = few found.0.writer in
      let there : T found.0.place ≡ true =
      older_sub (in_set S) (in_set T) (writes_of ws k found.0.writer) found.0
      (in_set-older ws k S found.0.writer falling left) (in_set-older ws k T found.0.writer falling right) (omega arith)
      (in_filter (is_of k found.0.writer) ws found.0 found.1.0 mine) (ap S found.1.1.0 ∙ e) in
      ap T (sym found.1.1.0) ∙ there;
}

pub counts_from_subset : (ws : List Write) (S T : Places) → IsSubset S T → (w : ℕ) → count_in ws S w ≤ count_in ws T w
counts_from_subset ws S T sub w =
    filter-mono (λ x. eqb x.writer w && S x.place) (λ x. eqb x.writer w && T x.place)
    (λ x e.
    let parts : (eqb x.writer w ≡ true) × (S x.place ≡ true) = and_parts (eqb x.writer w) (S x.place) e in
    and_from (eqb x.writer w) (T x.place) parts.0 (sub.within x.place parts.1)) ws

descends-gives : (v cs : List Counter) → descends v cs ≡ true → (w : ℕ) → count_for cs w ≤ count_for v w
descends-gives v [] d w = omega arith
descends-gives v (c ∷ cs) d w =
    let both : (leb c.count (count_for v c.id) ≡ true) × (descends v cs ≡ true) = and_parts (leb c.count (count_for v c.id)) (descends v cs) d in
    elim (eqb c.id w) as (λ b. eqb c.id w ≡ b → cond b c.count (count_for cs w) ≤ count_for v w) [
      | true ↦ λ e. let P : ℕ → Type 0 = λ i. c.count ≤ count_for v i in subst P (eqb-true c.id w e) (leb-true c.count (count_for v c.id) both.0)
      | false ↦ λ e. descends-gives v cs both.1 w
    ] refl

descends-from : (v cs : List Counter) (low : ℕ) → RisesFrom low (ids_counted cs) → ((w : ℕ) → count_for cs w ≤ count_for v w) → descends v cs ≡ true
descends-from v [] low rises le = refl
descends-from v (c ∷ cs) low rises le =
    let P : ℕ → Bool → Type 0 = λ w b. cond b c.count (count_for cs w) ≤ count_for v w in
    let first : c.count ≤ count_for v c.id = subst (P c.id) (eq-eqb c.id c.id refl) (le c.id) in
    let rest : (w : ℕ) → count_for cs w ≤ count_for v w = λ w.
    ⊎_elim
    (λ e.
    let below : w < c.id + 1 = omega arith in
    let none : count_for cs w ≡ 0 = counter-low cs (c.id + 1) w rises.1 below in
    omega arith)
    (λ ne. subst (P w) (ne_eqb c.id w ne) (le w))
    (cases_eq c.id w) in
    and_from (leb c.count (count_for v c.id)) (descends v cs) (le-leb c.count (count_for v c.id) first) (descends-from v cs (c.id + 1) rises.1 rest)

-- contexts descend as the sets do
pub descends-subset : (ws : List Write) (k : Key) (S T : Places) (a b : List Entry) → IsFalling ws → IsObjectOf ws k S a → IsObjectOf ws k T b → (descends (join b) (join a) ≡ true) ↔ IsSubset S T
descends-subset ws k S T a b falling left right = (
  λ d. subset_from_counts ws k S T falling left.closed right.closed
      (λ w.
      let one : count_for (join a) w ≡ count_in ws S w = left.context.counts w in
      let two : count_for (join b) w ≡ count_in ws T w = right.context.counts w in
      let le : count_for (join a) w ≤ count_for (join b) w = descends-gives (join b) (join a) d w in
      omega arith),
  λ sub. descends-from (join b) (join a) 0 left.context.rising
      (λ w.
      let one : count_for (join a) w ≡ count_in ws S w = left.context.counts w in
      let two : count_for (join b) w ≡ count_in ws T w = right.context.counts w in
      let le : count_in ws S w ≤ count_in ws T w = counts_from_subset ws S T sub w in
      omega arith),
)

both_or_none : (a b : Bool) → (a ≡ true → b ≡ true) → (b ≡ true → a ≡ true) → a ≡ b
both_or_none true b there back = sym (there refl)
both_or_none false true there back = back refl
both_or_none false false there back = refl

-- equal contexts are those of equal sets
pub set_from_context : (ws : List Write) (k : Key) (S T : Places) (a b : List Entry) → IsFalling ws → IsObjectOf ws k S a → IsObjectOf ws k T b → join a ≡ join b → (p : ℕ) → S p ≡ T p
set_from_context ws k S T a b falling left right same p =
    let counts : (w : ℕ) → count_in ws S w ≡ count_in ws T w = λ w.
    sym (left.context.counts w) ∙ ap (λ cs. count_for cs w) same ∙ right.context.counts w in
    let there : IsSubset S T = subset_from_counts ws k S T falling left.closed right.closed (λ w. let e = counts w in omega arith) in
    let back : IsSubset T S = subset_from_counts ws k T S falling right.closed left.closed (λ w. let e = counts w in omega arith) in
    both_or_none (S p) (T p) (there.within p) (back.within p)

-- ---- the union is the least set above both

pub subset_left : (S T : Places) → IsSubset S (union S T)
subset_left S T = record { within = λ p e. or_left (S p) (T p) e }

pub subset_right : (S T : Places) → IsSubset T (union S T)
subset_right S T = record { within = λ p e. or_right (S p) (T p) e }

pub subset_union : (S T U : Places) → IsSubset S U → IsSubset T U → IsSubset (union S T) U
subset_union S T U first second = record { within = λ p e. ⊎_elim (λ h. first.within p h) (λ h. second.within p h) (or_cases (S p) (T p) e) }
