-- A closed set has an object: its entries, writer by writer.
use Rattle.std.proofs.Common.{◌≡◌, ℕ, ◌+◌, ◌<◌, ◌≤◌, Bool, true, false, cond, zero, suc, List, [], ◌∷◌, length, map, sym, ap, refl, subst, ◌∙◌, arith, max, ⊎_elim, Option, Some, None, eqb}
use Rattle.std.specs.Prelude.{◌&&◌, filter}
use Rattle.std.proofs.lemmas.Bool.{cases_eq, eqb-true, eq-eqb, ne_eqb, and_parts}
use Rattle.meta_types.specs.Name.{Key}
use Rattle.dvvset.specs.Object.{Entry}
use Rattle.dvvset.specs.Writer.{entry_of}
use Rattle.dvvset.proofs.Writers.{Rises, entry_of-low}
use Rattle.past_model.specs.Sets.{Places, empty}
use Rattle.past_model.specs.Past.{Write, In}
use Rattle.past_model.specs.Shown.{IsClosed, IsObjectOf, count_in, siblings_by}
use Rattle.std.proofs.Math.Bool.{and-false}
use Rattle.past_model.proofs.Grown.{closed_empty}
use Rattle.past_model.proofs.Members.{of_filter, counted_member}
use Rattle.past_model.proofs.Rendered.{entry_with}
use Rattle.past_model.proofs.Closed.{entry_in}
use Rattle.past_model.proofs.Entries.{object_from_entries, entry_with-id}

abbrev pub cons_some : Option Entry → List Entry → List Entry
cons_some None es = es
cons_some (Some e) es = e ∷ es

-- the entries of the writers from `low` on, `many` of them
abbrev pub gathered : (ℕ → Option Entry) → ℕ → ℕ → List Entry
gathered f low zero = []
gathered f low (suc many) = cons_some (f low) (gathered f (low + 1) many)

-- an entry is that of its writer
pub record IsNamed (f : ℕ → Option Entry) : Type 0 where
  pub named : (w : ℕ) (e : Entry) → f w ≡ Some e → e.id ≡ w

weaken : (es : List Entry) (low : ℕ) → Rises (low + 1) es → Rises low es
weaken [] low rises = tt
weaken (x ∷ xs) low rises = (let first : low + 1 ≤ x.id = rises.0 in omega arith, rises.1)

Rises-gathered : (f : ℕ → Option Entry) → IsNamed f → (many low : ℕ) → Rises low (gathered f low many)
Rises-gathered f is zero low = tt
Rises-gathered f is (suc many) low =
    elim (f low) as (λ o. f low ≡ o → Rises low (cons_some o (gathered f (low + 1) many))) [
      | None ↦ λ e. weaken (gathered f (low + 1) many) low (Rises-gathered f is many (low + 1))
      | Some x ↦ λ e.
          let id : x.id ≡ low = is.named low x e in
          let P : ℕ → Type 0 = λ i. (low ≤ i) × Rises (i + 1) (gathered f (low + 1) many) in
          subst P (sym id) (omega arith, Rises-gathered f is many (low + 1))
    ] refl

-- the first writer's entry, and those of the later ones
gathered_first : (f : ℕ → Option Entry) → IsNamed f → (many low : ℕ) → entry_of (gathered f low (suc many)) low ≡ f low
gathered_first f is many low =
    elim (f low) as (λ o. f low ≡ o → entry_of (cons_some o (gathered f (low + 1) many)) low ≡ o) [
      | None ↦ λ e. let below : low < low + 1 = omega arith in entry_of-low (gathered f (low + 1) many) (low + 1) low (Rises-gathered f is many (low + 1)) below
      | Some x ↦ λ e. ap (λ b. cond b (Some x) (entry_of (gathered f (low + 1) many) low)) (eq-eqb x.id low (is.named low x e))
    ] refl

gathered_later : (f : ℕ → Option Entry) → IsNamed f → (many low w : ℕ) → (low ≡ w → ⊥) → entry_of (gathered f low (suc many)) w ≡ entry_of (gathered f (low + 1) many) w
gathered_later f is many low w ne =
    elim (f low) as (λ o. f low ≡ o → entry_of (cons_some o (gathered f (low + 1) many)) w ≡ entry_of (gathered f (low + 1) many) w) [
      | None ↦ λ e. refl
      | Some x ↦ λ e. ap (λ b. cond b (Some x) (entry_of (gathered f (low + 1) many) w)) (ne_eqb x.id w (λ h. ne (sym (is.named low x e) ∙ h)))
    ] refl

entry_of-gathered : (f : ℕ → Option Entry) → IsNamed f → (many low w : ℕ) → low ≤ w → (low + many ≤ w → f w ≡ None) → entry_of (gathered f low many) w ≡ f w
entry_of-gathered f is zero low w le beyond = sym (beyond (omega arith))
entry_of-gathered f is (suc many) low w le beyond =
    ⊎_elim
    (λ (e : low ≡ w). subst (λ u. entry_of (gathered f low (suc many)) u ≡ f u) e (gathered_first f is many low))
    (λ ne.
    let next : low + 1 ≤ w = omega arith in
    gathered_later f is many low w ne
    ∙ entry_of-gathered f is many (low + 1) w next (λ far. beyond (omega arith)))
    (cases_eq low w)

-- no writer from the bound on
pub record WritersBelow (bound : ℕ) (ws : List Write) : Type 0 where
  pub all : (x : Write) → In x ws → x.writer < bound

bound_of : (ws : List Write) → (bound : ℕ) × WritersBelow bound ws
bound_of [] = (0, record { all = λ x m. absurd m })
bound_of (x ∷ xs) =
    let rest : (bound : ℕ) × WritersBelow bound xs = bound_of xs in (
      max (x.writer + 1) rest.0,
      record {
        all = λ y m. ⊎_elim
            (λ here. let same : y.writer ≡ x.writer = ap (λ z. z.writer) here in omega arith)
            (λ later. let low : y.writer < rest.0 = rest.1.all y later in omega arith) m;
      },
    )

none_from : (ws : List Write) (S : Places) (bound w : ℕ) → WritersBelow bound ws → bound ≤ w → entry_in ws S w ≡ None
none_from ws S bound w below far =
    elim (count_in ws S w) as (λ n. count_in ws S w ≡ n → entry_with w n (siblings_by ws S w) ≡ None) [
      | zero ↦ λ e. refl
      | suc n ↦ λ e.
          let found : (x : Write) × In x (filter (λ x. eqb x.writer w && S x.place) ws) =
          counted_member (filter (λ x. eqb x.writer w && S x.place) ws) (let one : 1 ≤ count_in ws S w = omega arith in one) in
          let parts : In found.0 ws × ((eqb found.0.writer w && S found.0.place) ≡ true) = of_filter (λ x. eqb x.writer w && S x.place) ws found.0 found.1 in
          let writer : found.0.writer ≡ w = eqb-true found.0.writer w (and_parts (eqb found.0.writer w) (S found.0.place) parts.1).0 in
          let low : found.0.writer < bound = below.all found.0 parts.0 in
          absurd (omega arith)
    ] refl

-- the object of a closed set
pub object_of : (ws : List Write) (k : Key) (S : Places) → IsClosed ws k S → (object : List Entry) × IsObjectOf ws k S object
object_of ws k S closed =
    let bound : (bound : ℕ) × WritersBelow bound ws = bound_of ws in
    let is : IsNamed (entry_in ws S) = record { named = λ w e h. entry_with-id w (count_in ws S w) (siblings_by ws S w) e h } in (
      gathered (entry_in ws S) 0 bound.0,
      object_from_entries ws k S (gathered (entry_in ws S) 0 bound.0) closed
          (record {
            rises = Rises-gathered (entry_in ws S) is bound.0 0;
            entries = λ w. entry_of-gathered (entry_in ws S) is bound.0 0 w (omega arith) (λ far. none_from ws S bound.0 w bound.1 (omega arith));
          }),
    )

-- ---- the empty set

none_kept : (P : Write → Bool) (ws : List Write) → ((x : Write) → P x ≡ false) → filter P ws ≡ []
none_kept P [] none = refl
none_kept P (x ∷ xs) none = ap (λ b. cond b (x ∷ filter P xs) (filter P xs)) (none x) ∙ none_kept P xs none

-- it has the absent object
pub absent_object : (ws : List Write) (k : Key) → IsObjectOf ws k empty []
absent_object ws k = record {
  closed = closed_empty ws k;
  context = record {
    rising = tt;
    counts = λ w. sym (ap length (none_kept (λ x. eqb x.writer w && false) ws (λ x. and-false (eqb x.writer w))));
    held = λ i d lt. absurd (omega arith);
  };
  siblings = λ w. sym (ap (map (λ x. x.value)) (none_kept (λ x. eqb x.writer w && false) ws (λ x. and-false (eqb x.writer w))));
}
