-- Lists of marks, and the sets that they give.
use Rattle.std.proofs.Common.{◌≡◌, ℕ, zero, suc, ◌+◌, ◌-◌, ◌<◌, ◌≤◌, Bool, true, false, cond, List, [], ◌∷◌, ◌++◌, length, get_or, set, sym, ap, refl, subst, ◌∙◌, arith, inl, inr, Option, Some, None}
use Rattle.std.specs.Prelude.{slice_get, ◌&&◌, ◌||◌, ◌==◌}
use Rattle.std.proofs.lemmas.Bool.{cases_lt, cases_eq, eq-eqb, ne_eqb, or_from, true≢false}
use Rattle.std.proofs.lemmas.List.{get_or_append_left, get_or-append_right, length-append, get_or-set_same, get_or-set_other}
use Rattle.std.proofs.lemmas.Option.{slice_get_past, slice_get_read}
use Rattle.meta_types.specs.Name.{Key}
use Rattle.past_model.specs.declared.happening.Happening.{Happening}
use Rattle.past_model.specs.declared.happening.Happening.TheVariants.{Wrote, Looked, Sent, Got, Kept, Restarted}
use Rattle.past_model.specs.Sets.{Places, Knowledge, singleton, union, with_set}
use Rattle.meta_types.specs.Equal.{key_eq}
use Rattle.past_model.specs.Moment.{marked_places, is_write_under, is_sending, GivesSets}
use Rattle.past_model.proofs.Keys.{key_eq-true}

-- the list has a mark for each of the first so many places, as the test says
pub record Marking (xs : List Bool) (f : Places) (i : ℕ) : Type 0 where
  pub len : length xs ≡ i
  pub marks : (p : ℕ) → p < i → marked_places xs p ≡ f p

pub marked_past : (xs : List Bool) (p : ℕ) → length xs ≤ p → marked_places xs p ≡ false
marked_past [] p le = refl
marked_past (x ∷ xs) zero le = absurd (omega arith)
marked_past (x ∷ xs) (suc p) le = marked_past xs p (omega arith)

pub Marking-more : (xs ys : List Bool) (f : Places) (i : ℕ) (b : Bool) → Marking xs f i → b ≡ f i → ys ≡ xs ++ b ∷ [] → Marking ys f (i + 1)
Marking-more xs ys f i b m is e =
    subst (λ l. Marking l f (i + 1)) (sym e)
    (record {
      len = omega (arith, length-append xs (b ∷ []), m.len);
      marks = λ p lt.
          elim (cases_lt p i) [
            | inl before ↦ get_or_append_left xs (b ∷ []) false p (omega (arith, m.len)) ∙ m.marks p before
            | inr at ↦
                let here : p ≡ i = omega arith in
                let first : p - i ≡ 0 = omega arith in
                get_or-append_right xs (b ∷ []) i p false m.len at ∙ ap (λ n. get_or (b ∷ []) n false) first ∙ is ∙ ap f (sym here)
          ];
    })

-- ---- writes

-- past the end there is no write
pub write_within : (hs : List Happening) (p : ℕ) (k : Key) → is_write_under k (slice_get hs p) ≡ true → p < length hs
write_within hs p k e =
    elim (cases_lt p (length hs)) [
      | inl inside ↦ inside
      | inr past ↦ absurd (true≢false (sym e ∙ ap (is_write_under k) (slice_get_past hs p past)))
    ]

pub write_past : (hs : List Happening) (p : ℕ) (k : Key) → length hs ≤ p → is_write_under k (slice_get hs p) ≡ false
write_past hs p k past = ap (is_write_under k) (slice_get_past hs p past)

-- a write is under one key
pub write_other : (h : Option Happening) (l k : Key) → is_write_under l h ≡ true → key_eq l k ≡ false → is_write_under k h ≡ false
write_other None l k e ne = refl
write_other (Some (Wrote n j v r)) l k e ne = ap (λ x. key_eq x k) (key_eq-true j l e) ∙ ne
write_other (Some (Looked n j)) l k e ne = refl
write_other (Some (Sent n j)) l k e ne = refl
write_other (Some (Got n i)) l k e ne = refl
write_other (Some (Kept n j)) l k e ne = refl
write_other (Some (Restarted n j)) l k e ne = refl

-- what was read at a place of a Sent stands there
pub sending_at : (hs : List Happening) (p : ℕ) (h : Happening) → is_sending (slice_get hs p) ≡ true → h ≡ get_or hs p h → slice_get hs p ≡ Some h
sending_at hs p h e is =
    elim (cases_lt p (length hs)) [
      | inl inside ↦ slice_get_read hs (length hs) p h refl inside is
      | inr past ↦ absurd (true≢false (sym e ∙ ap is_sending (slice_get_past hs p past)))
    ]

-- marks of writes under a key, over all places
pub under_all : (hs : List Happening) (marks xs : List Bool) (k : Key) → Marking xs (λ p. is_write_under k (slice_get hs p) && marked_places marks p) (length hs) → (p : ℕ) → marked_places xs p ≡ (is_write_under k (slice_get hs p) && marked_places marks p)
under_all hs marks xs k m p =
    elim (cases_lt p (length hs)) [
      | inl inside ↦ m.marks p inside
      | inr past ↦ marked_past xs p (omega (arith, m.len)) ∙ sym (ap (λ b. b && marked_places marks p) (write_past hs p k past))
    ]

-- ---- what marks give

-- at a write under the key the mark tells, and at all other places the set has nothing
pub given : (hs : List Happening) (marks : List Bool) (v : Knowledge) (k : Key) (p : ℕ) → GivesSets hs marks v → is_write_under k (slice_get hs p) ≡ true → marked_places marks p ≡ v k p
given hs marks v k p g e = ap (λ b. b && marked_places marks p) (sym e) ∙ g.gives k p

pub absent : (hs : List Happening) (marks : List Bool) (v : Knowledge) (k : Key) (p : ℕ) → GivesSets hs marks v → is_write_under k (slice_get hs p) ≡ false → v k p ≡ false
absent hs marks v k p g e = sym (g.gives k p) ∙ ap (λ b. b && marked_places marks p) e

-- the set of one key changes
pub record Changes (hs : List Happening) (new old : List Bool) (k : Key) (S : Places) : Type 0 where
  pub here : (p : ℕ) → p < length hs → is_write_under k (slice_get hs p) ≡ true → marked_places new p ≡ S p
  pub there : (p : ℕ) → p < length hs → is_write_under k (slice_get hs p) ≡ false → marked_places new p ≡ marked_places old p
  pub nowhere : (p : ℕ) → is_write_under k (slice_get hs p) ≡ false → S p ≡ false

changed_here : (hs : List Happening) (new old : List Bool) (k : Key) (S : Places) (p : ℕ) → Changes hs new old k S → (is_write_under k (slice_get hs p) && marked_places new p) ≡ S p
changed_here hs new old k S p c =
    elim (is_write_under k (slice_get hs p)) as (λ b. is_write_under k (slice_get hs p) ≡ b → (b && marked_places new p) ≡ S p) [
      | true ↦ λ e. c.here p (write_within hs p k e) e
      | false ↦ λ e. sym (c.nowhere p e)
    ] refl

changed_there : (hs : List Happening) (new old : List Bool) (v : Knowledge) (k l : Key) (S : Places) (p : ℕ) → GivesSets hs old v → Changes hs new old k S → key_eq l k ≡ false → (is_write_under l (slice_get hs p) && marked_places new p) ≡ v l p
changed_there hs new old v k l S p g c ne =
    elim (is_write_under l (slice_get hs p)) as (λ b. is_write_under l (slice_get hs p) ≡ b → (b && marked_places new p) ≡ v l p) [
      | true ↦ λ e. c.there p (write_within hs p l e) (write_other (slice_get hs p) l k e ne) ∙ given hs old v l p g e
      | false ↦ λ e. sym (absent hs old v l p g e)
    ] refl

pub gives_changed : (hs : List Happening) (new old : List Bool) (v : Knowledge) (k : Key) (S : Places) → GivesSets hs old v → Changes hs new old k S → GivesSets hs new (with_set v k S)
gives_changed hs new old v k S g c = record {
  gives = λ l p.
      elim (key_eq l k) as (λ b. key_eq l k ≡ b → (is_write_under l (slice_get hs p) && marked_places new p) ≡ cond b S (v l) p) [
        | true ↦ λ e. subst (λ j. (is_write_under j (slice_get hs p) && marked_places new p) ≡ S p) (sym (key_eq-true l k e)) (changed_here hs new old k S p c)
        | false ↦ λ e. changed_there hs new old v k l S p g c e
      ] refl;
}

-- the set of the key is replaced
pub gives_replaced : (hs : List Happening) (m old new : List Bool) (v w : Knowledge) (k : Key) → GivesSets hs old v → GivesSets hs new w → ((p : ℕ) → p < length hs → marked_places m p ≡ cond (is_write_under k (slice_get hs p)) (marked_places new p) (marked_places old p)) → GivesSets hs m (with_set v k (w k))
gives_replaced hs m old new v w k gv gw is =
    gives_changed hs m old v k (w k) gv (record {
      here = λ p lt e. is p lt ∙ ap (λ b. cond b (marked_places new p) (marked_places old p)) e ∙ given hs new w k p gw e;
      there = λ p lt e. is p lt ∙ ap (λ b. cond b (marked_places new p) (marked_places old p)) e;
      nowhere = λ p e. absent hs new w k p gw e;
    })

or_none : (a : Bool) → (a || false) ≡ a
or_none true = refl
or_none false = refl

or_all : (a b : Bool) → (a || (b || true)) ≡ true
or_all true b = refl
or_all false true = refl
or_all false false = refl

-- marks that stand in both or in the other at writes under the key
pub record Joined (hs : List Happening) (m a b : List Bool) (k : Key) : Type 0 where
  pub marks : (p : ℕ) → p < length hs → marked_places m p ≡ (marked_places a p || (is_write_under k (slice_get hs p) && marked_places b p))

pub joined : (hs : List Happening) (m a b under : List Bool) (k : Key) → ((p : ℕ) → p < length hs → marked_places m p ≡ (marked_places a p || marked_places under p)) → ((p : ℕ) → marked_places under p ≡ (is_write_under k (slice_get hs p) && marked_places b p)) → Joined hs m a b k
joined hs m a b under k both is = record { marks = λ p lt. both p lt ∙ ap (λ x. marked_places a p || x) (is p) }

joined_here : (hs : List Happening) (m a b : List Bool) (v w : Knowledge) (k : Key) (p : ℕ) → Joined hs m a b k → GivesSets hs a v → GivesSets hs b w → p < length hs → is_write_under k (slice_get hs p) ≡ true → marked_places m p ≡ (v k p || w k p)
joined_here hs m a b v w k p j gv gw lt e =
    j.marks p lt
    ∙ ap (λ x. marked_places a p || (x && marked_places b p)) e
    ∙ ap (λ x. x || marked_places b p) (given hs a v k p gv e)
    ∙ ap (λ x. v k p || x) (given hs b w k p gw e)

joined_there : (hs : List Happening) (m a b : List Bool) (k : Key) (p : ℕ) → Joined hs m a b k → p < length hs → is_write_under k (slice_get hs p) ≡ false → marked_places m p ≡ marked_places a p
joined_there hs m a b k p j lt e =
    j.marks p lt ∙ ap (λ x. marked_places a p || (x && marked_places b p)) e ∙ or_none (marked_places a p)

pub gives_joined : (hs : List Happening) (m a b : List Bool) (v w : Knowledge) (k : Key) → Joined hs m a b k → GivesSets hs a v → GivesSets hs b w → GivesSets hs m (with_set v k (union (v k) (w k)))
gives_joined hs m a b v w k j gv gw =
    gives_changed hs m a v k (union (v k) (w k)) gv (record {
      here = λ p lt e. joined_here hs m a b v w k p j gv gw lt e;
      there = λ p lt e. joined_there hs m a b k p j lt e;
      nowhere = λ p e. or_from (v k p) (w k p) (absent hs a v k p gv e) (absent hs b w k p gw e);
    })

-- one more mark
marked_same : (xs : List Bool) (place p : ℕ) → place < length xs → p ≡ place → marked_places (set xs place true) p ≡ true
marked_same xs place p lt e = ap (λ x. marked_places (set xs place true) x) e ∙ get_or-set_same xs place true false lt

marked_other : (xs : List Bool) (place p : ℕ) → (p ≡ place → ⊥) → marked_places (set xs place true) p ≡ marked_places xs p
marked_other xs place p ne = get_or-set_other xs place p true false ne

other_place : (hs : List Happening) (place p : ℕ) (k : Key) → is_write_under k (slice_get hs place) ≡ true → is_write_under k (slice_get hs p) ≡ false → p ≡ place → ⊥
other_place hs place p k e ne same = true≢false (sym e ∙ ap (λ x. is_write_under k (slice_get hs x)) (sym same) ∙ ne)

pub gives_write : (hs : List Happening) (m a b : List Bool) (v r : Knowledge) (k : Key) (place : ℕ) → Joined hs m a b k → length m ≡ length hs → place < length hs → is_write_under k (slice_get hs place) ≡ true → GivesSets hs a v → GivesSets hs b r → GivesSets hs (set m place true) (with_set v k (union (v k) (union (r k) (singleton place))))
gives_write hs m a b v r k place j len inside write gv gr =
    gives_changed hs (set m place true) a v k (union (v k) (union (r k) (singleton place))) gv (record {
      here = λ p lt e.
          elim (cases_eq p place) [
            | inl same ↦ marked_same m place p (omega arith) same ∙ sym (ap (λ x. v k p || (r k p || x)) (eq-eqb p place same) ∙ or_all (v k p) (r k p))
            | inr ne ↦
                marked_other m place p ne
                ∙ joined_here hs m a b v r k p j gv gr lt e
                ∙ sym (ap (λ x. v k p || (r k p || x)) (ne_eqb p place ne) ∙ ap (λ x. v k p || x) (or_none (r k p)))
          ];
      there = λ p lt e. marked_other m place p (other_place hs place p k write e) ∙ joined_there hs m a b k p j lt e;
      nowhere = λ p e.
          or_from (v k p) (r k p || (p == place)) (absent hs a v k p gv e)
          (or_from (r k p) (p == place) (absent hs b r k p gr e) (ne_eqb p place (other_place hs place p k write e)));
    })
