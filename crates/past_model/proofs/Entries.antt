-- An object of a set by its entries, and lists that are determined by what stands under each writer.
use Rattle.std.proofs.Common.{◌≡◌, ℕ, ◌+◌, ◌-◌, ◌<◌, ◌≤◌, true, false, cond, zero, suc, List, [], ◌∷◌, length, All, sym, ap, refl, subst, ◌∙◌, arith, ⊎_elim, Option, Some, None, map, eqb}
use Rattle.std.specs.Prelude.{◌&&◌, not, filter}
use Rattle.std.proofs.lemmas.Bool.{cases_eq, cases_lt, eqb-true, eq-eqb, ne_eqb, and_parts, and_from}
use Rattle.std.proofs.lemmas.List.Elements.{All-nil, All-cons, All-head, All-tail}
use Rattle.meta_types.specs.Name.{Key}
use Rattle.meta_types.specs.Value.{ValueParts}
use Rattle.dvvset.specs.Object.{Entry, Counter, RisesFrom, ids_counted}
use Rattle.dvvset.specs.Clock.{join, count_for}
use Rattle.dvvset.specs.Writer.{entry_of, shown}
use Rattle.dvvset.proofs.Objects.{ids_counted-join}
use Rattle.dvvset.proofs.Writers.{Rises, entry_of-low, count_at, count_of-entry}
use Rattle.past_model.specs.Sets.{Places}
use Rattle.past_model.specs.Past.{Write}
use Rattle.past_model.specs.Shown.{IsClosed, IsContext, IsObjectOf, was_read, is_sibling, count_in, siblings_by}
use Rattle.past_model.proofs.Older.{filter-mono}
use Rattle.past_model.proofs.Rendered.{entry_with}
use Rattle.past_model.proofs.Closed.{entry_in}

-- ---- lists by what stands under each writer

pub counter-low : (cs : List Counter) (low w : ℕ) → RisesFrom low (ids_counted cs) → w < low → count_for cs w ≡ 0
counter-low [] low w rises lt = refl
counter-low (c ∷ cs) low w rises lt =
    let first : low ≤ c.id = rises.0 in
    let other : (c.id ≡ w → ⊥) = λ e. absurd (omega arith) in
    rw (ne_eqb c.id w other) (counter-low cs (c.id + 1) w rises.1 (omega arith))

pub counter_first : (c : Counter) (cs : List Counter) → count_for (c ∷ cs) c.id ≡ c.count
counter_first c cs = ap (λ b. cond b c.count (count_for cs c.id)) (eq-eqb c.id c.id refl)

-- rising counters, none of them 0, that count the same for each writer are the same
pub same_counters : (cs ds : List Counter) (low : ℕ) → RisesFrom low (ids_counted cs) → RisesFrom low (ids_counted ds) → All (λ (c : Counter). 1 ≤ c.count) cs → All (λ (c : Counter). 1 ≤ c.count) ds → ((w : ℕ) → count_for cs w ≡ count_for ds w) → cs ≡ ds
same_counters [] [] low left right held also same = refl
same_counters [] (d ∷ ds) low left right held also same =
    let one : 1 ≤ d.count = All-head (λ (c : Counter). 1 ≤ c.count) d ds also in
    let none : 0 ≡ d.count = same d.id ∙ counter_first d ds in
    absurd (omega arith)
same_counters (c ∷ cs) [] low left right held also same =
    let one : 1 ≤ c.count = All-head (λ (c : Counter). 1 ≤ c.count) c cs held in
    let none : c.count ≡ 0 = sym (counter_first c cs) ∙ same c.id in
    absurd (omega arith)
same_counters (c ∷ cs) (d ∷ ds) low left right held also same =
    let one : 1 ≤ c.count = All-head (λ (c : Counter). 1 ≤ c.count) c cs held in
    let two : 1 ≤ d.count = All-head (λ (c : Counter). 1 ≤ c.count) d ds also in
    ⊎_elim
    (λ (lt : c.id < d.id).
    let none : c.count ≡ 0 = sym (counter_first c cs) ∙ same c.id ∙ counter-low (d ∷ ds) d.id c.id (omega arith, right.1) lt in
    absurd (omega arith))
    (λ ge.
    ⊎_elim
    (λ (lt : d.id < c.id).
    let none : d.count ≡ 0 = sym (counter_first d ds) ∙ sym (same d.id) ∙ counter-low (c ∷ cs) c.id d.id (omega arith, left.1) lt in
    absurd (omega arith))
    (λ le.
    let id : c.id ≡ d.id = omega arith in
    let count : c.count ≡ d.count = sym (counter_first c cs) ∙ same c.id ∙ ap (λ i. count_for (d ∷ ds) i) id ∙ counter_first d ds in
    let rest : (w : ℕ) → count_for cs w ≡ count_for ds w = λ w.
    ⊎_elim
    (λ e.
    let below : w < c.id + 1 = omega arith in
    counter-low cs (c.id + 1) w left.1 below ∙ sym (counter-low ds (d.id + 1) w right.1 (omega arith)))
    (λ ne.
    let there : (d.id ≡ w → ⊥) = λ e. ne (id ∙ e) in
    sym (ap (λ b. cond b c.count (count_for cs w)) (ne_eqb c.id w ne)) ∙ same w ∙ ap (λ b. cond b d.count (count_for ds w)) (ne_eqb d.id w there))
    (cases_eq c.id w) in
    λ i. record { id = id i; count = count i }
    ∷ same_counters cs ds (c.id + 1) left.1 (subst (λ n. RisesFrom (n + 1) (ids_counted ds)) (sym id) right.1)
    (All-tail (λ (c : Counter). 1 ≤ c.count) c cs held) (All-tail (λ (c : Counter). 1 ≤ c.count) d ds also) rest i)
    (cases_lt d.id c.id))
    (cases_lt c.id d.id)

shown_first : (x : Entry) (xs : List Entry) → shown (entry_of (x ∷ xs) x.id) ≡ x.values
shown_first x xs = ap (λ b. shown (cond b (Some x) (entry_of xs x.id))) (eq-eqb x.id x.id refl)

-- what a list shows after its first entry
shown_behind : (x : Entry) (xs : List Entry) (w : ℕ) → (x.id ≡ w → ⊥) → shown (entry_of (x ∷ xs) w) ≡ shown (entry_of xs w)
shown_behind x xs w ne = ap (λ b. shown (cond b (Some x) (entry_of xs w))) (ne_eqb x.id w ne)

-- an entry's part of the vector
abbrev pub counter_from : Entry → Counter
counter_from e = record { id = e.id; count = e.count }

-- rising lists with the same vector that show the same of each writer are the same
pub same_shown : (xs ys : List Entry) (low : ℕ) → Rises low xs → Rises low ys → join xs ≡ join ys → ((w : ℕ) → shown (entry_of xs w) ≡ shown (entry_of ys w)) → xs ≡ ys
same_shown [] [] low left right vector same = refl
same_shown [] (y ∷ ys) low left right vector same = absurd (cc)
same_shown (x ∷ xs) [] low left right vector same = absurd (cc)
same_shown (x ∷ xs) (y ∷ ys) low left right vector same =
    let one : counter_from x ≡ counter_from y = cc in
    let others : join xs ≡ join ys = cc in
    let id : x.id ≡ y.id = ap (λ (c : Counter). c.id) one in
    let count : x.count ≡ y.count = ap (λ (c : Counter). c.count) one in
    let values : x.values ≡ y.values = sym (shown_first x xs) ∙ same x.id ∙ ap (λ i. shown (entry_of (y ∷ ys) i)) id ∙ shown_first y ys in
    let rest : (w : ℕ) → shown (entry_of xs w) ≡ shown (entry_of ys w) = λ w.
    ⊎_elim
    (λ e.
    let below : w < x.id + 1 = omega arith in
    ap shown (entry_of-low xs (x.id + 1) w left.1 below) ∙ sym (ap shown (entry_of-low ys (y.id + 1) w right.1 (omega arith))))
    (λ ne. sym (shown_behind x xs w ne) ∙ same w ∙ shown_behind y ys w (λ e. ne (id ∙ e)))
    (cases_eq x.id w) in
    λ i. record { id = id i; count = count i; values = values i }
    ∷ same_shown xs ys (x.id + 1) left.1 (subst (λ n. Rises (n + 1) ys) (sym id) right.1) others rest i

-- ---- an object of a set by its entries

-- the ids rise, and each writer's entry is that of the set
pub record HasEntries (ws : List Write) (S : Places) (es : List Entry) : Type 0 where
  pub rises : Rises 0 es
  pub entries : (w : ℕ) → entry_of es w ≡ entry_in ws S w

pub entry_with-shown : (w n : ℕ) (values : List ValueParts) → (n ≡ 0 → values ≡ []) → shown (entry_with w n values) ≡ values
entry_with-shown w zero values none = sym (none refl)
entry_with-shown w (suc n) values none = refl

pub entry_with-count : (w n : ℕ) (values : List ValueParts) → count_at (entry_with w n values) ≡ n
entry_with-count w zero values = refl
entry_with-count w (suc n) values = refl

pub entry_with-id : (w n : ℕ) (values : List ValueParts) (e : Entry) → entry_with w n values ≡ Some e → e.id ≡ w
entry_with-id w zero values e h = absurd (cc)
entry_with-id w (suc n) values e h = let same : record { id = w; count = suc n; values = values } ≡ e = cc in sym (ap (λ x. x.id) same)

pub entry_with-held : (w n : ℕ) (values : List ValueParts) (e : Entry) → entry_with w n values ≡ Some e → 1 ≤ e.count
entry_with-held w zero values e h = absurd (cc)
entry_with-held w (suc n) values e h =
    let same : record { id = w; count = suc n; values = values } ≡ e = cc in
    let count : suc n ≡ e.count = ap (λ x. x.count) same in omega arith

-- a list without length is empty
pub none_long : {X : Type 0} (xs : List X) → length xs ≤ 0 → xs ≡ []
none_long [] le = refl
none_long (x ∷ xs) le = absurd (omega arith)

-- who has no write in the set has no sibling there
pub no_siblings : (ws : List Write) (S : Places) (w : ℕ) → count_in ws S w ≡ 0 → siblings_by ws S w ≡ []
no_siblings ws S w none =
    let le : length (filter (λ x. eqb x.writer w && is_sibling ws S x) ws) ≤ count_in ws S w =
    filter-mono (λ x. eqb x.writer w && is_sibling ws S x) (λ x. eqb x.writer w && S x.place)
    (λ x e.
    let parts : (eqb x.writer w ≡ true) × (is_sibling ws S x ≡ true) = and_parts (eqb x.writer w) (is_sibling ws S x) e in
    and_from (eqb x.writer w) (S x.place) parts.0 (and_parts (S x.place) (not (was_read ws S x.place)) parts.1).0) ws in
    ap (λ l. map (λ x. x.value) l) (none_long (filter (λ x. eqb x.writer w && is_sibling ws S x) ws) (omega arith))

pub entry_in-shown : (ws : List Write) (S : Places) (w : ℕ) → shown (entry_in ws S w) ≡ siblings_by ws S w
entry_in-shown ws S w = entry_with-shown w (count_in ws S w) (siblings_by ws S w) (no_siblings ws S w)

-- an entry with an event, by its parts
entry_by_parts : (o : Option Entry) (w n : ℕ) (values : List ValueParts) → ((e : Entry) → o ≡ Some e → (e.id ≡ w) × (1 ≤ e.count)) → count_at o ≡ n → shown o ≡ values → o ≡ entry_with w n values
entry_by_parts None w n values is count shows = λ i. entry_with w (count i) values
entry_by_parts (Some e) w n values is count shows =
    let parts : (e.id ≡ w) × (1 ≤ e.count) = is e refl in
    let more : e.count ≡ suc (e.count - 1) = let one = parts.1 in omega arith in
    (λ i. Some (record { id = parts.0 i; count = more i; values = shows i }))
    ∙ (λ i. entry_with w (sym more i) values) ∙ (λ i. entry_with w (count i) values)

-- an entry of a list is that of its writer, and is held if all counters are
entry_is : (es : List Entry) (w : ℕ) (e : Entry) → All (λ (c : Counter). 1 ≤ c.count) (join es) → entry_of es w ≡ Some e → (e.id ≡ w) × (1 ≤ e.count)
entry_is [] w e held h = absurd (cc)
entry_is (x ∷ xs) w e held h =
    elim (eqb x.id w) as (λ b. eqb x.id w ≡ b → cond b (Some x) (entry_of xs w) ≡ Some e → (e.id ≡ w) × (1 ≤ e.count)) [
      | true ↦ λ f g.
          let same : x ≡ e = cc in
          let one : 1 ≤ x.count = All-head (λ (c : Counter). 1 ≤ c.count) (counter_from x) (join xs) held in
          (ap (λ y. y.id) (sym same) ∙ eqb-true x.id w f, subst (λ y. 1 ≤ y.count) same one)
      | false ↦ λ f g. entry_is xs w e (All-tail (λ (c : Counter). 1 ≤ c.count) (counter_from x) (join xs) held) g
    ] refl h

pub entries_of_object : (ws : List Write) (k : Key) (S : Places) (es : List Entry) → IsObjectOf ws k S es → HasEntries ws S es
entries_of_object ws k S es object = record {
  rises = subst (λ ns. RisesFrom 0 ns) (ids_counted-join es) object.context.rising;
  entries = λ w.
      entry_by_parts (entry_of es w) w (count_in ws S w) (siblings_by ws S w) (λ e h. entry_is es w e object.context.held h)
      (sym (count_of-entry es w) ∙ object.context.counts w) (object.siblings w);
}

-- the counters of entries that are held
held_from : (es : List Entry) (low : ℕ) → Rises low es → ((w : ℕ) (e : Entry) → entry_of es w ≡ Some e → 1 ≤ e.count) → All (λ (c : Counter). 1 ≤ c.count) (join es)
held_from [] low rises held = All-nil (λ (c : Counter). 1 ≤ c.count)
held_from (x ∷ xs) low rises held =
    All-cons (λ (c : Counter). 1 ≤ c.count) (counter_from x) (join xs)
    (held x.id x (ap (λ b. cond b (Some x) (entry_of xs x.id)) (eq-eqb x.id x.id refl)))
    (held_from xs (x.id + 1) rises.1
    (λ w e h.
    ⊎_elim
    (λ f. let below : w < x.id + 1 = omega arith in let clash : None ≡ Some e = sym (entry_of-low xs (x.id + 1) w rises.1 below) ∙ h in absurd cc)
    (λ ne. held w e (ap (λ b. cond b (Some x) (entry_of xs w)) (ne_eqb x.id w ne) ∙ h))
    (cases_eq x.id w)))

pub object_from_entries : (ws : List Write) (k : Key) (S : Places) (es : List Entry) → IsClosed ws k S → HasEntries ws S es → IsObjectOf ws k S es
object_from_entries ws k S es closed has = record {
  closed = closed;
  context = record {
    rising = subst (λ ns. RisesFrom 0 ns) (sym (ids_counted-join es)) has.rises;
    counts = λ w. count_of-entry es w ∙ ap count_at (has.entries w) ∙ entry_with-count w (count_in ws S w) (siblings_by ws S w);
    held = held_from es 0 has.rises (λ w e h. entry_with-held w (count_in ws S w) (siblings_by ws S w) e (sym (has.entries w) ∙ h));
  };
  siblings = λ w. ap shown (has.entries w) ∙ entry_in-shown ws S w;
}

-- a set has one context, and one object
pub one_context : (ws : List Write) (S : Places) (cs ds : List Counter) → IsContext ws S cs → IsContext ws S ds → cs ≡ ds
one_context ws S cs ds left right = same_counters cs ds 0 left.rising right.rising left.held right.held (λ w. left.counts w ∙ sym (right.counts w))

pub one_object : (ws : List Write) (k : Key) (S : Places) (a b : List Entry) → IsObjectOf ws k S a → IsObjectOf ws k S b → a ≡ b
one_object ws k S a b left right =
    same_shown a b 0 (subst (λ ns. RisesFrom 0 ns) (ids_counted-join a) left.context.rising) (subst (λ ns. RisesFrom 0 ns) (ids_counted-join b) right.context.rising)
    (one_context ws S (join a) (join b) left.context right.context) (λ w. left.siblings w ∙ sym (right.siblings w))
