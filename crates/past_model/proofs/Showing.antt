-- The values of an object are those of the siblings of its set, and a set has one list of siblings.
use Rattle.std.proofs.Common.{◌≡◌, ℕ, ◌+◌, ◌<◌, ◌≤◌, Bool, true, false, cond, zero, suc, List, [], ◌∷◌, ◌++◌, sym, ap, refl, subst, ◌∙◌, arith, ⊎_elim, inl, inr, Some, None, map, eqb}
use Rattle.std.specs.Prelude.{◌&&◌, not, filter, ◌⊎◌}
use Rattle.std.proofs.lemmas.Bool.{cases_eq, eqb-true, eq-eqb, ne_eqb, and_parts, and_from}
use Rattle.std.proofs.lemmas.List.Concat.{flat_map-cons}
use Rattle.meta_types.specs.Name.{Key}
use Rattle.meta_types.specs.Value.{ValueParts}
use Rattle.dvvset.specs.Object.{Entry}
use Rattle.dvvset.specs.Clock.{values_of}
use Rattle.dvvset.specs.Writer.{entry_of, shown}
use Rattle.dvvset.proofs.Writers.{Rises, entry_of-low}
use Rattle.past_model.specs.Sets.{Places}
use Rattle.past_model.specs.Past.{Write, In}
use Rattle.past_model.specs.Shown.{IsObjectOf, was_read, is_sibling, count_in, siblings_by, ComesBefore, InOrder, Shows}
use Rattle.past_model.proofs.Orderly.{IsFalling}
use Rattle.past_model.proofs.Members.{in_filter, of_filter, member_counts}
use Rattle.past_model.proofs.Rendered.{entry_with}
use Rattle.past_model.proofs.Entries.{HasEntries, entries_of_object}

-- ---- lists in order

pub in_append : (xs ys : List Write) (x : Write) → In x (xs ++ ys) → In x xs ⊎ In x ys
in_append [] ys x m = inr m
in_append (z ∷ zs) ys x m = ⊎_elim (λ here. inl (inl here)) (λ later. ⊎_elim (λ h. inl (inr h)) (λ h. inr h) (in_append zs ys x later)) m

pub append_left : (xs ys : List Write) (x : Write) → In x xs → In x (xs ++ ys)
append_left [] ys x m = absurd m
append_left (z ∷ zs) ys x m = ⊎_elim (λ here. inl here) (λ later. inr (append_left zs ys x later)) m

pub append_right : (xs ys : List Write) (x : Write) → In x ys → In x (xs ++ ys)
append_right [] ys x m = m
append_right (z ∷ zs) ys x m = inr (append_right zs ys x m)

pub order_append : (xs ys : List Write) → InOrder xs → InOrder ys → ((x y : Write) → In x xs → In y ys → ComesBefore x y) → InOrder (xs ++ ys)
order_append [] ys left right before = right
order_append (z ∷ zs) ys left right before = (
  λ y m. ⊎_elim (λ h. left.0 y h) (λ h. before z y (inl refl) h) (in_append zs ys y m),
  order_append zs ys left.1 right (λ x y m n. before x y (inr m) n),
)

-- a list of one writer's writes that falls is in order
pub order_filter : (w : ℕ) (P : Write → Bool) (ws : List Write) → IsFalling ws → InOrder (filter (λ x. eqb x.writer w && P x) ws)
order_filter w P [] falling = tt
order_filter w P (x ∷ xs) falling =
    elim (eqb x.writer w && P x) as (λ b. (eqb x.writer w && P x) ≡ b → InOrder (cond b (x ∷ filter (λ x. eqb x.writer w && P x) xs) (filter (λ x. eqb x.writer w && P x) xs))) [
      | true ↦ λ e. (
        λ y m.
            let found : In y xs × ((eqb y.writer w && P y) ≡ true) = of_filter (λ x. eqb x.writer w && P x) xs y m in
            let mine : x.writer ≡ w = eqb-true x.writer w (and_parts (eqb x.writer w) (P x) e).0 in
            let theirs : y.writer ≡ w = eqb-true y.writer w (and_parts (eqb y.writer w) (P y) found.1).0 in
            inr (mine ∙ sym theirs, falling.0.all y found.0),
        order_filter w P xs falling.1,
      )
      | false ↦ λ e. order_filter w P xs falling.1
    ] refl

not_both : (x y : Write) → ComesBefore x y → ComesBefore y x → ⊥
not_both x y there back =
    ⊎_elim
    (λ (lt : x.writer < y.writer). ⊎_elim (λ (gt : y.writer < x.writer). absurd (omega arith)) (λ e. let same : y.writer ≡ x.writer = e.0 in absurd (omega arith)) back)
    (λ e.
    let same : x.writer ≡ y.writer = e.0 in
    let lt : y.place < x.place = e.1 in
    ⊎_elim (λ (gt : y.writer < x.writer). absurd (omega arith)) (λ f. let gt : x.place < y.place = f.1 in absurd (omega arith)) back)
    there

-- lists in order with the same members are the same
pub same_members : (xs ys : List Write) → InOrder xs → InOrder ys → ((x : Write) → In x xs → In x ys) → ((x : Write) → In x ys → In x xs) → xs ≡ ys
same_members [] [] left right there back = refl
same_members [] (y ∷ ys) left right there back = absurd (back y (inl refl))
same_members (x ∷ xs) [] left right there back = absurd (there x (inl refl))
same_members (x ∷ xs) (y ∷ ys) left right there back =
    let first : x ≡ y =
    ⊎_elim (λ here. here)
    (λ later. ⊎_elim (λ here. sym here) (λ also. absurd (not_both x y (left.0 y also) (right.0 x later))) (back y (inl refl)))
    (there x (inl refl)) in
    let forth : (z : Write) → In z xs → In z ys = λ z m.
    ⊎_elim
    (λ here. let twice : ComesBefore z z = subst (λ u. ComesBefore u z) (first ∙ sym here) (left.0 z m) in absurd (not_both z z twice twice))
    (λ later. later) (there z (inr m)) in
    let home : (z : Write) → In z ys → In z xs = λ z m.
    ⊎_elim
    (λ here. let twice : ComesBefore z z = subst (λ u. ComesBefore u z) (sym first ∙ sym here) (right.0 z m) in absurd (not_both z z twice twice))
    (λ later. later) (back z (inr m)) in
    λ i. first i ∷ same_members xs ys left.1 right.1 forth home i

-- a set has one list of siblings, and shows one list of values
pub one_list : (ws : List Write) (S : Places) (vs us : List ValueParts) → Shows ws S vs → Shows ws S us → vs ≡ us
one_list ws S vs us left right =
    let same : left.siblings ≡ right.siblings =
    same_members left.siblings right.siblings left.are.ordered right.are.ordered
    (λ x m. (right.are.members x).1 ((left.are.members x).0 m))
    (λ x m. (left.are.members x).1 ((right.are.members x).0 m)) in
    left.of_siblings ∙ ap (λ l. map (λ x. x.value) l) same ∙ sym right.of_siblings

-- ---- the siblings of an object's set

-- a writer's siblings
abbrev pub sibling_writes : List Write → Places → ℕ → List Write
sibling_writes ws S w = filter (λ x. eqb x.writer w && is_sibling ws S x) ws

-- the siblings, entry by entry
abbrev pub siblings_of : List Write → Places → List Entry → List Write
siblings_of ws S [] = []
siblings_of ws S (e ∷ es) = sibling_writes ws S e.id ++ siblings_of ws S es

siblings_are : (ws : List Write) (S : Places) (es : List Entry) (x : Write) → In x (siblings_of ws S es) → In x ws × (is_sibling ws S x ≡ true)
siblings_are ws S [] x m = absurd m
siblings_are ws S (e ∷ es) x m =
    ⊎_elim
    (λ h.
    let found : In x ws × ((eqb x.writer e.id && is_sibling ws S x) ≡ true) = of_filter (λ x. eqb x.writer e.id && is_sibling ws S x) ws x h in
    (found.0, (and_parts (eqb x.writer e.id) (is_sibling ws S x) found.1).1))
    (λ h. siblings_are ws S es x h)
    (in_append (sibling_writes ws S e.id) (siblings_of ws S es) x m)

-- the writers rise with the entries
siblings_from : (ws : List Write) (S : Places) (es : List Entry) (low : ℕ) (x : Write) → Rises low es → In x (siblings_of ws S es) → low ≤ x.writer
siblings_from ws S [] low x rises m = absurd m
siblings_from ws S (e ∷ es) low x rises m =
    let first : low ≤ e.id = rises.0 in
    ⊎_elim
    (λ h.
    let found : In x ws × ((eqb x.writer e.id && is_sibling ws S x) ≡ true) = of_filter (λ x. eqb x.writer e.id && is_sibling ws S x) ws x h in
    let writer : x.writer ≡ e.id = eqb-true x.writer e.id (and_parts (eqb x.writer e.id) (is_sibling ws S x) found.1).0 in
    omega arith)
    (λ h. let later : e.id + 1 ≤ x.writer = siblings_from ws S es (e.id + 1) x rises.1 h in omega arith)
    (in_append (sibling_writes ws S e.id) (siblings_of ws S es) x m)

siblings_ordered : (ws : List Write) (S : Places) (es : List Entry) (low : ℕ) → IsFalling ws → Rises low es → InOrder (siblings_of ws S es)
siblings_ordered ws S [] low falling rises = tt
siblings_ordered ws S (e ∷ es) low falling rises =
    order_append (sibling_writes ws S e.id) (siblings_of ws S es) (order_filter e.id (is_sibling ws S) ws falling) (siblings_ordered ws S es (e.id + 1) falling rises.1)
    (λ x y m n.
    let found : In x ws × ((eqb x.writer e.id && is_sibling ws S x) ≡ true) = of_filter (λ x. eqb x.writer e.id && is_sibling ws S x) ws x m in
    let writer : x.writer ≡ e.id = eqb-true x.writer e.id (and_parts (eqb x.writer e.id) (is_sibling ws S x) found.1).0 in
    let later : e.id + 1 ≤ y.writer = siblings_from ws S es (e.id + 1) y rises.1 n in
    let lt : x.writer < y.writer = omega arith in
    inl lt)

-- a sibling whose writer has an entry is among them
siblings_all : (ws : List Write) (S : Places) (es : List Entry) (x : Write) → In x ws → is_sibling ws S x ≡ true → (entry_of es x.writer ≡ None → ⊥) → In x (siblings_of ws S es)
siblings_all ws S [] x m e some = absurd (some refl)
siblings_all ws S (y ∷ ys) x m e some =
    ⊎_elim
    (λ (same : y.id ≡ x.writer).
    append_left (sibling_writes ws S y.id) (siblings_of ws S ys) x
    (in_filter (λ x. eqb x.writer y.id && is_sibling ws S x) ws x m (and_from (eqb x.writer y.id) (is_sibling ws S x) (eq-eqb x.writer y.id (sym same)) e)))
    (λ ne.
    append_right (sibling_writes ws S y.id) (siblings_of ws S ys) x
    (siblings_all ws S ys x m e (λ none. some (ap (λ b. cond b (Some y) (entry_of ys x.writer)) (ne_eqb y.id x.writer ne) ∙ none))))
    (cases_eq y.id x.writer)

map_append : (xs ys : List Write) → map (λ x. x.value) (xs ++ ys) ≡ map (λ x. x.value) xs ++ map (λ x. x.value) ys
map_append [] ys = refl
map_append (x ∷ xs) ys = ap (λ l. x.value ∷ l) (map_append xs ys)

-- entries that show their writers' siblings
siblings_values : (ws : List Write) (S : Places) (es : List Entry) (low : ℕ) → Rises low es → ((w : ℕ) (e : Entry) → entry_of es w ≡ Some e → e.values ≡ siblings_by ws S w) → values_of es ≡ map (λ x. x.value) (siblings_of ws S es)
siblings_values ws S [] low rises shows = refl
siblings_values ws S (e ∷ es) low rises shows =
    let here : e.values ≡ siblings_by ws S e.id = shows e.id e (ap (λ b. cond b (Some e) (entry_of es e.id)) (eq-eqb e.id e.id refl)) in
    let rest : values_of es ≡ map (λ x. x.value) (siblings_of ws S es) =
    siblings_values ws S es (e.id + 1) rises.1
    (λ w x h.
    ⊎_elim
    (λ f. let below : w < e.id + 1 = omega arith in let clash : None ≡ Some x = sym (entry_of-low es (e.id + 1) w rises.1 below) ∙ h in absurd cc)
    (λ ne. shows w x (ap (λ b. cond b (Some e) (entry_of es w)) (ne_eqb e.id w ne) ∙ h))
    (cases_eq e.id w)) in
    flat_map-cons (λ (x : Entry). x.values) e es ∙ (λ i. here i ++ rest i) ∙ sym (map_append (sibling_writes ws S e.id) (siblings_of ws S es))

-- a writer with a sibling has an entry
entry_with-some : (w n : ℕ) (values : List ValueParts) → 1 ≤ n → entry_with w n values ≡ None → ⊥
entry_with-some w zero values le e = absurd (omega arith)
entry_with-some w (suc n) values le e = absurd (cc)

pub object_shows : (ws : List Write) (k : Key) (S : Places) (a : List Entry) → IsFalling ws → IsObjectOf ws k S a → Shows ws S (values_of a)
object_shows ws k S a falling object =
    let has : HasEntries ws S a = entries_of_object ws k S a object in
    record {
      siblings = siblings_of ws S a;
      are = record {
        members = λ x. (
          λ m. siblings_are ws S a x m,
          λ m.
              let inside : S x.place ≡ true = (and_parts (S x.place) (not (was_read ws S x.place)) m.1).0 in
              let counted : 1 ≤ count_in ws S x.writer =
              member_counts (filter (λ y. eqb y.writer x.writer && S y.place) ws) x
              (in_filter (λ y. eqb y.writer x.writer && S y.place) ws x m.0 (and_from (eqb x.writer x.writer) (S x.place) (eq-eqb x.writer x.writer refl) inside)) in
              siblings_all ws S a x m.0 m.1
              (λ none. entry_with-some x.writer (count_in ws S x.writer) (siblings_by ws S x.writer) counted (sym (has.entries x.writer) ∙ none)),
        );
        ordered = siblings_ordered ws S a 0 falling has.rises;
      };
      of_siblings = siblings_values ws S a 0 has.rises (λ w e h. sym (ap shown h) ∙ object.siblings w);
    }
