-- A set with a write in it shows a value.
use Rattle.std.proofs.Common.{◌≡◌, ℕ, ◌<◌, ◌≤◌, true, false, List, [], ◌∷◌, sym, ap, refl, ◌∙◌, arith, ⊎_elim, inl, inr, map, eqb}
use Rattle.std.specs.Prelude.{◌&&◌, not, filter, ◌≢◌}
use Rattle.std.proofs.lemmas.Bool.{false≢true, false_from_ne_true, and_parts, and_from}
use Rattle.std.proofs.lemmas.List.Elements.{All-head}
use Rattle.meta_types.specs.Name.{Key}
use Rattle.dvvset.specs.Object.{Entry, Counter}
use Rattle.dvvset.specs.Clock.{join, values_of}
use Rattle.past_model.specs.Sets.{Places}
use Rattle.past_model.specs.Past.{Write, In}
use Rattle.past_model.specs.Shown.{IsObjectOf, was_read, is_sibling, count_in, Shows}
use Rattle.past_model.proofs.Orderly.{IsFalling, Ordered}
use Rattle.past_model.proofs.Members.{of_filter, counted_member}
use Rattle.past_model.proofs.Closed.{reader}
use Rattle.past_model.proofs.Entries.{counter_from, counter_first}
use Rattle.past_model.proofs.Showing.{object_shows}

-- the last write of a set
pub record IsLast (ws : List Write) (S : Places) (x : Write) : Type 0 where
  pub member : In x ws
  pub inside : S x.place ≡ true
  pub most : (q : Write) → In q ws → S q.place ≡ true → q.place ≤ x.place

pub last_of : (ws : List Write) (S : Places) (y : Write) → IsFalling ws → In y ws → S y.place ≡ true → (x : Write) × IsLast ws S x
last_of [] S y falling m e = absurd m
last_of (z ∷ zs) S y falling m e =
    elim (S z.place) as (λ b. S z.place ≡ b → (x : Write) × IsLast (z ∷ zs) S x) [
      | true ↦ λ h. (
        z,
        record {
          member = inl refl;
          inside = h;
          most = λ q i f.
              ⊎_elim (λ here. let at : q.place ≡ z.place = ap (λ v. v.place) here in omega arith)
              (λ later. let low : q.place < z.place = falling.0.all q later in omega arith) i;
        },
      )
      | false ↦ λ h.
          ⊎_elim
          (λ here. absurd (false≢true (sym h ∙ ap (λ v. S v.place) (sym here) ∙ e)))
          (λ later.
          let found : (x : Write) × IsLast zs S x = last_of zs S y falling.1 later e in (
            found.0,
            record {
              member = inr found.1.member;
              inside = found.1.inside;
              most = λ q i f.
                  ⊎_elim (λ here. absurd (false≢true (sym h ∙ ap (λ v. S v.place) (sym here) ∙ f))) (λ also. found.1.most q also f) i;
            },
          ))
          m
    ] refl

-- the last write of a set was read by none of it
pub last_unread : (ws : List Write) (S : Places) (x : Write) → Ordered ws → IsLast ws S x → was_read ws S x.place ≡ false
last_unread ws S x ordered top =
    false_from_ne_true (was_read ws S x.place)
    (λ e.
    let q : (q : Write) × (In q ws × ((S q.place ≡ true) × (q.read x.place ≡ true))) = reader ws S x.place e in
    let later : x.place < q.0.place = ordered.causal q.0 q.1.0 x.place q.1.1.1 in
    let most : q.0.place ≤ x.place = top.most q.0 q.1.0 q.1.1.0 in
    absurd (omega arith))

no_values : (xs : List Write) (x : Write) → map (λ y. y.value) xs ≡ [] → In x xs → ⊥
no_values [] x e m = m
no_values (y ∷ ys) x e m = absurd (cc)

pub shows_a_value : (ws : List Write) (k : Key) (S : Places) (a : List Entry) (p : ℕ) → Ordered ws → IsObjectOf ws k S a → S p ≡ true → values_of a ≡ [] → ⊥
shows_a_value ws k S a p ordered object e none =
    let found : (x : Write) × (In x ws × ((x.place ≡ p) × (x.key ≡ k))) = object.closed.of_writes p e in
    let last : (x : Write) × IsLast ws S x = last_of ws S found.0 ordered.falling found.1.0 (ap S found.1.1.0 ∙ e) in
    let sibling : is_sibling ws S last.0 ≡ true =
    and_from (S last.0.place) (not (was_read ws S last.0.place)) last.1.inside (ap not (last_unread ws S last.0 ordered last.1)) in
    let shows : Shows ws S (values_of a) = object_shows ws k S a ordered.falling object in
    no_values shows.siblings last.0 (sym shows.of_siblings ∙ none) ((shows.are.members last.0).1 (last.1.member, sibling))

-- an object with an entry has a write in its set
pub write_of_entry : (ws : List Write) (k : Key) (S : Places) (x : Entry) (xs : List Entry) → IsObjectOf ws k S (x ∷ xs) → (p : ℕ) × (S p ≡ true)
write_of_entry ws k S x xs object =
    let one : 1 ≤ x.count = All-head (λ (c : Counter). 1 ≤ c.count) (counter_from x) (join xs) object.context.held in
    let count : x.count ≡ count_in ws S x.id = sym (counter_first (counter_from x) (join xs)) ∙ object.context.counts x.id in
    let some : 1 ≤ count_in ws S x.id = omega arith in
    let found : (y : Write) × In y (filter (λ y. eqb y.writer x.id && S y.place) ws) = counted_member (filter (λ y. eqb y.writer x.id && S y.place) ws) some in
    let parts : In found.0 ws × ((eqb found.0.writer x.id && S found.0.place) ≡ true) = of_filter (λ y. eqb y.writer x.id && S y.place) ws found.0 found.1 in
    (found.0.place, (and_parts (eqb found.0.writer x.id) (S found.0.place) parts.1).1)

pub object_shows_a_value : (ws : List Write) (k : Key) (S : Places) (a : List Entry) → Ordered ws → IsObjectOf ws k S a → a ≢ [] → values_of a ≡ [] → ⊥
object_shows_a_value ws k S [] ordered object some none = some refl
object_shows_a_value ws k S (x ∷ xs) ordered object some none =
    let found : (p : ℕ) × (S p ≡ true) = write_of_entry ws k S x xs object in
    shows_a_value ws k S (x ∷ xs) found.0 ordered object found.1 none
