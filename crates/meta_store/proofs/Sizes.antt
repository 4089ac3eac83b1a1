-- Objects that are within a length have a spelling in frames, and what a write leaves shows a value.
use Rattle.std.proofs.Common.{◌≡◌, ℕ, ◌≤◌, ◌==◌, Bool, true, not, ◌&&◌, List, [], ◌∷◌, ◌++◌, length, All, refl, ap, ◌∙◌, arith, leb}
use Rattle.std.specs.Cmp.{first_so, second_so}
use Rattle.std.specs.List.{list_all}
use Rattle.std.proofs.lemmas.Bool.{and_from, leb-true, le-leb, ne_eqb}
use Rattle.std.proofs.lemmas.List.Elements.{All-cons, All-nil}
use Rattle.meta_types.specs.Value.{ValueParts}
use Rattle.dvvset.specs.Object.{Entry, IsObject}
use Rattle.dvvset.specs.Clock.{values_of}
use Rattle.frame_fields.specs.Size.{IsShort}
use Rattle.frame_fields.specs.Field.{object, has_value, is_bare}
use Rattle.frame_fields.proofs.Spellable.{object_fits}
use Rattle.meta_store.specs.Table.{IsHeld, has_few_values, is_small_enough, most_entries, most_merged}

all_short : (es : List Entry) → list_all has_few_values es ≡ true → All IsShort es
all_short [] h = All-nil IsShort
all_short (e ∷ es) h =
    let few : length e.values ≤ 65535 = leb-true (length e.values) 65535 (first_so (has_few_values e) (list_all has_few_values es) h) in
    All-cons IsShort e es (omega (arith, few)) (all_short es (second_so (has_few_values e) (list_all has_few_values es) h))

-- what is small enough, part by part
pub record IsSmall (most : ℕ) (es : List Entry) : Type 0 where
  pub few : length es ≤ most_entries
  pub values : list_all has_few_values es ≡ true
  pub short : length (object.spell es) ≤ most

pub small_parts : (most : ℕ) (es : List Entry) → is_small_enough most es ≡ true → IsSmall most es
small_parts most es small =
    let few : Bool = leb (length es) most_entries in
    let values : Bool = list_all has_few_values es in
    let short : Bool = leb (length (object.spell es)) most in
    let rest : (values && short) ≡ true = second_so few (values && short) small in
    record {
      few = leb-true (length es) most_entries (first_so few (values && short) small);
      values = first_so values short rest;
      short = leb-true (length (object.spell es)) most (second_so values short rest);
    }

-- it has a spelling
pub few_values_fit : (es : List Entry) → IsObject es → has_value es ≡ true → length es ≤ most_entries → list_all has_few_values es ≡ true → object.Fits es
few_values_fit es is shows few values = object_fits es is (omega (arith, few)) (all_short es values) shows

pub held_fits : (es : List Entry) → IsHeld es → object.Fits es
held_fits es is = let small = small_parts most_merged es is.small in few_values_fit es is.lawful is.shows small.few small.values

-- an object that shows values has an entry that isn't bare
has_value_by : (e : Entry) (es : List Entry) (vs : List ValueParts) → e.values ≡ vs → (vs ≡ [] → has_value es ≡ true) → has_value (e ∷ es) ≡ true
has_value_by e es [] is rest = ap (λ (ws : List ValueParts). not ((length ws == 0) && list_all is_bare es)) is ∙ rest refl
has_value_by e es (v ∷ vs) is rest =
    ap (λ (ws : List ValueParts). not ((length ws == 0) && list_all is_bare es)) is
    ∙ ap (λ b. not (b && list_all is_bare es)) (ne_eqb (length (v ∷ vs)) 0 (λ e. absurd (omega (arith, e))))

pub has_value_from_values : (es : List Entry) → (values_of es ≡ [] → ⊥) → has_value es ≡ true
has_value_from_values [] shows = absurd (shows refl)
has_value_from_values (e ∷ es) shows =
    has_value_by e es e.values refl (λ none. has_value_from_values es (λ nothing. shows (ap (λ (vs : List ValueParts). vs ++ values_of es) none ∙ nothing)))

-- within a length that is no greater than another
pub small_more : (es : List Entry) (most more : ℕ) → most ≤ more → is_small_enough most es ≡ true → is_small_enough more es ≡ true
small_more es most more le small =
    let is = small_parts most es small in
    let short : length (object.spell es) ≤ more = let less : length (object.spell es) ≤ most = is.short in omega (arith, le, less) in
    and_from (leb (length es) most_entries) (list_all has_few_values es && leb (length (object.spell es)) more) (le-leb (length es) most_entries is.few)
    (and_from (list_all has_few_values es) (leb (length (object.spell es)) more) is.values (le-leb (length (object.spell es)) more short))
