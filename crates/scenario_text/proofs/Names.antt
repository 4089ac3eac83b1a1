-- Names: parts between slashes.
use Rattle.std.proofs.Common.{◌≡◌, ◌⊎◌, inl, inr, ℕ, true, false, ◌&&◌, if◌then◌else◌, ◌==◌, List, [], ◌∷◌, ◌++◌, All, Some, None, refl, sym, subst, ◌∙◌}
use Rattle.std.specs.List.{list_all}
use Rattle.std.proofs.lemmas.Bool.{and_parts, and_right, cases_Bool, false_from_ne_true, false≢true}
use Rattle.std.proofs.lemmas.List.Elements.{All-cons, All-nil}
use Rattle.printing.specs.Field.{is_plain, are_plain}
use Rattle.scenario_text.specs.Word.{key_of, parts_of, full_prefix_of}
use Rattle.scenario_text.proofs.Parts.{IsOther, parts_of-first, parts_of-only}

-- one part, or two at least
parts_of-cases : (separator : ℕ) (bytes : List ℕ) → (parts_of separator bytes ≡ bytes ∷ []) ⊎ ((p : List ℕ) × (q : List ℕ) × (rest : List (List ℕ)) × (parts_of separator bytes ≡ p ∷ q ∷ rest))
unfolding parts_of
parts_of-cases separator [] = inl refl
parts_of-cases separator (b ∷ bytes) = elim (cases_Bool (b == separator)) [
  | inl same ↦ elim (parts_of-cases separator bytes) [
    | inl one ↦ inr ([], bytes, [], rw (same, one) refl)
    | inr more ↦ inr ([], more.0, more.1 ∷ more.2, rw (same, more.3) refl)
  ]
  | inr other ↦ elim (parts_of-cases separator bytes) [
    | inl one ↦ inl (rw (other, one) refl)
    | inr more ↦ inr (b ∷ more.0, more.1, more.2, rw (other, more.3) refl)
  ]
]

pub plain_others : (bytes : List ℕ) → list_all is_plain bytes ≡ true → All (IsOther 47) bytes
plain_others [] plain = All-nil (IsOther 47)
plain_others (b ∷ bytes) plain =
    let parts = and_parts (is_plain b) (list_all is_plain bytes) plain in
    All-cons (IsOther 47) b bytes (λ slash. false≢true (subst (λ x. is_plain x ≡ true) slash parts.0)) (plain_others bytes parts.1)

-- plain bytes have no slash, so they are one part
are_plain-false : (bytes p q : List ℕ) (rest : List (List ℕ)) → parts_of 47 bytes ≡ p ∷ q ∷ rest → are_plain bytes ≡ false
are_plain-false bytes p q rest more =
    false_from_ne_true (are_plain bytes)
    (λ plain. cc (sym (parts_of-only 47 bytes (plain_others bytes (and_parts _ (list_all is_plain bytes) plain).1)) ∙ more))

pub full_prefix_of-one : (word : List ℕ) → All (IsOther 47) word → full_prefix_of word ≡ None
full_prefix_of-one word one = rw (parts_of-only 47 word one) refl

pub full_prefix_of-two : (word a b : List ℕ) → All (IsOther 47) a → word ≡ a ++ 47 ∷ b → full_prefix_of word ≡ (if are_plain a && are_plain b then Some (record { prefix = a; sub = b }) else None)
full_prefix_of-two word a b one is =
    rw (is, parts_of-first 47 a b one)
    (elim (parts_of-cases 47 b) [
      | inl only ↦ rw only refl
      | inr more ↦ rw (more.3, and_right (are_plain a) (are_plain b) (are_plain-false b more.0 more.1 more.2 more.3)) refl
    ])

pub key_of-one : (word : List ℕ) → All (IsOther 47) word → key_of word ≡ None
key_of-one word one = rw (parts_of-only 47 word one) refl

pub key_of-two : (word a b : List ℕ) → All (IsOther 47) a → word ≡ a ++ 47 ∷ b → All (IsOther 47) b → key_of word ≡ None
key_of-two word a b one is two = rw (is, parts_of-first 47 a b one, parts_of-only 47 b two) refl

pub key_of-three : (word a rest b c : List ℕ) → All (IsOther 47) a → word ≡ a ++ 47 ∷ rest → All (IsOther 47) b → rest ≡ b ++ 47 ∷ c
    → key_of word ≡ (if are_plain a && (are_plain b && are_plain c) then Some (record { prefix = record { prefix = a; sub = b }; key = c }) else None)
key_of-three word a rest b c one is two rest_is =
    rw (is, parts_of-first 47 a rest one, rest_is, parts_of-first 47 b c two)
    (elim (parts_of-cases 47 c) [
      | inl only ↦ rw only refl
      | inr more ↦
          let no = are_plain-false c more.0 more.1 more.2 more.3 in
          rw (more.3, and_right (are_plain a) (are_plain b && are_plain c) (and_right (are_plain b) (are_plain c) no)) refl
    ])
