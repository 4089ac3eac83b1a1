-- What bytes are that open.
use Rattle.std.proofs.Common.{◌≡◌, ℕ, zero, suc, ◌<◌, Bool, true, false, List, [], ◌∷◌, length, map, All, Contains, get_or, inl, inr, refl, sym, ap, subst, ◌∙◌, arith}
use Rattle.std.specs.Prelude.{◌≢◌, ◌⊎◌}
use Rattle.std.specs.Str.{bytes_eq}
use Rattle.std.proofs.lemmas.Slice.Eq.{bytes_eq-Decides}
use Rattle.std.proofs.lemmas.List.Elements.{All-cons, All-contains, All-head, All-nil, All-tail, Contains-append_cases, Contains-append_left, Contains-append_right, Contains-push}
use Rattle.sealed_frames.specs.Seal.{IsKeyOf, IsSealed, IsSealedUnder, frame_in, seal_in, sealed_frame}
use Rattle.sealed_frames.specs.Forged.{IsForged, the_seal_is_new, two_share_a_seal}
use Rattle.sealed_frames.specs.declared.key.Keys.{Keys}
use Rattle.sealed_frames.proofs.Parts.{a_sealed_frame, frame_in-sealed_frame, same_bytes}

-- ---- what was sealed opens

pub is_sealed : (keys : Keys) (key frame bytes : List ℕ) → IsKeyOf keys key → bytes ≡ sealed_frame key frame → IsSealed keys bytes
is_sealed keys key frame bytes is_key whole = record {
  key = key;
  is_key = is_key;
  under = subst (IsSealedUnder key) (sym whole) (a_sealed_frame key frame);
}

pub frame_in_sealed : (key frame bytes : List ℕ) → bytes ≡ sealed_frame key frame → frame_in bytes ≡ frame
frame_in_sealed key frame bytes whole = ap frame_in whole ∙ frame_in-sealed_frame key frame

-- ---- what opens was sealed, or is forged

same_or_not_by : (one other : List ℕ) (b : Bool) → bytes_eq one other ≡ b → (one ≡ other) ⊎ (one ≢ other)
same_or_not_by one other true e = inl ((bytes_eq-Decides one other).0 e)
same_or_not_by one other false e = inr (λ same. let yes : bytes_eq one other ≡ true = (bytes_eq-Decides one other).1 same in cc)

same_or_not : (one other : List ℕ) → (one ≡ other) ⊎ (one ≢ other)
same_or_not one other = same_or_not_by one other (bytes_eq one other) refl

-- one of these byte strings ends with the seal, or none does
abbrev HasSeal : List (List ℕ) → List ℕ → Type 0
HasSeal sealed seal = (other : List ℕ) × (Contains sealed other × (seal ≡ seal_in other))

abbrev HasNot : List (List ℕ) → List ℕ → Type 0
HasNot sealed seal = (other : List ℕ) → Contains sealed other → seal ≢ seal_in other

the_one_at : (x other : List ℕ) (k : ℕ) → k < length (x ∷ []) → get_or (x ∷ []) k other ≡ other → x ≡ other
the_one_at x other zero low is = is
the_one_at x other (suc k) low is = absurd (omega arith)

the_one : (x other : List ℕ) → Contains (x ∷ []) other → x ≡ other
the_one x other is = the_one_at x other is.0 is.1 is.2

none_of_two : (seal x : List ℕ) (xs : List (List ℕ)) → seal ≢ seal_in x → HasNot xs seal → HasNot (x ∷ xs) seal
none_of_two seal x xs not_x not_xs other is =
    elim (Contains-append_cases (x ∷ []) xs other is) [
      | inl at ↦ λ same. not_x (same ∙ ap seal_in (sym (the_one x other at)))
      | inr at ↦ not_xs other at
    ]

looked_up : (sealed : List (List ℕ)) (seal : List ℕ) → HasSeal sealed seal ⊎ HasNot sealed seal
looked_up [] seal = inr (λ other is. absurd (let low = is.1 in omega (arith, low)))
looked_up (x ∷ xs) seal =
    elim (same_or_not seal (seal_in x)) [
      | inl same ↦ inl (x, (Contains-append_left (x ∷ []) xs x (Contains-push [] x), same))
      | inr differs ↦
          elim (looked_up xs seal) [
            | inl found ↦ inl (found.0, (Contains-append_right (x ∷ []) xs found.0 found.1.0, found.1.1))
            | inr none ↦ inr (none_of_two seal x xs differs none)
          ]
    ]

pub sealed_or_forged : (keys : Keys) (sealed : List (List ℕ)) (bytes : List ℕ) → All (IsSealed keys) sealed → IsSealed keys bytes → Contains sealed bytes ⊎ IsForged keys sealed bytes
sealed_or_forged keys sealed bytes all is =
    elim (looked_up sealed (seal_in bytes)) [
      | inl found ↦
          elim (same_or_not (frame_in bytes) (frame_in found.0)) [
            | inl same ↦ inl (subst (Contains sealed) (sym (same_bytes bytes found.0 same found.1.1)) found.1.0)
            | inr unequal ↦ inr (two_share_a_seal found.0 found.1.0 (record {
              one_is_sealed = is;
              other_is_sealed = All-contains (IsSealed keys) sealed found.0 all found.1.0;
              unequal = unequal;
              one_seal = found.1.1;
            }))
          ]
      | inr none ↦ inr (the_seal_is_new is none)
    ]

-- ---- what opens was sent, or is forged

abbrev Sent : Type 0
Sent = List ℕ × List ℕ

abbrev sealed_of : Sent → List ℕ
sealed_of s = sealed_frame s.0 s.1

abbrev frame_of : Sent → List ℕ
frame_of s = s.1

all_sealed : (keys : Keys) (sent : List Sent) → All (λ s. IsKeyOf keys s.0) sent → All (IsSealed keys) (map sealed_of sent)
all_sealed keys [] are = All-nil (IsSealed keys)
all_sealed keys (x ∷ xs) are =
    let is_key = All-head (λ (s : Sent). IsKeyOf keys s.0) x xs are in
    All-cons (IsSealed keys) (sealed_of x) (map sealed_of xs) (is_sealed keys x.0 x.1 (sealed_of x) is_key refl)
    (all_sealed keys xs (All-tail (λ (s : Sent). IsKeyOf keys s.0) x xs are))

was_sent : (sent : List Sent) (bytes : List ℕ) → Contains (map sealed_of sent) bytes → Contains (map frame_of sent) (frame_in bytes)
was_sent [] bytes is = absurd (let low = is.1 in omega (arith, low))
was_sent (x ∷ xs) bytes is =
    elim (Contains-append_cases (sealed_of x ∷ []) (map sealed_of xs) bytes is) [
      | inl at ↦
          let frame : frame_in bytes ≡ x.1 = frame_in_sealed x.0 x.1 bytes (sym (the_one (sealed_of x) bytes at)) in
          subst (Contains (x.1 ∷ map frame_of xs)) (sym frame) (Contains-append_left (x.1 ∷ []) (map frame_of xs) x.1 (Contains-push [] x.1))
      | inr at ↦ Contains-append_right (x.1 ∷ []) (map frame_of xs) (frame_in bytes) (was_sent xs bytes at)
    ]

pub sent_or_forged : (keys : Keys) (sent : List Sent) (bytes : List ℕ) → All (λ s. IsKeyOf keys s.0) sent → IsSealed keys bytes → Contains (map (λ s. s.1) sent) (frame_in bytes) ⊎ IsForged keys (map (λ s. sealed_frame s.0 s.1) sent) bytes
sent_or_forged keys sent bytes are is =
    elim (sealed_or_forged keys (map sealed_of sent) bytes (all_sealed keys sent are) is) [
      | inl at ↦ inl (was_sent sent bytes at)
      | inr forged ↦ inr forged
    ]
