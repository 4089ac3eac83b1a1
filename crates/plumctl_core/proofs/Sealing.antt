-- Bytes are sealed under keys, or they aren't.
use Rattle.std.proofs.Common.{◌≡◌, ◌⊎◌, ◌↔◌, ℕ, ◌≤◌, Bool, true, false, List, [], length, Option, Some, None, Result, Ok, Err, OnOk, IfOk, IsTrue, inl, inr, refl, sym, ap, subst, ◌∙◌, arith}
use Rattle.std.specs.Prelude.{unwrap_or}
use Rattle.std.specs.Str.{bytes_eq}
use Rattle.std.proofs.lemmas.Bool.{cases_lt}
use Rattle.std.proofs.lemmas.Slice.Eq.{bytes_eq-Decides}
use Rattle.sealed_frames.specs.Seal.{IsKeyOf, IsSealed, IsSealedUnder, frame_in, seal_in, seal_of}
use Rattle.sealed_frames.specs.declared.key.Keys.{Keys}
use Rattle.meta_frame.specs.declared.message.Frame.{Frame}
use Rattle.meta_frame.specs.Frame.{Spells}
use Rattle.plumctl_core.specs.Output.{IsTextOfBytes, PrintsText, PrintsTextUnder, SpellsUnder}

same_or_not_by : (one other : List ℕ) (b : Bool) → bytes_eq one other ≡ b → (one ≡ other) ⊎ (one ≡ other → ⊥)
same_or_not_by one other true e = inl ((bytes_eq-Decides one other).0 e)
same_or_not_by one other false e = inr (λ same. let yes : bytes_eq one other ≡ true = (bytes_eq-Decides one other).1 same in cc)

same_or_not : (one other : List ℕ) → (one ≡ other) ⊎ (one ≡ other → ⊥)
same_or_not one other = same_or_not_by one other (bytes_eq one other) refl

-- under one key
sealed_or_not_under : (key bytes : List ℕ) → IsSealedUnder key bytes ⊎ (IsSealedUnder key bytes → ⊥)
sealed_or_not_under key bytes = elim (cases_lt (length bytes) 16) [
  | inl short ↦ inr (λ is. absurd (let long = is.long in omega (arith, long, short)))
  | inr long ↦ elim (same_or_not (seal_in bytes) (seal_of key (frame_in bytes))) [
    | inl same ↦ inl (record { long = long; seal = same })
    | inr differs ↦ inr (λ is. differs is.seal)
  ]
]

one_key : (one other : List ℕ) → Some one ≡ Some other → one ≡ other
one_key one other same = ap (λ key. unwrap_or key []) same

by_previous : (keys : Keys) (bytes : List ℕ) (previous : Option (List ℕ)) → keys.previous ≡ previous → (IsSealedUnder keys.current bytes → ⊥) → IsSealed keys bytes ⊎ (IsSealed keys bytes → ⊥)
by_previous keys bytes None e not_current = inr (λ is. elim is.is_key [
  | inl current ↦ not_current (subst (λ key. IsSealedUnder key bytes) (sym current) is.under)
  | inr previous ↦ absurd (cc (sym e ∙ previous))
])
by_previous keys bytes (Some key) e not_current = elim (sealed_or_not_under key bytes) [
  | inl is ↦ inl (record { key = key; is_key = inr e; under = is })
  | inr not_previous ↦ inr (λ is. elim is.is_key [
    | inl current ↦ not_current (subst (λ key. IsSealedUnder key bytes) (sym current) is.under)
    | inr previous ↦ not_previous (subst (λ key. IsSealedUnder key bytes) (one_key is.key key (sym previous ∙ e)) is.under)
  ])
]

pub sealed_or_not : (keys : Keys) (bytes : List ℕ) → IsSealed keys bytes ⊎ (IsSealed keys bytes → ⊥)
sealed_or_not keys bytes = elim (sealed_or_not_under keys.current bytes) [
  | inl is ↦ inl (record { key = keys.current; is_key = inl refl; under = is })
  | inr not_current ↦ by_previous keys bytes keys.previous refl not_current
]

-- ---- what is printed of what was opened

module _ (keys : Keys) (bytes frame : List ℕ) (sealed : IsSealed keys bytes) (same : frame ≡ frame_in bytes) where
  pub printed_under : {E : Type 0} (result : Result Bool E) (old new : List ℕ) → OnOk result (PrintsText frame old new) → OnOk result (PrintsTextUnder (Some keys) bytes old new)
  printed_under (Ok is) old new p = (p.0, inl (sealed, subst (λ (b : List ℕ). IsTextOfBytes b p.0) same p.1), p.2)
  printed_under (Err error) old new p = tt

  pub spelled_under : {E : Type 0} (result : Result Bool E) → IfOk result (λ is. IsTrue is ↔ ((x : Frame) × Spells x frame)) → IfOk result (λ is. IsTrue is ↔ ((x : Frame) × SpellsUnder (Some keys) x bytes))
  spelled_under (Ok is) e = (
    λ yes. let f = e.0 yes in (f.0, (sealed, subst (Spells f.0) same f.1)),
    λ f. e.1 (f.0, subst (Spells f.0) (sym same) f.1.1),
  )
  spelled_under (Err error) e = tt
