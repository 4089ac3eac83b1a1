-- A writer's entry after one more event, and that of a vector.
use Rattle.std.proofs.Common.{◌≡◌, ℕ, ◌+◌, ◌<◌, ◌≤◌, true, false, cond, List, [], ◌∷◌, sym, ap, refl, ◌∙◌, arith, Option, Some, None, eqb, ltb}
use Rattle.std.proofs.lemmas.Bool.{eqb-true, eqb-false, ne_eqb, ltb-true}
use Rattle.meta_types.specs.Value.{ValueParts}
use Rattle.dvvset.specs.Object.{Entry}
use Rattle.dvvset.specs.Clock.{join, blanks, raise}
use Rattle.dvvset.specs.Writer.{entry_of}
use Rattle.dvvset.proofs.Writers.{Rises, entry_of-low, first, grown}

-- one more event of a writer, the first if it has none
abbrev pub raised : ℕ → ValueParts → Option Entry → Option Entry
raised w v None = Some (first w v)
raised w v (Some x) = Some (grown x v)

pub entry_of-raise : (w : ℕ) (v : ValueParts) (xs : List Entry) (low u : ℕ) → Rises low xs → entry_of (raise w v xs) u ≡ cond (eqb w u) (raised u v (entry_of xs u)) (entry_of xs u)
entry_of-raise w v [] low u rises =
    elim (eqb w u) as (λ b. eqb w u ≡ b → cond b (Some (first w v)) None ≡ cond b (Some (first u v)) None) [
      | true ↦ λ e. λ i. Some (first (eqb-true w u e i) v)
      | false ↦ λ e. refl
    ] refl
entry_of-raise w v (x ∷ xs) low u rises =
    elim (ltb w x.id) as (λ b. ltb w x.id ≡ b → entry_of (cond b (first w v ∷ (x ∷ xs)) (cond (eqb x.id w) (grown x v ∷ xs) (x ∷ raise w v xs))) u ≡ cond (eqb w u) (raised u v (entry_of (x ∷ xs) u)) (entry_of (x ∷ xs) u)) [
      | true ↦ λ lt.
          elim (eqb w u) as (λ c. eqb w u ≡ c → cond c (Some (first w v)) (entry_of (x ∷ xs) u) ≡ cond c (raised u v (entry_of (x ∷ xs) u)) (entry_of (x ∷ xs) u)) [
            | true ↦ λ e.
                let same : w ≡ u = eqb-true w u e in
                let below : w < x.id = ltb-true w x.id lt in
                let least : x.id ≤ x.id = omega arith in
                (λ i. Some (first (same i) v)) ∙ ap (λ o. raised u v o) (sym (entry_of-low (x ∷ xs) x.id u (least, rises.1) (omega arith)))
            | false ↦ λ e. refl
          ] refl
      | false ↦ λ ge.
          elim (eqb x.id w) as (λ d. eqb x.id w ≡ d → entry_of (cond d (grown x v ∷ xs) (x ∷ raise w v xs)) u ≡ cond (eqb w u) (raised u v (entry_of (x ∷ xs) u)) (entry_of (x ∷ xs) u)) [
            | true ↦ λ e.
                elim (eqb x.id u) as (λ c. cond c (Some (grown x v)) (entry_of xs u) ≡ cond c (raised u v (cond c (Some x) (entry_of xs u))) (cond c (Some x) (entry_of xs u))) [ true ↦ refl | false ↦ refl ]
                ∙ ap (λ i. cond (eqb i u) (raised u v (entry_of (x ∷ xs) u)) (entry_of (x ∷ xs) u)) (eqb-true x.id w e)
            | false ↦ λ e.
                ap (λ o. cond (eqb x.id u) (Some x) o) (entry_of-raise w v xs (x.id + 1) u rises.1)
                ∙ elim (eqb x.id u) as (λ c. eqb x.id u ≡ c → cond c (Some x) (cond (eqb w u) (raised u v (entry_of xs u)) (entry_of xs u)) ≡ cond (eqb w u) (raised u v (cond c (Some x) (entry_of xs u))) (cond c (Some x) (entry_of xs u))) [
                  | true ↦ λ f.
                      let here : x.id ≡ u = eqb-true x.id u f in
                      let other : (w ≡ u → ⊥) = λ h. eqb-false x.id w e (here ∙ sym h) in
                      sym (ap (λ b. cond b (Some (grown x v)) (Some x)) (ne_eqb w u other))
                  | false ↦ λ f. refl
                ] refl
          ] refl
    ] refl

-- an entry without its values
abbrev pub blank : Option Entry → Option Entry
blank None = None
blank (Some x) = Some (record { id = x.id; count = x.count; values = [] })

pub entry_of-blanks : (es : List Entry) (u : ℕ) → entry_of (blanks (join es)) u ≡ blank (entry_of es u)
entry_of-blanks [] u = refl
entry_of-blanks (x ∷ xs) u =
    elim (eqb x.id u) as (λ b. cond b (Some (record { id = x.id; count = x.count; values = [] })) (entry_of (blanks (join xs)) u) ≡ blank (cond b (Some x) (entry_of xs u))) [ true ↦ refl | false ↦ entry_of-blanks xs u ]
