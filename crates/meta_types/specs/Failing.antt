-- How a call fails: because memory runs out, which no contract can foresee, or for a cause that its
-- contract states.
use Rattle.std.specs.Prelude.{◌≡◌, ◌⊎◌, Option, Some, Result, IfErr}

-- a call that fails does so because memory runs out, or with a fault for which `cause` holds
abbrev pub FailsWith : {A F : Type 0} → F → (F → Type 0) → Result A F → Type 0
FailsWith memory cause result = IfErr result (λ fault. (fault ≡ memory) ⊎ cause fault)

-- a call that fails does so because memory runs out, or with this refusal, if there is one
abbrev pub FailsBy : {A F : Type 0} → F → Option F → Result A F → Type 0
FailsBy memory refusal result = FailsWith memory (λ fault. refusal ≡ Some fault) result
