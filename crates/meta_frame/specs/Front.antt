-- A field at the front of bytes.
use Rattle.std.specs.Prelude.{◌≡◌, ℕ, ◌-◌, List, ◌++◌, length}
use Rattle.meta_frame.specs.declared.fault.FrameFault.{FrameFault}
use Rattle.meta_frame.specs.declared.fault.FrameFault.TheVariants.{BadBody}
use Rattle.frame_fields.specs.Form.{Form}

-- the bytes begin with the spelling of the value
pub record Begins {A : Type 0} (form : Form A) (bytes : List ℕ) (value : A)
    (rest : List ℕ) : Type 0 where
  pub fits : form.Fits value
  pub spelled : bytes ≡ form.spell value ++ rest

-- the first fault of the field stands at this offset
pub record FaultAt {A : Type 0} (form : Form A) (bytes : List ℕ) (at : ℕ) : Type 0 where
  pub left : ℕ
  pub offset : at ≡ length bytes - left
  pub bad : form.Bad bytes left

abbrev pub RefusesField : {A : Type 0} → Form A → List ℕ → FrameFault → Type 0
RefusesField form bytes (BadBody at) = FaultAt form bytes at
RefusesField form bytes fault = ⊥

-- bytes begin with at most one value of the form, have at most one fault, and never both
pub record IsUnambiguous {A : Type 0} (form : Form A) : Type 0 where
  pub one_value : (bytes : List ℕ) (x y : A) (rest others : List ℕ) → Begins form bytes x rest
      → Begins form bytes y others → (x ≡ y) × (rest ≡ others)
  pub one_fault : (bytes : List ℕ) (at other : ℕ) → FaultAt form bytes at → FaultAt form bytes other
      → at ≡ other
  pub never_both : (bytes : List ℕ) (x : A) (rest : List ℕ) (at : ℕ) → Begins form bytes x rest
      → FaultAt form bytes at → ⊥
