-- A test that goes along values whose forms may depend on the value before.
use Rattle.std.proofs.Common.{ℕ, ◌↔◌, List, drop}
use Rattle.frame_fields.specs.Form.{Form, EachFits}

-- the test so far: what is left fits exactly if the whole list does
pub record Tested {S A : Type 0} (form : S → Form A) (next : A → S) (start : S) (xs : List A) (i : ℕ) (s : S) : Type 0 where
  pub same : EachFits form next s (drop i xs) ↔ EachFits form next start xs
