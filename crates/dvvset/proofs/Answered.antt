use Rattle.std.proofs.Common.{◌≡◌, Bool, true, ◌↔◌, sym, ◌∙◌}
use Rattle.std.specs.Bool.{Decides}

-- a test that answered as one that decides a fact
pub answered : {P : Type 0} (result b : Bool) → result ≡ b → Decides b P → (result ≡ true) ↔ P
answered result b e d = ((λ h. d.0 (sym e ∙ h)), (λ p. e ∙ d.1 p))
