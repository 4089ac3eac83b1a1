-- Facts of a result, and of a test.
use Rattle.std.proofs.Common.{◌≡◌, ◌↔◌, Bool, true, false, IsTrue, Result, Ok, Err, IfErr, OnOk, sym, ◌∙◌}

pub on_ok : {A E : Type 0} {P Q : Type 0} (r : Result A E) → (P → Q) → OnOk r P → OnOk r Q
on_ok (Ok x) f h = f h
on_ok (Err e) f h = tt

pub on_ok_both : {A E : Type 0} {P Q R : Type 0} (r : Result A E) → (P → Q → R) → OnOk r P → OnOk r Q → OnOk r R
on_ok_both (Ok x) f h k = f h k
on_ok_both (Err e) f h k = tt

pub on_err : {A E : Type 0} {P Q : E → Type 0} (r : Result A E) → ((e : E) → P e → Q e) → IfErr r P → IfErr r Q
on_err (Ok x) f h = tt
on_err (Err e) f h = f e h

-- a test that failed
pub not_so : (b : Bool) (P : Type 0) → (IsTrue b ↔ P) → b ≡ false → P → ⊥
not_so b P is failed holds = let never : true ≡ false = sym (is.1 holds) ∙ failed in absurd (cc)
