-- The first refusal that applies, from a list of refusals in their order, each with whether it
-- does.
use Rattle.std.specs.Prelude.{if◌then◌else◌, Bool, List, [], ◌∷◌, Option, Some, None}

abbrev pub first_that_applies : {F : Type 0} → List (Bool × F) → Option F
first_that_applies [] = None
first_that_applies (refusal ∷ later) =
    if refusal.0 then Some refusal.1 else first_that_applies later
