use Rattle.std.specs.Prelude.{ℕ, List, codes}
use Rattle.sealed_frames.specs.declared.fault.SealFault.{SealFault}
use Rattle.sealed_frames.specs.declared.fault.SealFault.TheVariants.{BadSeal, BadKey}

-- the number of a refusal
abbrev pub code_of : SealFault → ℕ
code_of BadSeal = 17
code_of BadKey = 18

-- the name of a refusal
abbrev pub fault_name : SealFault → List ℕ
fault_name BadSeal = codes "BadSeal"
fault_name BadKey = codes "BadKey"
