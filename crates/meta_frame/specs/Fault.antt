use Rattle.std.specs.Prelude.{ℕ, List, codes}
use Rattle.meta_frame.specs.declared.fault.FrameFault.{FrameFault}
use Rattle.meta_frame.specs.declared.fault.FrameFault.TheVariants.{Short, BadMagic, BadVersion, BadKind, TooLong, BadBody, LeftOver, Memory}

-- the number of a refusal
abbrev pub code_of : FrameFault → ℕ
code_of Short = 10
code_of BadMagic = 11
code_of BadVersion = 12
code_of BadKind = 13
code_of TooLong = 14
code_of (BadBody at) = 15
code_of LeftOver = 16
code_of Memory = 99

-- the name of a refusal
abbrev pub fault_name : FrameFault → List ℕ
fault_name Short = codes "Short"
fault_name BadMagic = codes "BadMagic"
fault_name BadVersion = codes "BadVersion"
fault_name BadKind = codes "BadKind"
fault_name TooLong = codes "TooLong"
fault_name (BadBody at) = codes "BadBody"
fault_name LeftOver = codes "LeftOver"
fault_name Memory = codes "Memory"
