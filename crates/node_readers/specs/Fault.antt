use Rattle.std.specs.Prelude.{ℕ, List, codes}
use Rattle.node_readers.specs.declared.fault.PeekFault.{PeekFault}
use Rattle.node_readers.specs.declared.fault.PeekFault.TheVariants.{Stopped, Memory}

-- the number of a refusal
abbrev pub code_of : PeekFault → ℕ
code_of Stopped = 34
code_of Memory = 99

-- the name of a refusal
abbrev pub fault_name : PeekFault → List ℕ
fault_name Stopped = codes "Stopped"
fault_name Memory = codes "Memory"
