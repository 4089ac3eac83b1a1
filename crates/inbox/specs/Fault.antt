-- The numbers and names of refusals.
use Rattle.std.specs.Prelude.{ℕ, List, codes}
use Rattle.inbox.specs.declared.fault.InboxFault.{InboxFault}
use Rattle.inbox.specs.declared.fault.InboxFault.TheVariants.{Full, Closed, BadLimit, Memory}

-- the number of a refusal
abbrev pub code_of : InboxFault → ℕ
code_of Full = 50
code_of Closed = 53
code_of BadLimit = 55
code_of Memory = 99

-- the name of a refusal
abbrev pub fault_name : InboxFault → List ℕ
fault_name Full = codes "Full"
fault_name Closed = codes "Closed"
fault_name BadLimit = codes "BadLimit"
fault_name Memory = codes "Memory"
