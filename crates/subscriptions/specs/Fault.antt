use Rattle.std.specs.Prelude.{ℕ, List, codes}
use Rattle.subscriptions.specs.declared.fault.WatchFault.{WatchFault}
use Rattle.subscriptions.specs.declared.fault.WatchFault.TheVariants.{BadWatch, NoSuchWatch, Memory}

-- the number of a refusal
abbrev pub code_of : WatchFault → ℕ
code_of BadWatch = 28
code_of NoSuchWatch = 29
code_of Memory = 99

-- the name of a refusal
abbrev pub fault_name : WatchFault → List ℕ
fault_name BadWatch = codes "BadWatch"
fault_name NoSuchWatch = codes "NoSuchWatch"
fault_name Memory = codes "Memory"
