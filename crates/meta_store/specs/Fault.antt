use Rattle.std.specs.Prelude.{ℕ, List, codes}
use Rattle.dvvset.specs.declared.fault.ClockFault.{ClockFault}
use Rattle.dvvset.specs.declared.fault.ClockFault.TheVariants as Clock
use Rattle.meta_store.specs.declared.fault.StoreFault.{StoreFault}
use Rattle.meta_store.specs.declared.fault.StoreFault.TheVariants.{CounterSpent, BadEntries, StoreFull, WrongKey, ObjectTooLarge, Memory}

-- the number of a refusal
abbrev pub code_of : StoreFault → ℕ
code_of CounterSpent = 20
code_of BadEntries = 21
code_of StoreFull = 25
code_of WrongKey = 26
code_of ObjectTooLarge = 27
code_of Memory = 99

-- the name of a refusal
abbrev pub fault_name : StoreFault → List ℕ
fault_name CounterSpent = codes "CounterSpent"
fault_name BadEntries = codes "BadEntries"
fault_name StoreFull = codes "StoreFull"
fault_name WrongKey = codes "WrongKey"
fault_name ObjectTooLarge = codes "ObjectTooLarge"
fault_name Memory = codes "Memory"

-- the refusal of a clock, under the same name
abbrev pub of_clock : ClockFault → StoreFault
of_clock Clock.CounterSpent = CounterSpent
of_clock Clock.BadEntries = BadEntries
of_clock Clock.Memory = Memory
