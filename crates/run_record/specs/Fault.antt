-- The numbers and names of refusals.
use Rattle.std.specs.Prelude.{ℕ, List, codes}
use Rattle.run_record.specs.declared.order_fault.OrderFault.{OrderFault}
use Rattle.run_record.specs.declared.order_fault.OrderFault.TheVariants as order
use Rattle.run_record.specs.declared.fault.RecordFault.{RecordFault}
use Rattle.run_record.specs.declared.fault.RecordFault.TheVariants.{Unsent, Stuck, Unequal, StrangeReceipt, Memory}

abbrev pub code_of : RecordFault → ℕ
code_of (Unsent at) = 60
code_of (Stuck places) = 61
code_of (Unequal n) = 62
code_of StrangeReceipt = 63
code_of Memory = 99

abbrev pub fault_name : RecordFault → List ℕ
fault_name (Unsent at) = codes "Unsent"
fault_name (Stuck places) = codes "Stuck"
fault_name (Unequal n) = codes "Unequal"
fault_name StrangeReceipt = codes "StrangeReceipt"
fault_name Memory = codes "Memory"

-- the refusal of an order
abbrev pub of_order : OrderFault → RecordFault
of_order (order.Unsent at) = Unsent at
of_order (order.Stuck places) = Stuck places
of_order order.Memory = Memory
