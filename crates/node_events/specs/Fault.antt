-- The refusals of a node.
use Rattle.std.specs.Prelude.{ℕ, List, codes}
use Rattle.meta_frame.specs.declared.fault.FrameFault.{FrameFault}
use Rattle.meta_frame.specs.declared.fault.FrameFault.TheVariants as OfFrame
use Rattle.meta_frame.specs.Fault as frame
use Rattle.meta_store.specs.declared.fault.StoreFault.{StoreFault}
use Rattle.meta_store.specs.declared.fault.StoreFault.TheVariants as OfStore
use Rattle.meta_store.specs.Fault as store
use Rattle.subscriptions.specs.declared.fault.WatchFault.{WatchFault}
use Rattle.subscriptions.specs.declared.fault.WatchFault.TheVariants as OfWatch
use Rattle.node_events.specs.declared.fault.StepFault.{StepFault}
use Rattle.node_events.specs.declared.fault.StepFault.TheVariants.{BadNode, Frame, Store, BadWatch, NoSuchWatch, NotAddressed, Memory}

-- the number of a refusal
abbrev pub code_of : StepFault → ℕ
code_of BadNode = 3
code_of (Frame fault) = frame.code_of fault
code_of (Store fault) = store.code_of fault
code_of BadWatch = 28
code_of NoSuchWatch = 29
code_of NotAddressed = 40
code_of Memory = 99

-- the name of a refusal
abbrev pub fault_name : StepFault → List ℕ
fault_name BadNode = codes "BadNode"
fault_name (Frame fault) = frame.fault_name fault
fault_name (Store fault) = store.fault_name fault
fault_name BadWatch = codes "BadWatch"
fault_name NoSuchWatch = codes "NoSuchWatch"
fault_name NotAddressed = codes "NotAddressed"
fault_name Memory = codes "Memory"

-- the refusal of a store
abbrev pub of_store : StoreFault → StepFault
of_store OfStore.CounterSpent = Store OfStore.CounterSpent
of_store OfStore.BadEntries = Store OfStore.BadEntries
of_store OfStore.StoreFull = Store OfStore.StoreFull
of_store OfStore.WrongKey = Store OfStore.WrongKey
of_store OfStore.ObjectTooLarge = Store OfStore.ObjectTooLarge
of_store OfStore.Memory = Memory

-- the refusal of bytes
abbrev pub of_frame : FrameFault → StepFault
of_frame OfFrame.Short = Frame OfFrame.Short
of_frame OfFrame.BadMagic = Frame OfFrame.BadMagic
of_frame OfFrame.BadVersion = Frame OfFrame.BadVersion
of_frame OfFrame.BadKind = Frame OfFrame.BadKind
of_frame OfFrame.TooLong = Frame OfFrame.TooLong
of_frame (OfFrame.BadBody at) = Frame (OfFrame.BadBody at)
of_frame OfFrame.LeftOver = Frame OfFrame.LeftOver
of_frame OfFrame.Memory = Memory

-- the refusal of a watch, under the same name
abbrev pub of_watch : WatchFault → StepFault
of_watch OfWatch.BadWatch = BadWatch
of_watch OfWatch.NoSuchWatch = NoSuchWatch
of_watch OfWatch.Memory = Memory
