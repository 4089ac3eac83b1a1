use Rattle.std.specs.Prelude.{◌≡◌, ◌⊎◌, ℕ, List, codes}
use Rattle.meta_store.specs.Fault as store
use Rattle.devices.specs.declared.device.DeviceFault.{DeviceFault}
use Rattle.devices.specs.declared.device.DeviceFault.TheVariants as OfDevice
use Rattle.devices.specs.Device.{HasFailed}
use Rattle.node_file.specs.declared.fault.FileFault.{FileFault}
use Rattle.node_file.specs.declared.fault.FileFault.TheVariants.{Store, Device, Damaged, OtherNode, FileFull, Stopped, IncarnationSpent, OldVersion, Memory}

-- the number of a refusal
abbrev pub code_of : FileFault → ℕ
code_of (Store fault) = store.code_of fault
code_of Device = 30
code_of (Damaged at) = 31
code_of OtherNode = 32
code_of FileFull = 33
code_of Stopped = 34
code_of IncarnationSpent = 35
code_of OldVersion = 36
code_of Memory = 99

-- the name of a refusal
abbrev pub fault_name : FileFault → List ℕ
fault_name (Store fault) = store.fault_name fault
fault_name Device = codes "Device"
fault_name (Damaged at) = codes "Damaged"
fault_name OtherNode = codes "OtherNode"
fault_name FileFull = codes "FileFull"
fault_name Stopped = codes "Stopped"
fault_name IncarnationSpent = codes "IncarnationSpent"
fault_name OldVersion = codes "OldVersion"
fault_name Memory = codes "Memory"

-- the refusal of a device
abbrev pub of_device : DeviceFault → FileFault
of_device OfDevice.Memory = Memory
of_device OfDevice.Failed = Device

-- the refusal is one of a call on a device, whose count of failures was `before` and is `now`: it
-- is 99, and the count is the same, or it is 30, and the count has risen
abbrev pub IsOfDevice : FileFault → ℕ → ℕ → Type 0
IsOfDevice fault before now =
    ((fault ≡ Memory) × (now ≡ before)) ⊎ ((fault ≡ Device) × HasFailed before now)
