-- Why bytes weren't written and synced, as a refusal of a file.
use Rattle.std.specs.Prelude.{Bool, true, false}
use Rattle.node_file.specs.declared.fault.FileFault.{FileFault}
use Rattle.node_file.specs.declared.fault.FileFault.TheVariants.{Device, Memory}
use Rattle.node_file.specs.declared.putting.WriteFault.{WriteFault}
use Rattle.node_file.specs.declared.putting.WriteFault.TheVariants as writes

abbrev pub of_write : WriteFault → FileFault
of_write writes.NotBegun = Memory
of_write writes.Memory = Memory
of_write writes.Device = Device

-- the device was asked for something
abbrev pub has_begun : WriteFault → Bool
has_begun writes.NotBegun = false
has_begun writes.Memory = true
has_begun writes.Device = true
