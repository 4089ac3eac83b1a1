-- The line of a device that failed.
use Rattle.std.proofs.Common.{◌≡◌, codes, ◌++◌, ◌∷◌, [], refl}
use Rattle.std.specs.Fmt.{digits}
use Rattle.node_file.specs.declared.fault.FileFault.TheVariants.{Device}
use Rattle.plumctl_file.specs.Report.{refusal_line}

pub device_line : codes "error 30 Device" ++ 10 ∷ [] ≡ refusal_line Device
unfolding refusal_line digits
device_line = refl
