-- Where nothing could be made, for another cause than memory.
use Rattle.std.proofs.Common.{◌≢◌, List, ℕ, refl}
use Rattle.devices.specs.declared.opening.OpenFault.{OpenFault}
use Rattle.devices.specs.declared.opening.OpenFault.TheVariants as opening
use Rattle.streams.specs.Moment.{SinkAt}
use Rattle.plumctl_file.specs.Ends.{cause_of_unmade}
use Rattle.plumctl_live.specs.Recording.{EndsUnmade, TellsDevice}

pub ends_unmade : (path : List ℕ) (fault : OpenFault) (old new : SinkAt) (status : ℕ) → fault ≢ opening.Memory → TellsDevice path (cause_of_unmade fault) old new status → EndsUnmade path fault old new status
ends_unmade path opening.Memory old new status other told = absurd (other refl)
ends_unmade path opening.Missing old new status other told = told
ends_unmade path opening.Exists old new status other told = told
ends_unmade path opening.NotAFile old new status other told = told
ends_unmade path opening.InUse old new status other told = told
ends_unmade path opening.Linked old new status other told = told
ends_unmade path opening.Failed old new status other told = told
