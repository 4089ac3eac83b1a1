-- Why a path isn't opened or made, by what the operating system says.
use Rattle.std.specs.Prelude.{Result, Ok, Err}
use Rattle.std.specs.IoError.{error_kind}
use Rattle.std.specs.declared.io.Error.{Error}
use Rattle.std.specs.declared.io.ErrorKind.{ErrorKind}
use Rattle.std.specs.declared.io.ErrorKind.TheVariants.{OutOfMemory, NotFound, NotADirectory, AlreadyExists}
use Rattle.devices.specs.declared.opening.OpenFault.{OpenFault}
use Rattle.devices.specs.declared.opening.OpenFault.TheVariants.{Memory, Missing, Exists, Failed}

-- by the kind of its error
abbrev pub fault_of_kind : ErrorKind → OpenFault
fault_of_kind OutOfMemory = Memory
fault_of_kind NotFound = Missing
fault_of_kind NotADirectory = Missing
fault_of_kind AlreadyExists = Exists
fault_of_kind kind = Failed

-- how giving a file its name ends, by the sync of the folder
abbrev pub folder_synced : Result Unit Error → Result Unit OpenFault
folder_synced (Ok done) = Ok done
folder_synced (Err error) = Err (fault_of_kind (error_kind error))
