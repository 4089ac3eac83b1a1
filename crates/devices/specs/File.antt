-- What contracts see of a file device: the calls that it noted, which call failed first, and
-- whether it has a copy of its content in memory.
use Rattle.std.specs.Prelude.{◌≡◌, ℕ, List, [], length, Option, Some, Result, Ok, Err, IsSome, IsErrOf}
use Rattle.std.specs.Option.{option_or}
use Rattle.devices.specs.Calls.{content_after, CrashLeaves, CrashLeftSince}
use Rattle.devices.specs.declared.device.DeviceFault.{DeviceFault}
use Rattle.devices.specs.declared.device.DeviceFault.TheVariants.{Failed, Memory}
use Rattle.devices.specs.declared.failures.FailedCall.{FailedCall}
use Rattle.devices.specs.declared.file.FileDevice.{FileDevice}

-- ---- as a device

abbrev pub content : FileDevice → List ℕ
content d = content_after [] d.raw.noted.calls

abbrev pub may_leave : FileDevice → List ℕ → Type 0
may_leave d c = CrashLeaves [] d.raw.noted.calls c

abbrev pub moment : FileDevice → ℕ
moment d = length d.raw.noted.calls

abbrev pub left_since : FileDevice → ℕ → List ℕ → Type 0
left_since d t c = CrashLeftSince [] d.raw.noted.calls t c

abbrev pub failed : FileDevice → ℕ
failed d = d.failures.count

-- ---- which call failed first

abbrev pub first_failed : FileDevice → Option FailedCall
first_failed d = d.failures.first

-- the same, once one call more, of this kind, has returned this result
abbrev pub first_failed_after : FailedCall → Result (Unit {0}) DeviceFault → FileDevice
    → Option FailedCall
first_failed_after call (Err Failed) d = option_or (first_failed d) (Some call)
first_failed_after call (Err Memory) d = first_failed d
first_failed_after call (Ok done) d = first_failed d

-- the new device tells so of the call that was made of the old one
abbrev pub TellsFirst : FailedCall → Result (Unit {0}) DeviceFault → (old new : FileDevice)
    → Type 0
TellsFirst call result old new = first_failed new ≡ first_failed_after call result old

-- if a call of the old device had failed, this one fails too, and no call is noted
abbrev pub CallsNoMore : Result (Unit {0}) DeviceFault → (old new : FileDevice) → Type 0
CallsNoMore result old new = IsSome (first_failed old)
    → IsErrOf result Failed × (new.raw.noted.calls ≡ old.raw.noted.calls)

-- ---- what it has in memory

-- it has the copy of its content from which it answers reads
abbrev pub HasCopy : FileDevice → Type 0
HasCopy d = IsSome d.copy
