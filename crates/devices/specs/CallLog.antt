-- What contracts see of a device in memory: what it held at first, and each call since, the newest
-- first.
use Rattle.std.specs.Prelude.{ℕ, List, map, reverse}
use Rattle.devices.specs.Calls.{DeviceCall, wrote, cut_to, synced}
use Rattle.devices.specs.declared.memory.Call.{Call}
use Rattle.devices.specs.declared.memory.Call.TheVariants.{Wrote, CutTo, Synced}

pub record CallLog : Type 0 where
  pub first : List ℕ
  pub calls : List DeviceCall

abbrev pub device_call : Call → DeviceCall
device_call (Wrote at bytes) = wrote at bytes.items
device_call (CutTo n) = cut_to n
device_call Synced = synced

-- of calls with the oldest first
abbrev pub device_calls : List Call → List DeviceCall
device_calls calls = reverse (map device_call calls)
