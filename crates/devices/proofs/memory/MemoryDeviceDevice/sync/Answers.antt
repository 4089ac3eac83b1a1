use Rattle.devices.specs.CallLog.{device_calls}
use Rattle.devices.proofs.Crashes.{was_synced}
use Rattle.devices.proofs.Times.{pushed}
use Rattle.devices.proofs.memory.MemoryDeviceDevice.sync.Goals as goal

pub returns-clause-crash : goal.returns-clause-crash
returns-clause-crash c = rw (← c.self.view_is) (was_synced c.self.inside.first.items (device_calls c.self.inside.calls.items) (device_calls c.push.new.self.items) (pushed _ _ _ c.in_ok-push.ensures.items))
