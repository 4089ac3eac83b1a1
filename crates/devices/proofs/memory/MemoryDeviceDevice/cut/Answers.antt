use Rattle.std.proofs.Common.{◌≤◌, length, subst, sym}
use Rattle.devices.specs.Calls.{content_after}
use Rattle.devices.specs.CallLog.{CallLog, device_calls}
use Rattle.devices.proofs.Crashes.{was_cut}
use Rattle.devices.proofs.Times.{elapses, pushed}
use Rattle.devices.proofs.memory.MemoryDeviceDevice.cut.Goals as goal

pub returns-clause-time : goal.returns-clause-time
returns-clause-time c = rw (← c.self.view_is) (elapses c.self.inside.first.items (device_calls c.self.inside.calls.items) (device_calls c.push.new.self.items) _ (pushed _ _ _ c.in_ok-push.ensures.items))

pub returns-clause-crash : goal.returns-clause-crash
returns-clause-crash c =
    let within = subst (λ (m : CallLog). c.args.len ≤ length (content_after m.first m.calls)) (sym c.self.view_is) c.requires.within in
    rw (← c.self.view_is) (was_cut c.self.inside.first.items (device_calls c.self.inside.calls.items) (device_calls c.push.new.self.items) c.args.len (pushed _ _ _ c.in_ok-push.ensures.items) within)
