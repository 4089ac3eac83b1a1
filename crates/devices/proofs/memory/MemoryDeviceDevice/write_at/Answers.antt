use Rattle.std.proofs.Common.{◌≡◌, ◌∷◌, ◌≤◌, length, subst, sym, ap, ◌∙◌, rules}
use Rattle.devices.specs.Calls.{content_after, wrote}
use Rattle.devices.specs.CallLog.{CallLog, device_calls}
use Rattle.devices.proofs.Crashes.{was_written}
use Rattle.devices.proofs.Times.{elapses, pushed}
use Rattle.devices.proofs.memory.MemoryDeviceDevice.write_at.Goals as goal

pub returns-in-Ok-clause-time : goal.returns-in-Ok-clause-time
returns-in-Ok-clause-time c = rw (← c.self.view_is) (elapses c.self.inside.first.items (device_calls c.self.inside.calls.items) (device_calls c.push.new.self.items) _ (pushed _ _ _ c.in_ok-push.ensures.items))

pub returns-in-Ok-clause-crash : goal.returns-in-Ok-clause-crash
returns-in-Ok-clause-crash c =
    let calls = device_calls c.self.inside.calls.items in
    let within = subst (λ (m : CallLog). c.args.at ≤ length (content_after m.first m.calls)) (sym c.self.view_is) c.requires.within in
    let same : c.in_ok-to_vec.field-0.items ≡ c.args.bytes.now = search rules in
    let is = pushed _ _ _ c.in_ok-push.ensures.items ∙ ap (λ b. wrote c.args.at b ∷ calls) same in
    rw (← c.self.view_is) (was_written c.self.inside.first.items calls (device_calls c.push.new.self.items) c.args.at c.args.bytes.now is within)
