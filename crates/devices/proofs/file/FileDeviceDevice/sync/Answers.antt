use Rattle.std.proofs.Common.{◌≡◌, [], ◌∷◌, rules}
use Rattle.devices.specs.Calls.{synced}
use Rattle.devices.proofs.Crashes.{was_synced}
use Rattle.devices.proofs.file.FileDeviceDevice.sync.Goals as goal

pub returns-then-sync-clause-crash : goal.returns-then-sync-clause-crash
returns-then-sync-clause-crash c =
    let calls = c.args.self.now.raw.noted.calls in
    let is : c.sync.new.self.noted.calls ≡ synced ∷ calls = search rules in
    was_synced [] calls c.sync.new.self.noted.calls is
