use Rattle.std.proofs.Common.{◌≡◌, [], ◌∷◌, length, rules}
use Rattle.devices.specs.Calls.{wrote, failed_to_write}
use Rattle.devices.proofs.Crashes.{was_written, was_not_written}
use Rattle.devices.proofs.file.FileDeviceDevice.write_at.Goals as goal

pub returns-then-write-clause-crash : goal.returns-then-write-clause-crash
returns-then-write-clause-crash c =
    let calls = c.args.self.now.raw.noted.calls in
    let is : c.write.new.self.noted.calls ≡ wrote c.args.at c.args.bytes.now ∷ calls = search rules in
    was_written [] calls c.write.new.self.noted.calls c.args.at c.args.bytes.now is c.requires.within

pub returns-else-write-clause-crash : goal.returns-else-write-clause-crash
returns-else-write-clause-crash c =
    let calls = c.args.self.now.raw.noted.calls in
    let is : c.write.new.self.noted.calls ≡ failed_to_write c.args.at (length c.args.bytes.now) ∷ calls = search rules in
    was_not_written [] calls c.write.new.self.noted.calls c.args.at (length c.args.bytes.now) is
