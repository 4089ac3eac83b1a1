use Rattle.std.proofs.Common.{◌≡◌, [], ◌∷◌, rules}
use Rattle.devices.specs.Calls.{cut_to, failed_to_cut}
use Rattle.devices.proofs.Crashes.{was_cut, was_not_cut}
use Rattle.devices.proofs.file.FileDeviceDevice.cut.Goals as goal

pub returns-then-cut-clause-crash : goal.returns-then-cut-clause-crash
returns-then-cut-clause-crash c =
    let calls = c.args.self.now.raw.noted.calls in
    let is : c.cut.new.self.noted.calls ≡ cut_to c.args.len ∷ calls = search rules in
    was_cut [] calls c.cut.new.self.noted.calls c.args.len is c.requires.within

pub returns-else-cut-clause-crash : goal.returns-else-cut-clause-crash
returns-else-cut-clause-crash c =
    let calls = c.args.self.now.raw.noted.calls in
    let is : c.cut.new.self.noted.calls ≡ failed_to_cut c.args.len ∷ calls = search rules in
    was_not_cut [] calls c.cut.new.self.noted.calls c.args.len is
