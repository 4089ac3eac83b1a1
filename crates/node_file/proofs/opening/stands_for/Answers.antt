use Rattle.std.proofs.Common.{rules, ◌≡◌, Ok, subst}
use Rattle.node_file.specs.File.{opened, FileState}
use Rattle.node_file.proofs.Made.{any_asked, asked_so, of_asked, opens_so, stands_so, versions}
use Rattle.node_file.proofs.opening.stands_for.Goals as goal

pub returns-in-Ok-clause-asked : goal.returns-in-Ok-clause-asked
returns-in-Ok-clause-asked c =
    let found = c.in-Ok.found in
    let s : FileState = record { version = found.version; node = found.node; contents = found.contents } in
    let is : opened c.args.asked c.args.bytes.now ≡ Ok (s, found.gate) = search rules in
    asked_so c.args.asked c.args.bytes.now s found.gate is

pub returns-in-Ok-clause-stands : goal.returns-in-Ok-clause-stands
returns-in-Ok-clause-stands c =
    let found = c.in-Ok.found in
    let s : FileState = record { version = found.version; node = found.node; contents = found.contents } in
    let is : opened c.args.asked c.args.bytes.now ≡ Ok (s, found.gate) = search rules in
    stands_so c.args.bytes.now s found.gate (any_asked c.args.asked c.args.bytes.now (s, found.gate) is)

pub returns-in-Ok-clause-opens : goal.returns-in-Ok-clause-opens
returns-in-Ok-clause-opens c =
    let found = c.in-Ok.found in
    let s : FileState = record { version = found.version; node = found.node; contents = found.contents } in
    let is : opened c.args.asked c.args.bytes.now ≡ Ok (s, found.gate) = search rules in
    opens_so c.args.bytes.now s found.gate (any_asked c.args.asked c.args.bytes.now (s, found.gate) is)

pub returns-in-Ok-clause-version : goal.returns-in-Ok-clause-version
returns-in-Ok-clause-version c =
    let found = c.in-Ok.found in
    let s : FileState = record { version = found.version; node = found.node; contents = found.contents } in
    let is : opened c.args.asked c.args.bytes.now ≡ Ok (s, found.gate) = search rules in
    versions c.args.bytes.now s found.gate (any_asked c.args.asked c.args.bytes.now (s, found.gate) is)

pub returns-in-Ok-clause-node : goal.returns-in-Ok-clause-node
returns-in-Ok-clause-node c node asked =
    let found = c.in-Ok.found in
    let s : FileState = record { version = found.version; node = found.node; contents = found.contents } in
    let is : opened c.args.asked c.args.bytes.now ≡ Ok (s, found.gate) = search rules in
    of_asked node c.args.bytes.now (s, found.gate) (subst (λ a. opened a c.args.bytes.now ≡ Ok (s, found.gate)) asked is)
