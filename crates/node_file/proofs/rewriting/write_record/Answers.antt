use Rattle.std.proofs.Common.{◌≡◌, ◌+◌, ◌-◌, ◌∷◌, [], length, Ok, rules, ◌∙◌, ap, arith, length-append}
use Rattle.devices.specs.Device.{Overwrites}
use Rattle.node_file.specs.Record.{payload, record_bytes}
use Rattle.node_file.specs.Clean.{behind_gates}
use Rattle.node_file.specs.File.{file_state, record_size, state_with}
use Rattle.node_file.specs.Reads.{record_given}
use Rattle.node_file.proofs.Appending.{alone, gate_within, put_over}
use Rattle.node_file.proofs.Clean.{last_there, put_last}
use Rattle.node_file.proofs.Torn.{length-record}
use Rattle.node_file.proofs.rewriting.write_record.Goals as goal

pub write_at-requires : goal.write_at-requires
write_at-requires g c = record { within = omega (arith, gate_within c.args.gate (g.D.Device.content c.args.device.now) c.requires.opens) }

pub returns-clause-end : goal.returns-clause-end
returns-clause-end g c =
    let given = record_given c.args.given in
    omega (arith, ap length c.in_ok-bytes.ensures, length-append (record_bytes (payload given)) (0 ∷ []), length-record (payload given))

pub returns-clause-opens : goal.returns-clause-opens
unfolding behind_gates record_size
returns-clause-opens g c =
    let given = record_given c.args.given in
    let f = g.D.Device.content c.args.device.now in
    let bytes = c.in_ok-bytes.bytes.items in
    let holds : Overwrites f c.args.gate bytes (g.D.Device.content c.write_at.new.self) = search rules in
    let can = alone c.args.gate f c.requires.opens given c.requires.version c.requires.lawful c.requires.follows c.requires.room in
    let end : c.args.gate + (37 + length (payload given) + 0) ≡ c.args.gate + (c.len.result - 1) =
    omega (arith, c.len.ensures, ap length c.in_ok-bytes.ensures, length-append (record_bytes (payload given)) (0 ∷ []), length-record (payload given)) in
    put_over c.args.gate f c.requires.opens given [] can bytes (g.D.Device.content c.write_at.new.self) c.in_ok-bytes.ensures holds
    ∙ ap (λ n. Ok (state_with (file_state f) given, n)) end

pub returns-clause-bytes : goal.returns-clause-bytes
returns-clause-bytes g c =
    let f = g.D.Device.content c.args.device.now in
    let bytes = c.in_ok-bytes.bytes.items in
    let holds : Overwrites f c.args.gate bytes (g.D.Device.content c.write_at.new.self) = search rules in
    put_last f (g.D.Device.content c.write_at.new.self) bytes c.args.gate (record_given c.args.given) c.requires.last c.in_ok-bytes.ensures holds

pub returns-clause-last : goal.returns-clause-last
returns-clause-last g c =
    let given = record_given c.args.given in
    let f = g.D.Device.content c.args.device.now in
    let bytes = c.in_ok-bytes.bytes.items in
    let holds : Overwrites f c.args.gate bytes (g.D.Device.content c.write_at.new.self) = search rules in
    let is = put_last f (g.D.Device.content c.write_at.new.self) bytes c.args.gate given c.requires.last c.in_ok-bytes.ensures holds in
    omega (arith, last_there f (g.D.Device.content c.write_at.new.self) c.args.gate given c.requires.last is, c.len.ensures, ap length c.in_ok-bytes.ensures, length-append (record_bytes (payload given)) (0 ∷ []), length-record (payload given))
