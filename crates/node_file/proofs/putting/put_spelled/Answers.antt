use Rattle.std.proofs.Common.{◌+◌, ◌∷◌, subst}
use Rattle.devices.specs.Device.{Overwrites}
use Rattle.node_file.specs.Batch.{AreAppended}
use Rattle.node_file.specs.Clean.{behind_gates}
use Rattle.node_file.proofs.Appending.{appended, both_written, ends_at, gate_run, gate_within, staged, staged_run, still_within}
use Rattle.node_file.proofs.putting.put_spelled.Goals as goal

pub write_synced-requires-clause-within : goal.write_synced-requires-clause-within
write_synced-requires-clause-within g c = gate_within c.args.gate (g.D.Device.content c.args.device.now) c.requires.opens

pub write_synced-requires-2-clause-within : goal.write_synced-requires-2-clause-within
write_synced-requires-2-clause-within g c = still_within c.args.gate (g.D.Device.content c.args.device.now) c.requires.opens c.args.spelled.now (g.D.Device.content c.write_synced.new.device) c.in-Ok.ensures.written

pub returns-in-Err-NotBegun-clause-any_moment : goal.returns-in-Err-NotBegun-clause-any_moment
returns-in-Err-NotBegun-clause-any_moment g c first more is can =
    staged_run c.args.gate (g.D.Device.content c.args.device.now) c.requires.opens first more can g.D.Device.moment g.D.Device.left_since _ c.args.device.now c.write_synced.new.device c.write_synced.ensures.any_moment

pub returns-in-Err-Memory-clause-any_moment : goal.returns-in-Err-Memory-clause-any_moment
returns-in-Err-Memory-clause-any_moment g c first more is can =
    staged_run c.args.gate (g.D.Device.content c.args.device.now) c.requires.opens first more can g.D.Device.moment g.D.Device.left_since _ c.args.device.now c.write_synced.new.device c.write_synced.ensures.any_moment

pub returns-in-Err-Device-clause-any_moment : goal.returns-in-Err-Device-clause-any_moment
returns-in-Err-Device-clause-any_moment g c first more is can =
    staged_run c.args.gate (g.D.Device.content c.args.device.now) c.requires.opens first more can g.D.Device.moment g.D.Device.left_since _ c.args.device.now c.write_synced.new.device c.write_synced.ensures.any_moment

pub returns-in-Ok-write_synced-clause-any_moment : goal.returns-in-Ok-write_synced-clause-any_moment
returns-in-Ok-write_synced-clause-any_moment g c first more is can =
    let f = g.D.Device.content c.args.device.now in
    let mid = g.D.Device.content c.write_synced.new.device in
    let behind = staged c.args.gate f c.requires.opens first more can mid (subst (λ bytes. Overwrites f (c.args.gate + 1) bytes mid) is c.in-Ok.ensures.written) in
    gate_run c.args.gate f c.requires.opens first more can g.D.Device.moment g.D.Device.left_since _ c.args.device.now c.write_synced.new.device c.write_synced-2.new.device mid behind c.write_synced.ensures.any_moment c.write_synced-2.ensures.any_moment

pub returns-in-Err-NotBegun-write_synced-clause-any_moment : goal.returns-in-Err-NotBegun-write_synced-clause-any_moment
returns-in-Err-NotBegun-write_synced-clause-any_moment g c first more is can =
    let f = g.D.Device.content c.args.device.now in
    let mid = g.D.Device.content c.write_synced.new.device in
    let behind = staged c.args.gate f c.requires.opens first more can mid (subst (λ bytes. Overwrites f (c.args.gate + 1) bytes mid) is c.in-Ok.ensures.written) in
    gate_run c.args.gate f c.requires.opens first more can g.D.Device.moment g.D.Device.left_since _ c.args.device.now c.write_synced.new.device c.write_synced-2.new.device mid behind c.write_synced.ensures.any_moment c.write_synced-2.ensures.any_moment

pub returns-in-Err-Memory-write_synced-clause-any_moment : goal.returns-in-Err-Memory-write_synced-clause-any_moment
returns-in-Err-Memory-write_synced-clause-any_moment g c first more is can =
    let f = g.D.Device.content c.args.device.now in
    let mid = g.D.Device.content c.write_synced.new.device in
    let behind = staged c.args.gate f c.requires.opens first more can mid (subst (λ bytes. Overwrites f (c.args.gate + 1) bytes mid) is c.in-Ok.ensures.written) in
    gate_run c.args.gate f c.requires.opens first more can g.D.Device.moment g.D.Device.left_since _ c.args.device.now c.write_synced.new.device c.write_synced-2.new.device mid behind c.write_synced.ensures.any_moment c.write_synced-2.ensures.any_moment

pub returns-in-Err-Device-write_synced-clause-any_moment : goal.returns-in-Err-Device-write_synced-clause-any_moment
returns-in-Err-Device-write_synced-clause-any_moment g c first more is can =
    let f = g.D.Device.content c.args.device.now in
    let mid = g.D.Device.content c.write_synced.new.device in
    let behind = staged c.args.gate f c.requires.opens first more can mid (subst (λ bytes. Overwrites f (c.args.gate + 1) bytes mid) is c.in-Ok.ensures.written) in
    gate_run c.args.gate f c.requires.opens first more can g.D.Device.moment g.D.Device.left_since _ c.args.device.now c.write_synced.new.device c.write_synced-2.new.device mid behind c.write_synced.ensures.any_moment c.write_synced-2.ensures.any_moment

pub returns-in-Ok-write_synced-clause-opens : goal.returns-in-Ok-write_synced-clause-opens
returns-in-Ok-write_synced-clause-opens g c first more is can =
    let f = g.D.Device.content c.args.device.now in
    let mid = g.D.Device.content c.write_synced.new.device in
    let new = g.D.Device.content c.write_synced-2.new.device in
    let behind = staged c.args.gate f c.requires.opens first more can mid (subst (λ bytes. Overwrites f (c.args.gate + 1) bytes mid) is c.in-Ok.ensures.written) in
    ends_at c.args.gate f c.requires.opens first more can new c.args.spelled.now is (appended c.args.gate f c.requires.opens first more can mid new behind c.in-Ok-write_synced.ensures.written)

pub returns-in-Ok-write_synced-clause-written : goal.returns-in-Ok-write_synced-clause-written
unfolding AreAppended behind_gates
returns-in-Ok-write_synced-clause-written g c first more is =
    let f = g.D.Device.content c.args.device.now in
    let mid = g.D.Device.content c.write_synced.new.device in
    let new = g.D.Device.content c.write_synced-2.new.device in
    let whole = both_written f mid new c.args.spelled.now c.args.gate 1 (gate_within c.args.gate f c.requires.opens) c.in-Ok.ensures.written c.in-Ok-write_synced.ensures.written in
    subst (λ bytes. Overwrites f c.args.gate (1 ∷ bytes) new) is whole
