use Rattle.std.proofs.Common.{◌≡◌, ◌+◌, List, length, map, None, Ok}
use Rattle.std.proofs.lemmas.Result.{on_ok_weaker}
use Rattle.devices.specs.Device.{LeavesOnly}
use Rattle.node_file.specs.declared.record.Record.{Record}
use Rattle.node_file.specs.Batch.{AreAppended, CanTakeAll, NoneOrAll, state_with_all}
use Rattle.node_file.specs.Clean.{row_record}
use Rattle.node_file.specs.File.{file_state, opened}
use Rattle.node_file.proofs.Batches.{by_first}
use Rattle.node_file.proofs.putting.put_batch.Goals as goal

pub returns-clause-any_moment : goal.returns-clause-any_moment
returns-clause-any_moment g c =
    let f = g.D.Device.content c.args.device.now in
    let holds : List Record → Type 0 = λ records. CanTakeAll (file_state f) records → LeavesOnly g.D.Device.moment g.D.Device.left_since c.args.device.now c.put_spelled.new.device (NoneOrAll f records) in
    by_first holds c.args.spelled.now (map row_record c.args.objects.now) c.requires.bytes c.put_spelled.ensures.any_moment c.requires.can_take

pub returns-clause-written : goal.returns-clause-written
returns-clause-written g c =
    let f = g.D.Device.content c.args.device.now in
    let holds : List Record → Type 0 = λ records. AreAppended c.args.gate records f (g.D.Device.content c.put_spelled.new.device) in
    on_ok_weaker c.put_spelled.result (λ written. by_first holds c.args.spelled.now (map row_record c.args.objects.now) c.requires.bytes written) c.put_spelled.ensures.written

pub returns-clause-opens : goal.returns-clause-opens
returns-clause-opens g c =
    let f = g.D.Device.content c.args.device.now in
    let holds : List Record → Type 0 = λ records. CanTakeAll (file_state f) records
    → opened None (g.D.Device.content c.put_spelled.new.device) ≡ Ok (state_with_all (file_state f) records, c.args.gate + length c.args.spelled.now) in
    on_ok_weaker c.put_spelled.result (λ opens. by_first holds c.args.spelled.now (map row_record c.args.objects.now) c.requires.bytes opens c.requires.can_take) c.put_spelled.ensures.opens
