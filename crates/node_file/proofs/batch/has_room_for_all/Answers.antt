use Rattle.std.proofs.Common.{◌+◌, ◌≤◌, arith, length}
use Rattle.std.proofs.lemmas.Bool.{leb-true}
use Rattle.node_file.proofs.Batches.{few_with_all}
use Rattle.node_file.proofs.batch.has_room_for_all.Goals as goal

pub returns-clause-room : goal.returns-clause-room
returns-clause-room c fits s is =
    let few : c.len.result + length c.args.objects.now ≤ 8192 = leb-true (c.len.result + length c.args.objects.now) 8192 fits in
    few_with_all s c.args.table.now c.args.objects.now (omega (arith, few, c.len.ensures.value)) is
