use Rattle.std.proofs.Common.{[]}
use Rattle.std.proofs.lemmas.Result.{on_ok_weaker}
use Rattle.node_file.specs.Batch.{AreAppended}
use Rattle.node_file.specs.Clean.{behind_gates}
use Rattle.node_file.specs.File.{IsAppended}
use Rattle.node_file.specs.Reads.{record_given}
use Rattle.node_file.proofs.Appending.{alone}
use Rattle.node_file.proofs.putting.put_record.Goals as goal

pub returns-clause-any_moment : goal.returns-clause-any_moment
unfolding behind_gates
returns-clause-any_moment g c =
    let r = record_given c.args.given in
    c.put_spelled.ensures.any_moment r [] c.requires.bytes (alone c.args.gate (g.D.Device.content c.args.device.now) c.requires.opens r c.requires.version c.requires.lawful c.requires.follows c.requires.room)

pub returns-clause-written : goal.returns-clause-written
unfolding AreAppended IsAppended behind_gates
returns-clause-written g c = on_ok_weaker c.put_spelled.result (λ written. written (record_given c.args.given) [] c.requires.bytes) c.put_spelled.ensures.written

pub returns-clause-opens : goal.returns-clause-opens
unfolding behind_gates
returns-clause-opens g c =
    let r = record_given c.args.given in
    on_ok_weaker c.put_spelled.result
    (λ opens. opens r [] c.requires.bytes (alone c.args.gate (g.D.Device.content c.args.device.now) c.requires.opens r c.requires.version c.requires.lawful c.requires.follows c.requires.room))
    c.put_spelled.ensures.opens
