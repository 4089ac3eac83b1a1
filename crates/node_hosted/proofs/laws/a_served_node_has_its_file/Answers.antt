use Rattle.std.proofs.Common.{rules}
use Rattle.meta_store.specs.Table.{IsTable}
use Rattle.node_hosted.proofs.Filing.{served}
use Rattle.node_hosted.proofs.laws.a_served_node_has_its_file.Goals as goal

pub returns : goal.returns
returns c = λ asked file serves.
    let node = c.args.node.now in
    let table : IsTable node.state.table = search rules in
    served asked file node table serves
