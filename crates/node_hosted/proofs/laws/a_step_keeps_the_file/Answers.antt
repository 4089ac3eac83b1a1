use Rattle.std.proofs.Common.{rules}
use Rattle.meta_store.specs.Table.{IsTable}
use Rattle.node_hosted.proofs.Filing.{stepped}
use Rattle.node_hosted.proofs.laws.a_step_keeps_the_file.Goals as goal

pub returns : goal.returns
returns c = λ file old acts is.
    let node = c.args.node.now in
    let table : IsTable node.state.table = search rules in
    stepped file old c.args.event.now node c.each_step_grows.ensures table acts is
