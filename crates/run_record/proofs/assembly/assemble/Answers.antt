use Rattle.run_record.proofs.Wholeness.{have_nodes}
use Rattle.run_record.proofs.assembly.assemble.Goals as goal

pub find_all_sent-requires : goal.find_all_sent-requires
find_all_sent-requires c = have_nodes c.args.closed.now c.requires

pub find_order-requires : goal.find_order-requires
find_order-requires c = have_nodes c.args.closed.now c.requires
