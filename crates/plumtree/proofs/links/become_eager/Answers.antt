use Rattle.plumtree.proofs.Peers.{links_eager}
use Rattle.plumtree.proofs.links.become_eager.Goals as goal

pub returns-clause-links : goal.returns-clause-links
returns-clause-links c =
    links_eager c.args.node c.args.eager.now.keys c.args.lazy.now.keys c.change_list.new.to.keys c.change_list.new.from.keys
    c.change_list.ensures.gained c.change_list.ensures.left
