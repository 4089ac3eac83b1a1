use Rattle.plumtree.proofs.Peers.{links_lazy}
use Rattle.plumtree.proofs.links.become_lazy.Goals as goal

pub returns-clause-links : goal.returns-clause-links
returns-clause-links c =
    links_lazy c.args.node c.args.eager.now.keys c.args.lazy.now.keys c.change_list.new.from.keys c.change_list.new.to.keys
    c.change_list.ensures.left c.change_list.ensures.gained
