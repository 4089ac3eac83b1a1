use Rattle.std.proofs.Common.{◌≡◌, sym, ap, ◌∙◌}
use Rattle.plumtree.specs.Broadcast.{Broadcast, broadcast_with}
use Rattle.plumtree.specs.Ticking.{missing_after}
use Rattle.plumtree.proofs.Ticking.{tick_made}
use Rattle.plumtree.proofs.cast.Cast.make_tick.Goals as goal

pub returns : goal.returns
returns c =
    let peers = c.peers.view_is in
    let missing : c.lose_ticks.new.missing.items ≡ missing_after c.args.self.now.missing =
    c.lose_ticks.ensures ∙ ap (λ (b : Broadcast). missing_after b.missing) c.self.view_is in
    (λ i. broadcast_with (peers i).eager (peers i).lazy (c.clear.ensures.items i) (missing i)) ∙ sym (tick_made c.args.peers c.args.self.now)
