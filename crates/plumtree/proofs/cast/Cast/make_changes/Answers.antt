use Rattle.std.proofs.Common.{◌≡◌, ◌<◌, ◌+◌, List, drop, length, sym, ap, ◌∙◌, arith}
use Rattle.dvvset.proofs.Rising.{drop_is}
use Rattle.plumtree.specs.declared.entry.PeerChange.{PeerChange}
use Rattle.plumtree.specs.Broadcast.{Broadcast, broadcast_with, peer_call}
use Rattle.plumtree.specs.Lawful.{after_call}
use Rattle.plumtree.specs.Ticking.{Peers, with_peers}
use Rattle.plumtree.proofs.PeerChanges.{changed, down-waits, same-waits, up-waits}
use Rattle.plumtree.proofs.cast.Cast.make_changes.Goals as goal
use Rattle.plumtree.proofs.cast.Cast.make_changes.Goals.{in-Down, in_default}

pub loop-change-init : goal.loop-change-init
loop-change-init c =
    let first = broadcast_with c.peers.inside.eager.keys c.peers.inside.lazy.keys c.self.inside.queue.items c.self.inside.missing.items in
    record {
      eager = ap (λ (p : Peers). p.eager) c.peers.view_is;
      lazy = ap (λ (p : Peers). p.lazy) c.peers.view_is;
      waits = same-waits c.args.changes.now c.args.peers first c.args.self.now (ap (with_peers c.args.peers) c.self.view_is);
    }

pub loop-change-preserved : goal.loop-change-preserved
loop-change-preserved c =
    let held = c.loop-change.invariant in
    let old = c.loop-change.self-inside in
    let b = broadcast_with old.eager.keys old.lazy.keys old.queue.items old.missing.items in
    let peers = c.args.peers in
    let i = c.loop-change.change-index in
    let change = c.change-item.result in
    let within : i < length c.args.changes.now = omega arith in
    let rest = drop (i + 1) c.args.changes.now in
    let goes_on = λ (next : Broadcast) (same : with_peers peers next ≡ with_peers peers (after_call b (peer_call change))).
    same-waits rest peers next (after_call b (peer_call change)) same
    ∙ ap (λ (xs : List PeerChange). with_peers peers (changed b xs)) (sym (drop_is c.args.changes.now i change within c.change-item.is)) ∙ held.waits in
    elim c.match-change.branch [
      | in-Down w ↦
          let next = broadcast_with old.eager.keys old.lazy.keys w.leave_queue.new.queue.items w.lose_announcer.new.missing.items in
          rw w.self-inside-is (record {
            eager = held.eager;
            lazy = held.lazy;
            waits = goes_on next
                ((λ i. broadcast_with peers.eager peers.lazy (w.leave_queue.ensures i) (w.lose_announcer.ensures i))
                ∙ sym (down-waits w.in-Down.node peers b) ∙ ap (λ change. with_peers peers (after_call b (peer_call change))) (sym w.in-Down.is));
          })
      | in_default w ↦
          rw w.self-inside-is (record {
            eager = held.eager;
            lazy = held.lazy;
            waits = goes_on b (sym (up-waits w.in_default.field-0 peers b) ∙ ap (λ change. with_peers peers (after_call b (peer_call change))) (sym w.in_default.is));
          })
    ]
