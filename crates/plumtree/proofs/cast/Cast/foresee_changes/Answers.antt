use Rattle.std.proofs.Common.{◌≡◌, ◌<◌, ◌+◌, List, [], drop, length, sym, ap, ◌∙◌, arith}
use Rattle.std.proofs.lemmas.List.Elements.{same_from_all_zip}
use Rattle.dvvset.proofs.Rising.{drop_is}
use Rattle.plumtree.specs.declared.entry.PeerChange.{PeerChange}
use Rattle.plumtree.specs.Broadcast.{Broadcast, broadcast_with, peer_call}
use Rattle.plumtree.specs.Lawful.{after_call}
use Rattle.plumtree.specs.Ticking.{peers_of}
use Rattle.plumtree.proofs.PeerChanges.{alone, changed, changes-alone}
use Rattle.plumtree.proofs.cast.Cast.foresee_changes.Goals as goal

pub loop-change-init : goal.loop-change-init
loop-change-init c =
    let eager : c.in_ok-clone.field-0.keys ≡ c.self.inside.eager.keys = same_from_all_zip _ _ _ c.in_ok-clone.ensures.cases (λ x y same. same) in
    let lazy : c.in_ok-clone-2.field-0.keys ≡ c.self.inside.lazy.keys = same_from_all_zip _ _ _ c.in_ok-clone-2.ensures.cases (λ x y same. same) in
    (λ i. peers_of (changed (broadcast_with (eager i) (lazy i) [] []) c.args.changes.now))
    ∙ ap (λ (b : Broadcast). peers_of (changed (alone (peers_of b)) c.args.changes.now)) c.self.view_is ∙ sym (changes-alone c.args.changes.now c.args.self.now)

pub loop-change-preserved : goal.loop-change-preserved
loop-change-preserved c =
    let i = c.loop-change.change-index in
    let change = c.change-item.result in
    let within : i < length c.args.changes.now = omega arith in
    let rest = drop (i + 1) c.args.changes.now in
    let before = alone c.loop-change.peers in
    ap (λ peers. peers_of (changed (alone peers) rest)) c.in_ok-change.ensures ∙ sym (changes-alone rest (after_call before (peer_call change)))
    ∙ ap (λ (xs : List PeerChange). peers_of (changed before xs)) (sym (drop_is c.args.changes.now i change within c.change-item.is)) ∙ c.loop-change.invariant
