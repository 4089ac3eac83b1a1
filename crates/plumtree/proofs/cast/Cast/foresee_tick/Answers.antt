use Rattle.std.proofs.Common.{sym, ap, ◌∙◌}
use Rattle.plumtree.specs.Draft.{Draft}
use Rattle.plumtree.specs.Broadcast.{broadcast_of, draft_of}
use Rattle.plumtree.specs.Ticking.{peers_of}
use Rattle.plumtree.proofs.Ticking.{on_tick-parts}
use Rattle.plumtree.proofs.cast.Cast.foresee_tick.Goals as goal
use Rattle.plumtree.proofs.cast.Cast.foresee_tick.Goals.{After-draft}

pub returns-clause-peers : goal.returns-clause-peers
returns-clause-peers c =
    ap (λ (t : Draft). peers_of (broadcast_of t)) (c.draft.view_is ∙ c.in_ok-draft.ensures) ∙ sym (ap (λ (t : Draft). peers_of (broadcast_of t)) (on_tick-parts (draft_of c.args.self.now)))

pub returns-clause-out : goal.returns-clause-out
returns-clause-out c =
    ap (λ (t : Draft). t.out) (c.draft.view_is ∙ c.in_ok-draft.ensures) ∙ sym (ap (λ (t : Draft). t.out) (on_tick-parts (draft_of c.args.self.now)))
