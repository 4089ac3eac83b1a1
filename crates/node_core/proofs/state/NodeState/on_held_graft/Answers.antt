use Rattle.std.proofs.Common.{◌≡◌, [], ◌∷◌, List, Option, None, true, unwrap_or, sym, ap, ◌∙◌}
use Rattle.std.specs.FinMap.{find}
use Rattle.meta_types.specs.Order.{key_cmp}
use Rattle.dvvset.specs.Object.{Entry}
use Rattle.meta_frame.specs.declared.message.Message.TheVariants.{Gossip}
use Rattle.meta_store.specs.Table.{object_at}
use Rattle.plumtree.specs.Broadcast.{TakesGraft}
use Rattle.node_overlay.specs.Overlay.{envelope}
use Rattle.node_core.proofs.Casting.{after_graft, graft_sent, held_if_stale, told_attempt}
use Rattle.node_core.proofs.Making.{own_frames}
use Rattle.node_core.proofs.state.NodeState.on_held_graft.Goals as goal

-- if nothing is held, which can't be
pub returns-in_default : goal.returns-in_default
returns-in_default c =
    let key = c.args.key.now in
    let table_is = c.store.ensures ∙ ap (λ s. s.table) c.self.view_is in
    let absent : find key_cmp key c.store.result.now ≡ None = sym c.in_default.ensures.value in
    absurd (held_if_stale c.args.self.now.table key c.args.vector.now c.requires.spelled c.requires.held
    (ap (find key_cmp key) (sym table_is) ∙ absent))

pub returns : goal.returns
returns c =
    let s = c.args.self.now in
    let from = c.args.from in
    let round = c.args.round in
    let key = c.args.key.now in
    let object = c.in-Some.object.now in
    let table_is = c.store.ensures ∙ ap (λ s. s.table) c.self.view_is in
    let is : object ≡ object_at s.table key =
    ap (λ (found : Option (List Entry)). unwrap_or found []) c.in-Some.ensures.value ∙ ap (λ t. object_at t key) table_is in
    let sent = own_frames c.self.view_is c.self.invariant.own_views
    (graft_sent from round key object c.self.inside.overlay ∙ ap (λ object. envelope from (Gossip round key object) ∷ []) is)
    c.in_ok-pending.ensures.sends in
    told_attempt (TakesGraft from round key true) s _ c.in_ok-pending.pending c.on_graft.new.self _
    (envelope from (Gossip round key (object_at s.table key)) ∷ []) c.in_ok-pending.outbox c.self.view_is c.self.invariant
    c.in_ok-pending.ensures.pending (after_graft from round key c.args.vector.now s c.requires.held) sent.frames sent.lawful
