use Rattle.std.proofs.Common.{rules, ◌≡◌, ◌<◌, length, get_or, sym, ap, subst, ◌∙◌}
use Rattle.world_core.specs.World.{World}
use Rattle.world_core.specs.Invariant.{IsWholeWorld}
use Rattle.world_core.proofs.Outcomes.{world_of}
use Rattle.world_core.proofs.Retelling.{all_told, can_tell, next_event}
use Rattle.world_core.proofs.world.World.told.Goals as goal

pub event-requires : goal.event-requires
event-requires c =
    let now : World = c.args.self.now in
    let list : c.as_slice-accepted-items.result.now ≡ now.accepted = c.as_slice-accepted-items.ensures.value ∙ ap (λ (v : World). v.accepted) c.self.view_is in
    let low : c.loop-accepted.accepted-index < length now.accepted = subst (λ events. c.loop-accepted.accepted-index < length events) list c.loop-accepted-test.true in
    let here : get_or now.accepted c.loop-accepted.accepted-index c.accepted-item.result ≡ c.accepted-item.result =
    sym (c.accepted-item.is ∙ ap (λ events. get_or events c.loop-accepted.accepted-index c.accepted-item.result) list) in
    (can_tell now (world_of now (subst IsWholeWorld c.self.view_is c.self.invariant)) c.loop-accepted.accepted-index c.accepted-item.result low here).node

pub id_of-node-requires : goal.id_of-node-requires
id_of-node-requires c =
    let now : World = c.args.self.now in
    let list : c.as_slice-accepted-items.result.now ≡ now.accepted = c.as_slice-accepted-items.ensures.value ∙ ap (λ (v : World). v.accepted) c.self.view_is in
    let low : c.loop-accepted.accepted-index < length now.accepted = subst (λ events. c.loop-accepted.accepted-index < length events) list c.loop-accepted-test.true in
    let here : get_or now.accepted c.loop-accepted.accepted-index c.accepted-item.result ≡ c.accepted-item.result =
    sym (c.accepted-item.is ∙ ap (λ events. get_or events c.loop-accepted.accepted-index c.accepted-item.result) list) in
    (can_tell now (world_of now (subst IsWholeWorld c.self.view_is c.self.invariant)) c.loop-accepted.accepted-index c.accepted-item.result low here).node

pub tell_frames-requires-clause-first : goal.tell_frames-requires-clause-first
tell_frames-requires-clause-first c =
    let now : World = c.args.self.now in
    let list : c.as_slice-accepted-items.result.now ≡ now.accepted = c.as_slice-accepted-items.ensures.value ∙ ap (λ (v : World). v.accepted) c.self.view_is in
    let low : c.loop-accepted.accepted-index < length now.accepted = subst (λ events. c.loop-accepted.accepted-index < length events) list c.loop-accepted-test.true in
    let here : get_or now.accepted c.loop-accepted.accepted-index c.accepted-item.result ≡ c.accepted-item.result =
    sym (c.accepted-item.is ∙ ap (λ events. get_or events c.loop-accepted.accepted-index c.accepted-item.result) list) in
    (can_tell now (world_of now (subst IsWholeWorld c.self.view_is c.self.invariant)) c.loop-accepted.accepted-index c.accepted-item.result low here).first

pub tell_frames-requires-clause-there : goal.tell_frames-requires-clause-there
tell_frames-requires-clause-there c =
    let now : World = c.args.self.now in
    let list : c.as_slice-accepted-items.result.now ≡ now.accepted = c.as_slice-accepted-items.ensures.value ∙ ap (λ (v : World). v.accepted) c.self.view_is in
    let low : c.loop-accepted.accepted-index < length now.accepted = subst (λ events. c.loop-accepted.accepted-index < length events) list c.loop-accepted-test.true in
    let here : get_or now.accepted c.loop-accepted.accepted-index c.accepted-item.result ≡ c.accepted-item.result =
    sym (c.accepted-item.is ∙ ap (λ events. get_or events c.loop-accepted.accepted-index c.accepted-item.result) list) in
    (can_tell now (world_of now (subst IsWholeWorld c.self.view_is c.self.invariant)) c.loop-accepted.accepted-index c.accepted-item.result low here).there

pub loop-accepted-preserved : goal.loop-accepted-preserved
loop-accepted-preserved c =
    let now : World = c.args.self.now in
    let list : c.as_slice-accepted-items.result.now ≡ now.accepted = c.as_slice-accepted-items.ensures.value ∙ ap (λ (v : World). v.accepted) c.self.view_is in
    let low : c.loop-accepted.accepted-index < length now.accepted = subst (λ events. c.loop-accepted.accepted-index < length events) list c.loop-accepted-test.true in
    let here : get_or now.accepted c.loop-accepted.accepted-index c.accepted-item.result ≡ c.accepted-item.result =
    sym (c.accepted-item.is ∙ ap (λ events. get_or events c.loop-accepted.accepted-index c.accepted-item.result) list) in
    next_event now c.loop-accepted.accepted-index c.accepted-item.result low here c.loop-accepted.told c.event.new.self c.tell_frames.new.told
    c.loop-accepted.invariant c.in_ok-event.ensures c.id_of-node.result c.id_of-node.ensures c.in_ok-tell_frames.ensures

pub returns : goal.returns
returns c =
    let now : World = c.args.self.now in
    let list : c.as_slice-accepted-items.result.now ≡ now.accepted = c.as_slice-accepted-items.ensures.value ∙ ap (λ (v : World). v.accepted) c.self.view_is in
    let past_all : c.loop-accepted.accepted-index ≡ length c.as_slice-accepted-items.result.now = search rules in
    let told = all_told now c.loop-accepted.accepted-index c.loop-accepted.told (past_all ∙ ap length list) c.loop-accepted.invariant in
    λ t tells. c.into_history.ensures ∙ told t tells
