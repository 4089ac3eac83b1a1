use Rattle.std.proofs.Common.{rules, ◌≡◌, ◌<◌, length, sym, subst, ap, ◌∙◌}
use Rattle.restart_images.specs.Images.{ChangeEarlier}
use Rattle.world_core.specs.Refusal.{node_at}
use Rattle.world_core.specs.World.{World}
use Rattle.world_core.specs.Invariant.{IsWholeWorld}
use Rattle.world_core.specs.contracts.world.World.{the_view}
use Rattle.world_core.proofs.Outcomes.{same_node, world_of}
use Rattle.world_core.proofs.Shown.{images_number, images_show}
use Rattle.world_core.proofs.world.World.images.Goals as goal

pub returns-in-Ok-clause-lends : goal.returns-in-Ok-clause-lends
returns-in-Ok-clause-lends c =
    let w : World = the_view c.self.inside in
    let low : c.in-Ok.at < length w.nodes = search rules in
    let number : c.in-Ok.at ≡ c.args.node = search rules in
    c.images.ensures.value ∙ ap (λ m. m.images) (same_node w c.in-Ok.at c.index.result.now low (search rules))
    ∙ ap (λ n. (node_at w n).images) number ∙ ap (λ (v : World). (node_at v c.args.node).images) c.self.view_is

pub returns-in-Ok-clause-number : goal.returns-in-Ok-clause-number
returns-in-Ok-clause-number c =
    let w : World = the_view c.self.inside in
    let here : c.in-Ok.at < length w.nodes = search rules in
    let number : c.in-Ok.at ≡ c.args.node = search rules in
    let low : c.args.node < length c.args.self.now.nodes =
    subst (λ (v : World). c.args.node < length v.nodes) c.self.view_is (subst (λ n. n < length w.nodes) number here) in
    images_number c.args.self.now (world_of c.args.self.now (subst IsWholeWorld c.self.view_is c.self.invariant)) c.args.node low
    c.images.result.now (returns-in-Ok-clause-lends c)

pub returns-in-Ok-clause-objects : goal.returns-in-Ok-clause-objects
returns-in-Ok-clause-objects c =
    let w : World = the_view c.self.inside in
    let here : c.in-Ok.at < length w.nodes = search rules in
    let number : c.in-Ok.at ≡ c.args.node = search rules in
    let low : c.args.node < length c.args.self.now.nodes =
    subst (λ (v : World). c.args.node < length v.nodes) c.self.view_is (subst (λ n. n < length w.nodes) number here) in
    images_show c.args.self.now (world_of c.args.self.now (subst IsWholeWorld c.self.view_is c.self.invariant)) c.args.node low
    c.images.result.now (returns-in-Ok-clause-lends c)

pub returns-in-Ok-clause-earlier : goal.returns-in-Ok-clause-earlier
returns-in-Ok-clause-earlier c = subst ChangeEarlier (sym c.images.ensures.value) c.images.ensures.restorable.earlier
