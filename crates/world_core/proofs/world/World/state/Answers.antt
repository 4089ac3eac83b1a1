use Rattle.std.proofs.Common.{rules, ◌≡◌, ◌<◌, length, subst, ap, ◌∙◌}
use Rattle.restart_images.specs.Node.{new_node}
use Rattle.world_core.specs.Refusal.{node_at}
use Rattle.world_core.specs.World.{World}
use Rattle.world_core.specs.Invariant.{IsWholeWorld}
use Rattle.world_core.specs.contracts.world.World.{the_view}
use Rattle.world_core.proofs.Outcomes.{same_node, world_of}
use Rattle.world_core.proofs.Shown.{state_holds, state_life, state_shows}
use Rattle.world_core.proofs.world.World.state.Goals as goal

pub returns-in-Ok-clause-lends : goal.returns-in-Ok-clause-lends
returns-in-Ok-clause-lends c =
    let w : World = the_view c.self.inside in
    let low : c.in-Ok.at < length w.nodes = search rules in
    let number : c.in-Ok.at ≡ c.args.node = search rules in
    c.state.ensures ∙ ap (λ m. m.state) (same_node w c.in-Ok.at c.index.result.now low (search rules))
    ∙ ap (λ n. (node_at w n).state) number ∙ ap (λ (v : World). (node_at v c.args.node).state) c.self.view_is

pub returns-in-Ok-clause-shows : goal.returns-in-Ok-clause-shows
returns-in-Ok-clause-shows c =
    let w : World = the_view c.self.inside in
    let here : c.in-Ok.at < length w.nodes = search rules in
    let number : c.in-Ok.at ≡ c.args.node = search rules in
    let low : c.args.node < length c.args.self.now.nodes =
    subst (λ (v : World). c.args.node < length v.nodes) c.self.view_is (subst (λ n. n < length w.nodes) number here) in
    state_shows c.args.self.now (world_of c.args.self.now (subst IsWholeWorld c.self.view_is c.self.invariant)) c.args.node low
    c.state.result.now (returns-in-Ok-clause-lends c)

pub returns-in-Ok-clause-objects : goal.returns-in-Ok-clause-objects
returns-in-Ok-clause-objects c =
    let w : World = the_view c.self.inside in
    let here : c.in-Ok.at < length w.nodes = search rules in
    let number : c.in-Ok.at ≡ c.args.node = search rules in
    let low : c.args.node < length c.args.self.now.nodes =
    subst (λ (v : World). c.args.node < length v.nodes) c.self.view_is (subst (λ n. n < length w.nodes) number here) in
    state_holds c.args.self.now (world_of c.args.self.now (subst IsWholeWorld c.self.view_is c.self.invariant)) c.args.node low
    c.state.result.now (returns-in-Ok-clause-lends c)

pub returns-in-Ok-clause-lived : goal.returns-in-Ok-clause-lived
returns-in-Ok-clause-lived c =
    let w : World = the_view c.self.inside in
    let here : c.in-Ok.at < length w.nodes = search rules in
    let number : c.in-Ok.at ≡ c.args.node = search rules in
    let low : c.args.node < length c.args.self.now.nodes =
    subst (λ (v : World). c.args.node < length v.nodes) c.self.view_is (subst (λ n. n < length w.nodes) number here) in
    (world_of c.args.self.now (subst IsWholeWorld c.self.view_is c.self.invariant)).lived c.args.node (new_node c.args.node) low

pub returns-in-Ok-clause-life : goal.returns-in-Ok-clause-life
returns-in-Ok-clause-life c =
    let w : World = the_view c.self.inside in
    let here : c.in-Ok.at < length w.nodes = search rules in
    let number : c.in-Ok.at ≡ c.args.node = search rules in
    let low : c.args.node < length c.args.self.now.nodes =
    subst (λ (v : World). c.args.node < length v.nodes) c.self.view_is (subst (λ n. n < length w.nodes) number here) in
    state_life c.args.self.now (world_of c.args.self.now (subst IsWholeWorld c.self.view_is c.self.invariant)) c.args.node low
    c.state.result.now (returns-in-Ok-clause-lends c)
