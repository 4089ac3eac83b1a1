use Rattle.std.proofs.Common.{rules, ◌≡◌, ◌<◌, ◌≤◌, length, ap, subst, sym, ◌∙◌}
use Rattle.restart_images.specs.Keeping.{most_incarnation}
use Rattle.world_core.specs.World.{World}
use Rattle.world_core.specs.contracts.world.World.{the_view}
use Rattle.world_core.specs.Refusal.{RefusesEvent, node_at}
use Rattle.world_core.specs.declared.event.Event.TheVariants.{Restart}
use Rattle.world_core.specs.declared.fault.WorldFault.TheVariants.{IncarnationSpent, NoSuchImage}
use Rattle.world_core.proofs.Outcomes.{same_node}
use Rattle.world_core.proofs.Refusing.{no_image_refuses, spent_refuses}
use Rattle.world_core.proofs.world.World.image_number.Goals as goal

pub returns-then-len-image-clause-fault : goal.returns-then-len-image-clause-fault
returns-then-len-image-clause-fault c =
    let w : World = the_view c.self.inside in
    let low : c.args.node < length w.nodes = search rules in
    let at : c.index-there.result.now ≡ node_at w c.args.node = same_node w c.args.node c.index-there.result.now low (search rules) in
    let fewer : length c.index-there.result.now.images < c.args.image = search rules in
    subst (λ (v : World). RefusesEvent v (Restart c.args.node c.args.image) NoSuchImage) c.self.view_is
    (no_image_refuses w c.args.node c.args.image low (subst (λ m. length m.images < c.args.image) at fewer))

pub returns-then-incarnation-clause-fault : goal.returns-then-incarnation-clause-fault
returns-then-incarnation-clause-fault c =
    let w : World = the_view c.self.inside in
    let low : c.args.node < length w.nodes = search rules in
    let at : c.index-there.result.now ≡ node_at w c.args.node = same_node w c.args.node c.index-there.result.now low (search rules) in
    let enough : c.args.image ≤ length c.index-there.result.now.images = search rules in
    let last : c.index-there.result.now.state.incarnation ≡ most_incarnation = search rules in
    subst (λ (v : World). RefusesEvent v (Restart c.args.node c.args.image) IncarnationSpent) c.self.view_is
    (spent_refuses w c.args.node c.args.image low (subst (λ m. c.args.image ≤ length m.images) at enough) (sym (ap (λ m. m.state.incarnation) at) ∙ last))

pub returns-clause-value : goal.returns-clause-value
returns-clause-value c =
    let w : World = the_view c.self.inside in
    let low : c.args.node < length w.nodes = search rules in
    let at : c.index-there.result.now ≡ node_at w c.args.node = same_node w c.args.node c.index-there.result.now low (search rules) in
    let enough : c.args.image ≤ length c.index-there.result.now.images = search rules in
    (search rules, subst (λ (v : World). c.args.image ≤ length (node_at v c.args.node).images) c.self.view_is (subst (λ m. c.args.image ≤ length m.images) at enough))

pub returns-clause-left : goal.returns-clause-left
returns-clause-left c =
    let w : World = the_view c.self.inside in
    let low : c.args.node < length w.nodes = search rules in
    let at : c.index-there.result.now ≡ node_at w c.args.node = same_node w c.args.node c.index-there.result.now low (search rules) in
    let life : c.index-there.result.now.state.incarnation < most_incarnation = search rules in
    subst (λ (v : World). (node_at v c.args.node).state.incarnation < most_incarnation) c.self.view_is (subst (λ m. m.state.incarnation < most_incarnation) at life)
