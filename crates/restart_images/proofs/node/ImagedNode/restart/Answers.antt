use Rattle.std.proofs.Common.{rules, ◌≡◌, ◌+◌, ◌<◌, ◌≤◌, length, refl, subst}
use Rattle.meta_types.specs.Name.{Key}
use Rattle.meta_store.specs.Table.{IsTable, object_at}
use Rattle.node_core.specs.Node.{opening}
use Rattle.restart_images.specs.Images.{holdings}
use Rattle.restart_images.specs.Keeping.{most_incarnation}
use Rattle.restart_images.specs.Node.{ImagedNode, IsRestarted, with_images}
use Rattle.restart_images.specs.contracts.node.ImagedNode.{the_view}
use Rattle.restart_images.proofs.Stepping.{restart_restorable}
use Rattle.restart_images.proofs.node.ImagedNode.restart.Goals as goal

pub invariant_of-self : goal.invariant_of-self
invariant_of-self c =
    let old : ImagedNode = the_view c.self.inside in
    let is : c.replace.new.dest ≡ opening old.state.node (old.state.incarnation + 1) c.in_ok-store.store = search rules in
    let low : c.args.number ≤ length old.images = search rules in
    let left : old.state.incarnation < most_incarnation = search rules in
    let same : (key : Key) → object_at c.in_ok-store.store key ≡ holdings old.images c.args.number key = search rules in
    restart_restorable old c.args.number c.in_ok-store.store c.replace.new.dest c.self.invariant low left same is

pub returns-clause-restarted : goal.returns-clause-restarted
returns-clause-restarted c =
    let old : ImagedNode = the_view c.self.inside in
    let is : c.replace.new.dest ≡ opening old.state.node (old.state.incarnation + 1) c.in_ok-store.store = search rules in
    let low : c.args.number ≤ length old.images = search rules in
    let same : (key : Key) → object_at c.in_ok-store.store key ≡ holdings old.images c.args.number key = search rules in
    let is_table : IsTable c.in_ok-store.store = search rules in
    subst (λ n. IsRestarted n c.args.number (with_images c.replace.new.dest c.self.inside.images c.args.number)) c.self.view_is
    (record {
      begins = record { there = low; table = c.in_ok-store.store; is_table = is_table; restored = same; begins = is };
      images = refl;
      standing = refl;
    })
