use Rattle.std.proofs.Common.{◌≡◌, ℕ, Option, Some, IsSome, refl, sym, subst, ap, ◌∙◌}
use Rattle.node_events.specs.declared.event.NodeEvent.TheVariants.{Write}
use Rattle.run_record.specs.declared.giving.Giver.{Giver}
use Rattle.run_record.specs.Order.{IsGivenBy, IsPassedGiver}
use Rattle.world_core.specs.Numbers.{numbered}
use Rattle.run_record.specs.Replay.{mark_at}
use Rattle.run_record.proofs.Naming.{named_read}
use Rattle.run_record.proofs.replay.Replay.read_of.Goals as goal

pub unwrap-requires : goal.unwrap-requires
unwrap-requires c =
    let closed = c.args.closed.now in
    let next = c.args.self.now.next.items in
    let rows = c.args.self.now.marks.items in
    let step = Write c.args.key.now c.args.value.now (Some c.args.context.now) in
    let g = c.in-Some.giver in
    let passed : IsPassedGiver closed next step g =
    subst (λ (o : Option Giver). IsGivenBy closed next step o) c.in-Some.is c.requires.given in
    let at : mark_at rows g.node g.place ≡ Some c.mark_of.result =
    rw c.as_slice.ensures.value at c.mark_of.ensures in
    let n = named_read closed c.args.self.now.world next rows c.args.key.now c.args.value.now
    c.args.context.now g c.mark_of.result c.requires.replay.marks passed at in
    subst (λ (x : Option ℕ). IsSome x) (sym n.1.0) refl

pub returns : goal.returns
returns c =
    let closed = c.args.closed.now in
    let w = c.args.self.now.world in
    let next = c.args.self.now.next.items in
    let rows = c.args.self.now.marks.items in
    let step = Write c.args.key.now c.args.value.now (Some c.args.context.now) in
    let g = c.in-Some.giver in
    let passed : IsPassedGiver closed next step g =
    subst (λ (o : Option Giver). IsGivenBy closed next step o) c.in-Some.is c.requires.given in
    let at : mark_at rows g.node g.place ≡ Some c.mark_of.result =
    rw c.as_slice.ensures.value at c.mark_of.ensures in
    let n = named_read closed w next rows c.args.key.now c.args.value.now c.args.context.now g
    c.mark_of.result c.requires.replay.marks passed at in
    let same : c.unwrap.result ≡ n.0 = cc (c.unwrap.ensures, n.1.0) in
    ap (λ k. numbered w.contexts k) same ∙ n.1.1
