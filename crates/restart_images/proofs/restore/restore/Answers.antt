use Rattle.std.proofs.Common.{sym, subst}
use Rattle.restart_images.proofs.Restoring.{Filling, next, room, step, whole}
use Rattle.restart_images.proofs.restore.restore.Goals as goal

pub fill-requires : goal.fill-requires
fill-requires c =
    let is = next c.args.images.now c.loop-at.at c.at-image.result c.loop-at-test.true c.loop-at.invariant.low c.requires.earlier c.at-image.ensures in
    λ held. room c.args.images.now c.args.number c.loop-at.at c.loop-at.store c.requires.tabled c.loop-at.invariant c.at-image.result is held

pub loop-at-preserved : goal.loop-at-preserved
loop-at-preserved c =
    let is = next c.args.images.now c.loop-at.at c.at-image.result c.loop-at-test.true c.loop-at.invariant.low c.requires.earlier c.at-image.ensures in
    let done = c.in_ok-fill.ensures in
    subst (λ at. Filling c.args.images.now c.args.number at c.fill.new.store) (sym c.base-at.ensures)
    (step c.args.images.now c.args.number c.loop-at.at c.loop-at.store c.fill.new.store c.loop-at.invariant c.at-image.result is done.is_table done.value)

pub returns : goal.returns
returns c = record { value = λ k. whole c.args.images.now c.args.number c.loop-at.at c.loop-at.store c.loop-at-test.false c.loop-at.invariant k }
