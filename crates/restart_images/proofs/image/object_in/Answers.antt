use Rattle.std.proofs.Common.{◌≡◌, Some, None, sym, ap, ◌∙◌, arith}
use Rattle.restart_images.specs.Images.{holdings}
use Rattle.restart_images.proofs.Chains.{down, none}
use Rattle.restart_images.proofs.image.object_in.Goals as goal

pub returns-in-Some-clause-value : goal.returns-in-Some-clause-value
returns-in-Some-clause-value c =
    (down c.args.images.now c.loop-at.at c.args.number c.at-image.result c.args.key.now (Some c.in-Some.object)
    c.loop-at-test.true c.loop-at.invariant.0 c.requires.earlier c.at-image.ensures (sym c.in-Some.is ∙ c.in_ok-object.ensures.value) c.loop-at.invariant.1).1

pub loop-at-preserved : goal.loop-at-preserved
loop-at-preserved c =
    let d = down c.args.images.now c.loop-at.at c.args.number c.at-image.result c.args.key.now None
    c.loop-at-test.true c.loop-at.invariant.0 c.requires.earlier c.at-image.ensures (sym c.in_default.is ∙ c.in_ok-object.ensures.value) c.loop-at.invariant.1 in
    (omega (arith, d.0, c.base-at.ensures, c.loop-at.invariant.0), ap (λ b. holdings c.args.images.now b c.args.key.now) c.base-at.ensures ∙ d.1)

pub returns-clause-value : goal.returns-clause-value
returns-clause-value c =
    sym (none c.args.images.now c.args.key.now)
    ∙ ap (λ n. holdings c.args.images.now n c.args.key.now) (let e : 0 ≡ c.loop-at.at = omega (arith, c.loop-at-test.false) in e) ∙ c.loop-at.invariant.1
