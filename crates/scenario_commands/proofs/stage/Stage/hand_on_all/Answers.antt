use Rattle.std.proofs.Common.{◌≡◌, add-one, inl, inr, refl, sym, ap, subst, ◌∙◌, arith}
use Rattle.scenario_commands.specs.Obeying.{HandsOn, HandsOnEach, Stage, waiting}
use Rattle.scenario_commands.proofs.Staging.{hands_more, hands_none}
use Rattle.scenario_commands.proofs.stage.Stage.hand_on_all.Goals as goal

pub hand_on-requires : goal.hand_on-requires
hand_on-requires c = ap waiting c.in-Some.ensures.same ∙ sym c.in-Some.ensures.value

pub loop-delivered-preserved : goal.loop-delivered-preserved
loop-delivered-preserved c =
    rw add-one
    (hands_more c.loop-delivered.delivered c.args.self.now c.loop-delivered.self c.hand_on.new.self c.in-Some.frame c.loop-delivered.invariant (sym c.in-Some.ensures.value)
    (subst (λ (s : Stage). HandsOn s c.in-Some.frame c.hand_on.new.self) c.in-Some.ensures.same c.in_ok-hand_on-in-Some.ensures))

pub returns-in-None : goal.returns-in-None
returns-in-None c = record {
  within = omega (arith, c.loop-delivered-test.true);
  hands_on = subst (λ (s : Stage). HandsOnEach c.args.self.now c.loop-delivered.delivered s) (sym c.in-None.ensures.same) c.loop-delivered.invariant;
  all = inr (ap waiting c.in-None.ensures.same ∙ sym c.in-None.ensures.value);
}

pub loop-delivered-init : goal.loop-delivered-init
loop-delivered-init c = hands_none c.args.self.now

pub returns : goal.returns
returns c =
    let all : c.loop-delivered.delivered ≡ 100000 = omega (arith, c.loop-delivered-test.false, c.loop-delivered.auto.delivered-end) in
    record { within = omega arith; hands_on = subst (λ n. HandsOnEach c.args.self.now n c.loop-delivered.self) all c.loop-delivered.invariant; all = inl refl }
