use Rattle.std.proofs.Common.{◌≡◌, ◌∙◌, None, Some, subst, sym}
use Rattle.std.proofs.lemmas.List.{length-map}
use Rattle.scenario_text.specs.Script.{commands_of, first_bad, scenario_of}
use Rattle.scenario.proofs.Playing.{ends_scenario, writes_scenario}
use Rattle.scenario_commands.proofs.Results.{on_err, on_ok}
use Rattle.scenario.proofs.run.play_text.Goals as goal

pub returns-in-Some-clause-ok : goal.returns-in-Some-clause-ok
returns-in-Some-clause-ok g c =
    let same = sym (length-map c.args.resolvers.now (λ r. (goal.Resolver-dyn g (r.vtable, r.value)).choice r.value)) in
    on_ok c.play.result
    (writes_scenario _ c.args.text.now c.in-Some.script _ _ (subst (λ n. first_bad n c.args.text.now ≡ None) same c.in_ok-script.ensures.0)
    (subst (λ n. scenario_of (commands_of n c.args.text.now) ≡ Some c.in-Some.script) same (sym c.in_ok-script.ensures.1 ∙ c.in-Some.is))) c.play.ensures.ok

pub returns-in-Some-clause-err : goal.returns-in-Some-clause-err
returns-in-Some-clause-err g c =
    let same = sym (length-map c.args.resolvers.now (λ r. (goal.Resolver-dyn g (r.vtable, r.value)).choice r.value)) in
    on_err c.play.result
    (λ fault. ends_scenario _ c.args.text.now c.in-Some.script _ _ fault (subst (λ n. first_bad n c.args.text.now ≡ None) same c.in_ok-script.ensures.0)
    (subst (λ n. scenario_of (commands_of n c.args.text.now) ≡ Some c.in-Some.script) same (sym c.in_ok-script.ensures.1 ∙ c.in-Some.is))) c.play.ensures.err
