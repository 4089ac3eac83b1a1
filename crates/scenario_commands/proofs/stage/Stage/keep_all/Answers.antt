use Rattle.std.proofs.Common.{◌≡◌, ◌+◌, List, [], ◌∷◌, ◌++◌, take, sym, ap, subst, ◌∙◌, arith}
use Rattle.std.proofs.lemmas.List.{take_all, take_more}
use Rattle.meta_types.specs.Name.{Key}
use Rattle.scenario_commands.specs.Obeying.{KeepsAll}
use Rattle.scenario_commands.proofs.Staging.{keeps_more}
use Rattle.scenario_commands.proofs.stage.Stage.keep_all.Goals as goal

pub keep_one-requires : goal.keep_one-requires
keep_one-requires c = omega (arith, c.requires, c.loop-key.invariant.1)

pub loop-key-preserved : goal.loop-key-preserved
loop-key-preserved c =
    let keys = c.args.keys.now in
    let next : take (c.loop-key.key-index + 1) keys ≡ take c.loop-key.key-index keys ++ c.key-item.result ∷ [] =
    take_more keys c.loop-key.key-index c.key-item.result c.loop-key-test.true ∙ ap (λ (k : Key). take c.loop-key.key-index keys ++ k ∷ []) (sym c.key-item.is) in (
      subst (λ (ks : List Key). KeepsAll c.args.self.now c.args.node ks c.keep_one.new.self) (sym next)
          (keeps_more c.args.self.now c.loop-key.self c.keep_one.new.self c.args.node (take c.loop-key.key-index keys) (c.key-item.result ∷ []) c.loop-key.invariant.0 c.in_ok-keep_one.ensures.keeps),
      c.in_ok-keep_one.ensures.nodes ∙ c.loop-key.invariant.1,
    )

pub returns : goal.returns
returns c =
    subst (λ (ks : List Key). KeepsAll c.args.self.now c.args.node ks c.loop-key.self) (take_all c.loop-key.key-index c.args.keys.now c.loop-key-test.false) c.loop-key.invariant.0
