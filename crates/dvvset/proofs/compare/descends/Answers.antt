use Rattle.std.proofs.Common.{◌≡◌, ◌∙◌}
use Rattle.std.proofs.lemmas.List.{map-id}
use Rattle.dvvset.specs.Clock.{descends}
use Rattle.dvvset.proofs.Answered.{answered}
use Rattle.dvvset.proofs.Descending.{descends-Decides}
use Rattle.dvvset.proofs.compare.descends.Goals as goal

pub returns-clause-counters : goal.returns-clause-counters
returns-clause-counters c =
    let a = map-id c.counters.result.now ∙ c.counters.ensures.value in
    let b = map-id c.counters-2.result.now ∙ c.counters-2.ensures.value in
    let value : c.descends_over.result ≡ descends c.args.a.now c.args.b.now = c.descends_over.ensures ∙ (λ i. descends (a i) (b i)) in
    answered c.descends_over.result (descends c.args.a.now c.args.b.now) value (descends-Decides c.args.a.now c.args.b.now c.counters-2.ensures.lawful)
