use Rattle.std.proofs.Common.{rules, ◌≡◌, List, subst, ◌∙◌}
use Rattle.past_model.specs.declared.happening.Happening.{Happening}
use Rattle.past_model.specs.Past.{known}
use Rattle.past_model.specs.Shown.{ArePlaces}
use Rattle.world_core.proofs.world.World.known.Goals as goal

pub returns-clause-places : goal.returns-clause-places
returns-clause-places c = λ t tells.
    let same : c.in_ok-plain.plain ≡ t.history = c.in_ok-plain.ensures ∙ c.as_slice.ensures.value ∙ c.in_ok-history.ensures.value t tells in
    let id : c.in_ok-id.id ≡ c.args.node = search rules in
    subst (λ (hs : List Happening). ArePlaces (known hs c.args.node c.args.key.now) c.in_ok-known.field-0.items) same
    (subst (λ n. ArePlaces (known c.in_ok-plain.plain n c.args.key.now) c.in_ok-known.field-0.items) id c.in_ok-known.ensures)
