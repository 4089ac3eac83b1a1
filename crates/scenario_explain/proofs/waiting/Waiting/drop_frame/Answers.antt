use Rattle.std.proofs.Common.{List, ℕ, Ok, Err, Result, refl, subst}
use Rattle.std.specs.List.Sorted.{IsBinarySearchResult}
use Rattle.std.specs.Ordering.{nat_cmp}
use Rattle.std.proofs.lemmas.List.Sorted.{searched}
use Rattle.scenario_explain.proofs.Noting.{dropped, rises}
use Rattle.scenario_explain.proofs.waiting.Waiting.drop_frame.Goals as goal

pub returns-in-Ok-clause-frames : goal.returns-in-Ok-clause-frames
returns-in-Ok-clause-frames c given some is =
    let frame = c.args.frame in
    let found : Result ℕ ℕ = Ok c.in-Ok.place in
    let position = subst (λ (xs : List ℕ). IsBinarySearchResult (λ y. nat_cmp y frame) xs found) c.as_slice.ensures.value c.in-Ok.ensures.position in
    dropped c.args.self.now.frames.items c.remove.new.self.items frame given found (searched _ frame found position (rises _ given is)) c.remove.ensures.items some is

pub returns-in_default-clause-frames : goal.returns-in_default-clause-frames
returns-in_default-clause-frames c given some is =
    let frame = c.args.frame in
    let found : Result ℕ ℕ = Err c.in_default.field-0 in
    let position =
    subst (λ (xs : List ℕ). IsBinarySearchResult (λ y. nat_cmp y frame) xs found) c.as_slice.ensures.value
    (subst (IsBinarySearchResult (λ y. nat_cmp y frame) c.as_slice.result.now) c.in_default.is c.binary_search.ensures.position) in
    dropped c.args.self.now.frames.items c.args.self.now.frames.items frame given found (searched _ frame found position (rises _ given is)) refl some is
