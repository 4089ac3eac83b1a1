use Rattle.std.proofs.Common.{◌≡◌, ◌++◌, List, ℕ, length, codes, rules, ap, ◌∙◌}
use Rattle.scenario_commands.proofs.Results.{on_ok}
use Rattle.scenario_explain.specs.OnTheWay.{first_of}
use Rattle.scenario_explain.proofs.Way.{some_on_the_way}
use Rattle.scenario_explain.proofs.waiting.Waiting.add_frames.Goals as goal

pub returns : goal.returns
returns c =
    let frames = c.args.self.now.frames.items in
    let some : length frames ≡ 0 → ⊥ = search rules in
    let front : c.extend_from_slice.new.self.items ≡ codes "on their way:" = c.in_ok-extend_from_slice.ensures.items ∙ ap (λ (xs : List ℕ). xs ++ codes "on their way:") c.new-line.ensures.items in
    let line : c.as_slice-2.result.now ≡ codes "on their way:" ++ first_of 16 frames =
    c.as_slice-2.ensures.value ∙ c.in_ok-add_first.ensures ∙ ap (λ (xs : List ℕ). xs ++ first_of 16 c.as_slice.result.now) front
    ∙ ap (λ (xs : List ℕ). codes "on their way:" ++ first_of 16 xs) c.as_slice.ensures.value in
    on_ok c.add_line.result (some_on_the_way frames c.as_slice-2.result.now _ _ some line) c.add_line.ensures
