use Rattle.std.proofs.Common.{◌≡◌, ◌∙◌, get_or, arith}
use Rattle.std.proofs.lemmas.List.{length-drop}
use Rattle.scenario_text.proofs.Parts.{words_of-behind}
use Rattle.scenario_text.proofs.words.without_spaces.Goals as goal

pub loop-rest-preserved : goal.loop-rest-preserved
loop-rest-preserved c =
    let space : get_or c.loop-rest.rest.now 0 0 ≡ 32 = cc in
    words_of-behind c.loop-rest.rest.now _ c.in-32.len_at_least space (omega (arith, length-drop 1 c.loop-rest.rest.now)) ∙ c.loop-rest.invariant
