use Rattle.std.proofs.Common.{◌≡◌, ◌∙◌, ap, arith}
use Rattle.past_model.proofs.EachLife.{each_life, all_writers}
use Rattle.past_model.proofs.plain.writers.Goals as goal

pub returns : goal.returns
returns c =
    let hs = c.args.history.now in
    let all : c.loop-number.number ≡ 16 = omega arith in
    all_writers hs c.loop-number.writers.items c.requires.history c.requires.nodes (c.loop-number.invariant ∙ ap (each_life hs) all)
