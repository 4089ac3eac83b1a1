use Rattle.std.proofs.Common.{◌∷◌, sym, ap, ◌∙◌}
use Rattle.streams.specs.Line.{lines_of}
use Rattle.scenario_text.proofs.Parts.{lines_of-none, lines_of-first, lines_of-only}
use Rattle.scenario_text.proofs.line.split_line.Goals as goal

pub returns-in-Some : goal.returns-in-Some
returns-in-Some c =
    let split = c.in-Some.ensures in
    ap lines_of split.1 ∙ lines_of-first c.in-Some.halves.0.now c.in-Some.halves.1.now split.0

pub returns-in-None : goal.returns-in-None
returns-in-None c =
    let bytes = c.args.bytes.now in
    lines_of-only bytes c.in-None.ensures c.requires ∙ ap (λ lines. bytes ∷ lines) (sym lines_of-none)
