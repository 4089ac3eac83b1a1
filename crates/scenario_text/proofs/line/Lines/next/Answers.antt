use Rattle.std.proofs.Common.{◌≡◌, [], length, sym, ◌∙◌}
use Rattle.std.proofs.lemmas.Bool.{eqb-true}
use Rattle.scenario_text.proofs.Parts.{lines_of-empty}
use Rattle.scenario_text.proofs.line.Lines.next.Goals as goal

pub returns-then-is_empty : goal.returns-then-is_empty
returns-then-is_empty c =
    let bytes = c.self.inside.left.now in
    let none : c.args.self.now ≡ [] = sym c.self.view_is ∙ lines_of-empty bytes (eqb-true (length bytes) 0 (sym c.if-is_empty.ensures)) in
    (none, none)
