use Rattle.std.proofs.Common.{rules, ◌≡◌, List, [], ◌++◌, ℕ, ◌∙◌, ap}
use Rattle.node_file.specs.File.{opened}
use Rattle.file_pieces.specs.Told.{warning}
use Rattle.file_pieces.proofs.Warned.{opens_any, warns_whole}
use Rattle.file_pieces.proofs.reading.Reading.new.Goals as goal

pub returns-clause-warned : goal.returns-clause-warned
returns-clause-warned c = λ bytes s gate e.
    let asked = c.args.asked in
    let none : c.new.result.items ≡ [] = search rules in
    ap (λ (l : List ℕ). warning 0 (l ++ bytes) (opened asked (l ++ bytes))) none
    ∙ warns_whole asked bytes s gate e (c.a_file_ends_at_its_closed_gate.ensures bytes s gate (opens_any asked bytes s gate e))
