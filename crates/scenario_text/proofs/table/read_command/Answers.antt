use Rattle.std.proofs.Common.{◌≡◌, ◌∷◌, Some, sym, ap, ◌∙◌}
use Rattle.std.proofs.lemmas.Bool.{both_ways}
use Rattle.scenario_text.specs.Coded.{command_word, verb_word}
use Rattle.scenario_text.specs.Commands.{command_of, reads_behind, rows}
use Rattle.scenario_text.proofs.Rows.{command_of-none, command_of-more}
use Rattle.scenario_text.proofs.table.read_command.Goals as goal

pub returns-in_err-verb : goal.returns-in_err-verb
returns-in_err-verb c =
    let first : c.args.words.now ≡ c.in_ok-next.field-0.now ∷ c.next.new.self = c.in_ok-next.ensures in
    rw c.from_residual-in_err-verb.ensures
    (sym (ap (command_of c.args.resolvers) first ∙ command_of-none c.args.resolvers c.in_ok-next.field-0.now c.next.new.self c.in_err-verb.ensures))

pub returns-else-are_over : goal.returns-else-are_over
returns-else-are_over c =
    let first : c.args.words.now ≡ c.in_ok-next.field-0.now ∷ c.next.new.self = c.in_ok-next.ensures in
    let is : c.in_ok-next.field-0.now ≡ verb_word c.in_ok-verb.verb = c.in_ok-verb.ensures in
    let row : reads_behind (verb_word c.in_ok-verb.verb) (rows c.args.resolvers) c.next.new.self ≡ Some (command_word c.in_ok-command.command, c.read_row.new.words) = c.in_ok-command.ensures in
    sym (command_of-more c.args.resolvers c.args.words.now c.next.new.self c.read_row.new.words c.in_ok-next.field-0.now c.in_ok-verb.verb (command_word c.in_ok-command.command) first is row
    (λ over. both_ways c.are_over.result c.if-are_over.false (c.are_over.ensures.1 over)))
