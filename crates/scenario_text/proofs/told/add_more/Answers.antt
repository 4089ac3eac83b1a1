use Rattle.std.proofs.Common.{◌≡◌, ◌++◌, rules}
use Rattle.std.specs.Prelude.{codes}
use Rattle.scenario_text.specs.Hint.{shown_line}
use Rattle.scenario_text.proofs.Hints.{three_added}
use Rattle.scenario_text.proofs.told.add_more.Goals as goal

pub returns : goal.returns
returns c =
    let o = c.args.out.now.items in
    let p = c.extend_from_slice.new.self.items in
    let q = c.add_shown.new.out.items in
    let r = c.extend_from_slice-2.new.self.items in
    let first : p ≡ o ++ codes "; " = c.in_ok-extend_from_slice.ensures.items in
    let second : q ≡ p ++ shown_line c.args.word.now = search rules in
    let third : r ≡ q ++ codes " is too many" = c.in_ok-extend_from_slice-2.ensures.items in
    three_added o p q r (codes "; ") (shown_line c.args.word.now) (codes " is too many") first second third
