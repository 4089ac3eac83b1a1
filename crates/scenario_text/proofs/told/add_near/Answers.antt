use Rattle.std.proofs.Common.{◌≡◌, ◌++◌, rules}
use Rattle.std.specs.Prelude.{codes}
use Rattle.scenario_text.specs.Coded.{verb_word}
use Rattle.scenario_text.proofs.Hints.{four_added}
use Rattle.scenario_text.proofs.told.add_near.Goals as goal

pub returns : goal.returns
returns c =
    let o = c.args.out.now.items in
    let p = c.extend_from_slice.new.self.items in
    let q = c.extend_from_slice-2.new.self.items in
    let r = c.extend_from_slice-3.new.self.items in
    let first : p ≡ o ++ codes "no such command" = c.in_ok-extend_from_slice.ensures.items in
    let second : q ≡ p ++ codes "; did you mean " = c.in_ok-extend_from_slice-2.ensures.items in
    let third : r ≡ q ++ verb_word c.args.verb = search rules in
    let fourth : c.extend_from_slice-4.new.self.items ≡ r ++ codes "?" = c.in_ok-extend_from_slice-4.ensures.items in
    four_added o p q r c.extend_from_slice-4.new.self.items (codes "no such command") (codes "; did you mean ") (verb_word c.args.verb) (codes "?") first second third fourth
