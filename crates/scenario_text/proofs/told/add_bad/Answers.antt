use Rattle.std.proofs.Common.{◌≡◌, ◌++◌, rules}
use Rattle.std.specs.Prelude.{codes}
use Rattle.scenario_text.specs.Hint.{shown_line, slot_text}
use Rattle.scenario_text.proofs.Hints.{four_added}
use Rattle.scenario_text.proofs.told.add_bad.Goals as goal

pub returns : goal.returns
returns c =
    let o = c.args.out.now.items in
    let p = c.extend_from_slice.new.self.items in
    let q = c.add_shown.new.out.items in
    let r = c.extend_from_slice-2.new.self.items in
    let s = c.extend_from_slice-3.new.self.items in
    let first : p ≡ o ++ codes "; " = c.in_ok-extend_from_slice.ensures.items in
    let second : q ≡ p ++ shown_line c.args.word.now = search rules in
    let third : r ≡ q ++ codes " is wrong: " = c.in_ok-extend_from_slice-2.ensures.items in
    let fourth : s ≡ r ++ slot_text c.args.slot = search rules in
    four_added o p q r s (codes "; ") (shown_line c.args.word.now) (codes " is wrong: ") (slot_text c.args.slot) first second third fourth
