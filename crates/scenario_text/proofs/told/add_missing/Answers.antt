use Rattle.std.proofs.Common.{◌≡◌, ◌++◌, rules}
use Rattle.std.specs.Prelude.{codes}
use Rattle.scenario_text.specs.Hint.{slot_text}
use Rattle.scenario_text.proofs.Hints.{two_added}
use Rattle.scenario_text.proofs.told.add_missing.Goals as goal

pub returns : goal.returns
returns c =
    let o = c.args.out.now.items in
    let p = c.extend_from_slice.new.self.items in
    let q = c.extend_from_slice-2.new.self.items in
    let first : p ≡ o ++ codes "; a word is missing: " = c.in_ok-extend_from_slice.ensures.items in
    let second : q ≡ p ++ slot_text c.args.slot = search rules in
    two_added o p q (codes "; a word is missing: ") (slot_text c.args.slot) first second
