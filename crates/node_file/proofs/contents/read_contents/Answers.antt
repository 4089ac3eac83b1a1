use Rattle.std.proofs.Common.{rules, ◌≡◌, ◌<◌, ◌≤◌, length, drop, get_or, Some, refl, sym, subst, ◌∙◌, ap}
use Rattle.node_file.specs.Record.{record_in}
use Rattle.node_file.specs.Fold.{with_record, life_from}
use Rattle.node_file.specs.Reads.{FailsBehind, WouldBeTooMany}
use Rattle.node_file.proofs.Folding.{failed_behind}
use Rattle.node_file.proofs.contents.read_contents.Goals as goal

pub returns-in-TooMany : goal.returns-in-TooMany
returns-in-TooMany c =
    let rest = c.loop-rest.rest.now in
    let version = c.args.version in
    let record_ = c.in-Some.record in
    let size = c.in-Some.size in
    let old = c.loop-rest.contents in
    let some : 0 < length rest = search rules in
    let gate : get_or rest 0 0 ≡ 1 = search rules in
    let is : record_in version (drop 1 rest) ≡ Some (record_, size) = search rules in
    let many : WouldBeTooMany old c.take_in.new.self record_ = search rules in
    let le : size ≤ length (drop 1 rest) = search rules in
    let ends : FailsBehind c.fault_behind.result (life_from version c.take_in.new.self.life 0 (drop size (drop 1 rest))) = search rules in
    let life : c.take_in.new.self.life ≡ (with_record old record_).life = ap (λ x. x.life) many.same ∙ sym many.life in
    failed_behind c.fault_behind.result version old (with_record old record_) rest record_ size _ some gate is many.may refl many.many le c.loop-rest.invariant
    (subst (λ n. FailsBehind c.fault_behind.result (life_from version n 0 (drop size (drop 1 rest)))) life ends)
