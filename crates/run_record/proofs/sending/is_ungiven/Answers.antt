use Rattle.std.proofs.Common.{rules}
use Rattle.run_record.specs.Giving.{Needs}
use Rattle.run_record.proofs.Ungiven.{by_search, not_ungiven}
use Rattle.run_record.proofs.sending.is_ungiven.Goals as goal

pub returns-in-Some : goal.returns-in-Some
returns-in-Some c = search (rules, not_ungiven)

pub returns-in-None : goal.returns-in-None
returns-in-None c =
    let needed : Needs c.args.event.now = search rules in
    by_search c.args.closed.now c.args.ends.now c.args.event.now c.passed_giver.result
    c.is_none.result c.requires needed c.passed_giver.ensures.some c.passed_giver.ensures.none
    c.is_none.ensures
