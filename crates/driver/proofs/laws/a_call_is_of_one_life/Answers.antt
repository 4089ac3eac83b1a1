use Rattle.std.proofs.Common.{rules}
use Rattle.meta_store.specs.Table.{IsTable}
use Rattle.driver.specs.Driving.{OfAsking, OfFailure, OfFrame, OfTime}
use Rattle.driver.proofs.Living.{lives}
use Rattle.driver.proofs.laws.a_call_is_of_one_life.Goals as goal

pub returns-clause-of_time : goal.returns-clause-of_time
returns-clause-of_time c = let table : IsTable c.args.node.now.state.table = search rules in lives OfTime c.args.node.now tt table

pub returns-clause-of_frames : goal.returns-clause-of_frames
returns-clause-of_frames c = let table : IsTable c.args.node.now.state.table = search rules in λ bytes. lives (OfFrame bytes) c.args.node.now tt table

pub returns-clause-of_failures : goal.returns-clause-of_failures
returns-clause-of_failures c = let table : IsTable c.args.node.now.state.table = search rules in λ peer. lives (OfFailure peer) c.args.node.now tt table

pub returns-clause-of_asking : goal.returns-clause-of_asking
returns-clause-of_asking c =
    let table : IsTable c.args.node.now.state.table = search rules in
    lives (OfAsking c.args.event.now) c.args.node.now c.reveal_context.ensures table
