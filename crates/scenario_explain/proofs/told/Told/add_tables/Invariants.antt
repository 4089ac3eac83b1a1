use Rattle.scenario_explain.specs.Told.{AddsOfNodes}
use Rattle.scenario_explain.proofs.told.Told.add_tables.Given as goal

abbrev pub invariant-loop-number : goal.invariant-loop-number
invariant-loop-number l = AddsOfNodes l.fn.text.items l.text.items
