use Rattle.scenario_explain.specs.Told.{AddsOfNodes}
use Rattle.scenario_explain.proofs.told.Shown.add_changes.Given as goal

abbrev pub invariant-loop-key : goal.invariant-loop-key
invariant-loop-key l = AddsOfNodes l.fn.text.items l.text.items
