use Rattle.std.proofs.Common.{◌≡◌, ◌++◌, drop}
use Rattle.run_text.proofs.Lines.{lines_of_events}
use Rattle.run_text.proofs.replay.add_events.Given as goal

-- the lines that are there, and those of the events that are left, are those of all
abbrev pub invariant-loop-one : goal.invariant-loop-one
invariant-loop-one l =
    l.text.items ++ lines_of_events (drop l.one-index l.accepted) ≡ l.fn.text.items ++ lines_of_events l.accepted
