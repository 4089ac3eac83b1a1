use Rattle.std.proofs.Common.{All, take}
use Rattle.run_text.specs.Replay.{IsSpelled, command_of_event}
use Rattle.run_text.proofs.spelling.are_spelled.Given as goal

-- each event before this one has a spelling
abbrev pub invariant-loop-one : goal.invariant-loop-one
invariant-loop-one l = All (λ a. IsSpelled (command_of_event a.event)) (take l.one-index l.accepted)
