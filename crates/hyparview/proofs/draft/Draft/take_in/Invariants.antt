use Rattle.std.proofs.Common.{◌≡◌, drop}
use Rattle.hyparview.specs.Rows.{take_in}
use Rattle.hyparview.proofs.draft.Draft.take_in.Given as goal

abbrev pub invariant-loop-node : goal.invariant-loop-node
invariant-loop-node l = take_in l.word l.given (drop l.node-index l.nodes) l.self ≡ take_in l.word l.given l.nodes l.initial.self
