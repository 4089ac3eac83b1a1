use Rattle.std.proofs.Common.{◌≡◌, ◌++◌, drop, map}
use Rattle.hyparview.specs.declared.event.ViewOut.TheVariants.{Down}
use Rattle.hyparview.proofs.draft.push_downs.Given as goal

abbrev pub invariant-loop-node : goal.invariant-loop-node
invariant-loop-node l = l.out.items ++ map (λ x. Down x) (drop l.node-index l.nodes) ≡ l.initial.out.items ++ map (λ x. Down x) l.nodes
