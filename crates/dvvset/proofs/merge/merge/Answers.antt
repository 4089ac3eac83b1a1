use Rattle.std.proofs.Common.{arith, inl, inr, length, ◌≤◌, ◌-◌, ◌++◌, take, drop, ap, ◌∙◌}
use Rattle.std.specs.Prelude.{◌⊎◌}
use Rattle.dvvset.proofs.Merging.{Merging-end}
use Rattle.dvvset.proofs.merge.merge.Goals as goal
use Rattle.dvvset.proofs.merge.merge.Goals.{then-loop-i-test+else-j-ys, else-loop-i-test}

pub returns : goal.returns
returns c =
    let end : (length c.args.xs.now ≤ c.loop-i.i) ⊎ (length c.args.ys.now ≤ c.loop-i.j) =
    elim c.loop-i-test.branch [ then-loop-i-test+else-j-ys w ↦ inr (omega arith) | else-loop-i-test w ↦ inl (omega arith) ] in
    c.in_ok-push_entries-2.ensures ∙ ap (λ l. l ++ take (length c.args.ys.now - c.loop-i.j) (drop c.loop-i.j c.args.ys.now)) c.in_ok-push_entries.ensures ∙ Merging-end c.loop-i.merged.items c.args.xs.now c.args.ys.now c.loop-i.i c.loop-i.j c.loop-i.invariant end
