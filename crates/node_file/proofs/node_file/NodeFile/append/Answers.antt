use Rattle.std.proofs.Common.{◌≡◌, ◌+◌, ◌-◌, ◌∷◌, ◌++◌, ℕ, [], List, length, take, drop, rules, ap, ◌∙◌, arith, length-take, length-drop}
use Rattle.node_file.specs.declared.record.Record.{Record}
use Rattle.node_file.specs.declared.record.Record.TheVariants.{Object}
use Rattle.node_file.specs.Record.{payload, record_bytes}
use Rattle.node_file.specs.File.{record_size}
use Rattle.node_file.proofs.Appending.{spelled_size}
use Rattle.node_file.proofs.node_file.NodeFile.append.Goals as goal

-- the bytes behind the first
behind : (all : List ℕ) (n gate size : ℕ) → length all ≡ 38 + size → n ≡ length all - 1 → gate + length (take n (drop 1 all)) ≡ gate + (37 + size)
behind all n gate size is n_is = omega (arith, is, n_is, length-take n (drop 1 all), length-drop 1 all)

pub returns-in-Ok-clause-gate : goal.returns-in-Ok-clause-gate
unfolding record_size
returns-in-Ok-clause-gate g c =
    let all = c.deref.result.now in
    let r : Record = Object c.args.key.now c.args.object.now in
    let is : all ≡ 1 ∷ (record_bytes (payload r) ++ 0 ∷ []) = search rules in
    ap (λ (n : ℕ). n + length (take (length all - 1) (drop 1 all))) (ap (λ f. f.gate) c.self.view_is)
    ∙ behind all (length all - 1) c.args.self.now.gate (length (payload r)) (spelled_size r all is) Rattle.std.proofs.Common.refl
