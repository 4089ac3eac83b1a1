use Rattle.std.proofs.Common.{◌≡◌, inl, inr, ℕ, List, [], length, Option, Ok, sym, ◌∙◌, ap, subst, arith}
use Rattle.std.proofs.lemmas.Grind.{common_steps}
use Rattle.node_file.specs.File.{FileState, opened, state_or_none}
use Rattle.file_pieces.specs.Alone.{IsFront, file_alone, node_in, version_in}
use Rattle.file_pieces.proofs.Single.{IsBegun, begins, begins_badly, same_begun}
use Rattle.file_pieces.proofs.progress.Progress.begin.Goals as goal

abbrev state_alone : Option ℕ → List ℕ → FileState
state_alone asked front = state_or_none (opened asked (file_alone front []))

pub returns-in-Err-clause-refused : goal.returns-in-Err-clause-refused
returns-in-Err-clause-refused c = elim c.in-Err.ensures.refused [
  | inl memory ↦ inl memory
  | inr e ↦ inr (begins_badly c.args.asked c.args.front.now c.in-Err.fault c.requires.ten e)
]

begun_so : (asked : Option ℕ) (front : List ℕ) (gate : ℕ) → length front ≡ 10 → opened asked (file_alone front []) ≡ Ok (state_alone asked front, gate) → IsBegun asked front (state_alone asked front).node
begun_so asked front gate ten e = begins asked front (state_alone asked front) gate ten e

pub invariant_of-result : goal.invariant_of-result
invariant_of-result c =
    let front = c.args.front.now in
    let opens = c.in-Ok.ensures.opens in
    let is : IsBegun c.args.asked front (state_alone c.args.asked front).node = begun_so c.args.asked front opens.0 c.requires.ten opens.1 in
    let same : c.in_ok-front.front.items ≡ front = grind (arith, common_steps) in
    (subst IsFront (sym same) is.front_is, c.in-Ok.ensures.node ∙ is.node_is ∙ ap node_in (sym same))

pub returns-clause-begun : goal.returns-clause-begun
returns-clause-begun c = λ rest some.
    let front = c.args.front.now in
    let opens = c.in-Ok.ensures.opens in
    let is : IsBegun c.args.asked front (state_alone c.args.asked front).node = begun_so c.args.asked front opens.0 c.requires.ten opens.1 in
    let same : c.in_ok-front.front.items ≡ front = grind (arith, common_steps) in
    is.tells rest some ∙ same_begun (version_in front) (version_in c.in_ok-front.front.items) (node_in front) c.in-Ok.opened.node c.new.result (ap version_in same) (c.in-Ok.ensures.node ∙ is.node_is) c.new.ensures rest
