use Rattle.std.proofs.Common.{rules, ◌≡◌, ◌∷◌, ◌++◌, [], List, reverse, sym, ap, ◌∙◌}
use Rattle.std.proofs.lemmas.List.{reverse-append}
use Rattle.restart_images.proofs.logs.are_reversed.Goals as goal

-- one value more at the front, and the same at the end of the others
longer : {A : Type 0} (left rest before less : List A) (value other : A) → left ≡ value ∷ rest → before ≡ less ++ other ∷ [] → value ≡ other → rest ≡ reverse less → left ≡ reverse before
longer left rest before less value other l b same is =
    l ∙ (λ i. same i ∷ is i) ∙ sym (ap reverse b ∙ reverse-append less (other ∷ []))

pub loop-value-preserved : goal.loop-value-preserved
loop-value-preserved c = λ is.
    c.loop-value.invariant (longer c.loop-value.left.now c.in-Some.rest.now c.loop-value.before.now c.in-Some-split_last.less.now c.in-Some.value.now c.in-Some-split_last.other.now
    c.in-Some.ensures.cases.0 c.in-Some-split_last.ensures.cases.0 (search rules) is)
