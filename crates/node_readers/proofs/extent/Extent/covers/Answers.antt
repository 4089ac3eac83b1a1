use Rattle.std.proofs.Common.{◌≤◌, ap, subst, arith, length, List}
use Rattle.std.proofs.lemmas.Bool.Decides.{nat_tests}
use mathlib.Core.List.{IsPrefix}
use Rattle.node_readers.specs.Published.{Published}
use Rattle.node_readers.proofs.Beginnings.{prefix_shorter, begins_otherwise}
use Rattle.node_readers.proofs.extent.Extent.covers.Goals as goal

pub returns-clause-yes : goal.returns-clause-yes
returns-clause-yes c le =
    let both = c.learn.new.self.log in
    let this : IsPrefix c.self.inside.seen.log both = subst (λ (l : List Published). IsPrefix l both) (ap (λ s. s.log) c.again-both.ensures) c.learn.ensures.2 in
    let mine = c.self.invariant in
    let its = c.other.invariant in
    let less : length c.other.inside.seen.log ≤ length c.self.inside.seen.log = grind (arith, nat_tests) in
    rw (← c.self.view_is, ← c.other.view_is) (prefix_shorter c.other.inside.seen.log c.self.inside.seen.log both c.learn.ensures.3 this less)

pub returns-clause-otherwise : goal.returns-clause-otherwise
returns-clause-otherwise c =
    rw (← c.self.view_is, ← c.other.view_is) (begins_otherwise c.self.inside.seen.log c.other.inside.seen.log c.learn.new.self.log c.self.inside.number c.other.inside.number c.self.invariant c.other.invariant
    (subst (λ (l : List Published). IsPrefix l c.learn.new.self.log) (ap (λ s. s.log) c.again-both.ensures) c.learn.ensures.2)
    c.learn.ensures.3)
