use Rattle.std.proofs.Common.{List, sym, ap, subst, ◌∙◌}
use Rattle.node_core.specs.Savepoint.{CanHoldAgain, held_again}
use Rattle.node_core.specs.declared.savepoint.Former.{Former}
use Rattle.node_core.proofs.RollingBack.{last_can, last_first}
use Rattle.node_core.proofs.savepoint.hold_again.Goals as goal

pub hold_again-requires : goal.hold_again-requires
hold_again-requires c =
    let held = c.loop-former.held in
    let can = subst (λ (fs : List Former). CanHoldAgain fs held) c.in-Some.ensures.items c.loop-former.invariant.1 in
    let last = last_can c.pop.new.self.items c.in-Some.former held can in
    record { there = last.found; lawful = last.lawful }

pub loop-former-preserved : goal.loop-former-preserved
loop-former-preserved c =
    let held = c.loop-former.held in
    let fs = c.pop.new.self.items in
    let f = c.in-Some.former in
    let can = subst (λ (fs : List Former). CanHoldAgain fs held) c.in-Some.ensures.items c.loop-former.invariant.1 in
    let last = last_can fs f held can in
    rw c.hold_again.ensures (
      sym (last_first fs f held) ∙ (ap (λ (fs : List Former). held_again fs held) (sym c.in-Some.ensures.items) ∙ c.loop-former.invariant.0),
      last.others,
    )
