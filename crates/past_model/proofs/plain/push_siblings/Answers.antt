use Rattle.std.proofs.Common.{◌≡◌, ℕ, ◌+◌, ◌-◌, ◌<◌, length, sym, ◌∙◌, subst, arith}
use Rattle.past_model.specs.Moment.{marked_places}
use Rattle.past_model.proofs.Fitting.{history_taken}
use Rattle.past_model.proofs.Latest.{inside}
use Rattle.past_model.proofs.Reading.{read_back}
use Rattle.past_model.proofs.Listing.{Listed, Listed-sibling, Listed-other}
use Rattle.past_model.proofs.plain.push_siblings.Goals as goal
use Rattle.past_model.proofs.plain.push_siblings.Goals.{then-is_sibling+in_ok-push_by, else-is_sibling}

pub loop-back-preserved : goal.loop-back-preserved
loop-back-preserved c =
    let hs = c.args.history.now in
    let S = marked_places c.args.marks.now in
    let w = c.args.writer in
    let old = c.args.values.now.items in
    let values = c.loop-back.values.items in
    let i : ℕ = length hs - 1 - c.loop-back.back in
    let lt : i < length hs = omega arith in
    let before : length hs - c.loop-back.back ≡ i + 1 = omega arith in
    let after : i ≡ length hs - (c.loop-back.back + 1) = omega arith in
    subst (λ n. Listed hs S w old c.if-is_sibling.values.items n) after
    (elim c.if-is_sibling.branch [
      | then-is_sibling+in_ok-push_by b ↦
          subst (λ v. Listed hs S w old v.items i) (sym b.values-is)
          (Listed-sibling hs S w old values b.push_by.new.values.items i (length hs - c.loop-back.back) b.index-history-place.result lt b.index-history-place.is before
          (sym b.if-is_sibling.true ∙ c.is_sibling.ensures) b.in_ok-push_by.ensures c.loop-back.invariant)
      | else-is_sibling b ↦
          let at = inside hs i lt in
          subst (λ v. Listed hs S w old v.items i) (sym b.values-is)
          (Listed-other hs S w old values i (length hs - c.loop-back.back) at.0 lt (read_back hs i at.0 at.1) before
          (sym b.if-is_sibling.false ∙ c.is_sibling.ensures) c.loop-back.invariant)
    ])

pub push_by-requires : goal.push_by-requires
push_by-requires c = history_taken c.args.history.now (length c.args.history.now - 1 - c.loop-back.back) c.requires.account.history
