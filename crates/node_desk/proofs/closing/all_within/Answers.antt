use Rattle.std.proofs.Common.{◌≡◌, ℕ, ◌<◌, ⊎_elim, get_or, true, false, sym, subst, ◌∙◌, arith}
use Rattle.std.proofs.Math.Nat.{eq-or-lt_of_le}
use Rattle.std.proofs.lemmas.List.{get_or_default}
use Rattle.node_readers.specs.Views.{SeatView}
use Rattle.node_desk.specs.Closing.{IsWithin}
use Rattle.node_desk.proofs.closing.all_within.Goals as goal

pub loop-seat-preserved : goal.loop-seat-preserved
loop-seat-preserved g c = λ k d less.
    let list = c.args.publisher.now.list in
    let seats = c.args.readers.now in
    let at = c.loop-seat.seat-index in
    let item : IsWithin list c.seat-item.result = c.is_within.ensures.0 c.if-not-is_within.false in
    let there : c.seat-item.result ≡ get_or seats at d =
    c.seat-item.is ∙ get_or_default seats at c.seat-item.result d c.loop-seat-test.true in
    ⊎_elim
    (λ (last : k ≡ at). subst (λ (n : ℕ). IsWithin list (get_or seats n d)) (sym last) (subst (IsWithin list) there item))
    (λ (before : k < at). c.loop-seat.invariant k d before)
    (eq-or-lt_of_le (omega (arith, less)))

pub returns-then-not-is_within : goal.returns-then-not-is_within
returns-then-not-is_within g c =
    let list = c.args.publisher.now.list in
    let seats = c.args.readers.now in
    let at = c.loop-seat.seat-index in
    let there : c.seat-item.result ≡ get_or seats at c.seat-item.result =
    c.seat-item.is ∙ get_or_default seats at c.seat-item.result c.seat-item.result c.loop-seat-test.true in (
      (λ is. absurd (cc (is))),
      (λ all.
          let is : c.is_within.result ≡ true =
          c.is_within.ensures.1 (subst (IsWithin list) (sym there) (all at c.seat-item.result c.loop-seat-test.true)) in
          let clash : true ≡ false = sym is ∙ c.if-not-is_within.true in
          absurd (cc)),
    )
