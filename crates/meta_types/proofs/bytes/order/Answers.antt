use Rattle.std.proofs.Common.{ℕ, ◌≡◌, ◌-◌, ◌≤◌, ◌⊎◌, List, length, take, drop, take_all, length-drop, sym, arith, ◌∙◌, inl, inr}
use Rattle.meta_types.specs.Order.{bytes_cmp}
use Rattle.meta_types.proofs.Heads.{by_heads, by_long, by_short}
use Rattle.meta_types.proofs.bytes.order.Goals as goal

pub returns-then-head-other_head : goal.returns-then-head-other_head
returns-then-head-other_head c =
    by_heads c.args.mine.now c.args.others.now c.args.head c.args.other_head c.requires.0 c.requires.1 c.if-head-other_head.true c.cmp.result c.cmp.ensures

pub returns-then-mine-le-HEAD_LEN : goal.returns-then-mine-le-HEAD_LEN
returns-then-mine-le-HEAD_LEN c =
    let one_is_short : (length c.args.mine.now ≤ 8) ⊎ (length c.args.others.now ≤ 8) = elim c.then-mine-le-HEAD_LEN.either [ inl short ↦ inl short | inr short ↦ inr short.1 ] in
    c.cmp-then-mine-le-HEAD_LEN.ensures
    ∙ sym (by_short c.args.mine.now c.args.others.now c.args.head c.args.other_head c.requires.0 c.requires.1 c.if-head-other_head.false one_is_short)

all_past : (n : ℕ) (bytes : List ℕ) → take (length bytes - n) (drop n bytes) ≡ drop n bytes
all_past n bytes = take_all (length bytes - n) (drop n bytes) (rw length-drop (omega arith))

pub returns : goal.returns
returns c =
    c.cmp-2.ensures
    ∙ (λ i. bytes_cmp (all_past 8 c.args.mine.now i) (all_past 8 c.args.others.now i))
    ∙ sym (by_long c.args.mine.now c.args.others.now c.args.head c.args.other_head c.requires.0 c.requires.1 c.if-head-other_head.false c.if-mine-le-HEAD_LEN.false c.if-others-le-HEAD_LEN.false)
