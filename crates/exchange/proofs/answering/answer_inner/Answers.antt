use Rattle.std.proofs.Common.{◌≡◌, ℕ, ◌≤◌, Bool, map, sym, ap, ◌∙◌, arith}
use Rattle.std.specs.Prelude.{slice_get}
use Rattle.std.specs.List.{filter, range_with_len}
use Rattle.hash_tree.specs.Tree.{inner_digests, own_rows}
use Rattle.hash_tree.specs.Hashed.{rows_below}
use Rattle.exchange.specs.Answers.{leaves_message}
use Rattle.exchange.specs.Sides.{differ}
use Rattle.exchange.proofs.Loops.{place_skipped, place_taken}
use Rattle.exchange.proofs.answering.answer_inner.Goals as goal
use Rattle.exchange.proofs.answering.answer_inner.Goals.{then-differ_at+in_ok-leaves_message+in_ok-push, else-differ_at}

pub loop-inner-preserved : goal.loop-inner-preserved
loop-inner-preserved c =
    let f = leaves_message c.args.held.now c.args.prefix.now in
    let p : ℕ → Bool = λ place. differ (slice_get c.args.theirs.now place) (slice_get (inner_digests (rows_below c.args.prefix.now c.args.held.now)) place) in
    let n = c.loop-inner.inner in
    let own : c.as_slice.result.now ≡ inner_digests (rows_below c.args.prefix.now c.args.held.now) =
    c.as_slice.ensures ∙ c.inner-own.ensures ∙ ap (λ rows. inner_digests (own_rows c.args.prefix.now rows)) c.tree.ensures in
    let is : c.differ_at.result ≡ p n = c.differ_at.ensures ∙ ap (λ ds. differ (slice_get c.args.theirs.now n) (slice_get ds n)) own in
    elim c.if-differ_at.branch [
      | then-differ_at+in_ok-leaves_message+in_ok-push w ↦ ap (λ v. v.items) w.answers-is ∙ place_taken f p n c.loop-inner.answers.items c.loop-inner.invariant w.push.new.self.items w.in_ok-leaves_message.field-0 (sym is ∙ w.if-differ_at.true) w.in_ok-leaves_message.ensures w.in_ok-push.ensures.items
      | else-differ_at w ↦ ap (λ v. v.items) w.answers-is ∙ place_skipped f p n c.loop-inner.answers.items c.loop-inner.invariant (sym is ∙ w.if-differ_at.false)
    ]

pub returns : goal.returns
returns c =
    let most : c.loop-inner.inner ≤ 16 = c.loop-inner.auto.inner-end in
    let least : 16 ≤ c.loop-inner.inner = c.loop-inner-test.false in
    let all : c.loop-inner.inner ≡ 16 = omega arith in
    c.loop-inner.invariant ∙ ap (λ n. map (leaves_message c.args.held.now c.args.prefix.now) (filter (λ place. differ (slice_get c.args.theirs.now place) (slice_get (inner_digests (rows_below c.args.prefix.now c.args.held.now)) place)) (range_with_len 0 n))) all
