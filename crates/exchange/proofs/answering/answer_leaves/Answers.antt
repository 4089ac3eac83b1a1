use Rattle.std.proofs.Common.{◌≡◌, ℕ, ◌+◌, ◌*◌, ◌≤◌, Bool, List, [], map, sym, ap, ◌∙◌, arith}
use Rattle.std.specs.Prelude.{slice_get}
use Rattle.std.specs.List.{filter, range_with_len}
use Rattle.meta_frame.specs.declared.message.Message.{Message}
use Rattle.meta_types.specs.Name.{Prefix}
use Rattle.meta_store.specs.Table.{Table}
use Rattle.hash_tree.specs.Tree.{Digest, leaf_digests, own_rows}
use Rattle.hash_tree.specs.Hashed.{rows_below}
use Rattle.exchange.specs.Answers.{bucket_message}
use Rattle.exchange.specs.Sides.{differ, differing_places}
use Rattle.exchange.proofs.Loops.{not_of_sixteen, of_sixteen, place_skipped, place_taken}
use Rattle.exchange.proofs.answering.answer_leaves.Goals as goal
use Rattle.exchange.proofs.answering.answer_leaves.Goals.{then-differ_at+in_ok-bucket_message+in_ok-push, else-differ_at}

pub loop-place-preserved : goal.loop-place-preserved
loop-place-preserved c =
    let f : ℕ → Message = λ place. bucket_message c.args.held.now c.args.prefix.now (16 * c.args.inner + place) in
    let p : ℕ → Bool = λ place. differ (slice_get c.args.theirs.now place) (slice_get (leaf_digests (rows_below c.args.prefix.now c.args.held.now) c.args.inner) place) in
    let n = c.loop-place.place in
    let own : c.as_slice.result.now ≡ leaf_digests (rows_below c.args.prefix.now c.args.held.now) c.args.inner =
    c.as_slice.ensures ∙ c.leaves-own.ensures ∙ ap (λ rows. leaf_digests (own_rows c.args.prefix.now rows) c.args.inner) c.tree.ensures in
    let is : c.differ_at.result ≡ p n = c.differ_at.ensures ∙ ap (λ ds. differ (slice_get c.args.theirs.now n) (slice_get ds n)) own in
    elim c.if-differ_at.branch [
      | then-differ_at+in_ok-bucket_message+in_ok-push w ↦ ap (λ v. v.items) w.answers-is ∙ place_taken f p n c.loop-place.answers.items c.loop-place.invariant w.push.new.self.items w.in_ok-bucket_message.field-0 (sym is ∙ w.if-differ_at.true) w.in_ok-bucket_message.ensures w.in_ok-push.ensures.items
      | else-differ_at w ↦ ap (λ v. v.items) w.answers-is ∙ place_skipped f p n c.loop-place.answers.items c.loop-place.invariant (sym is ∙ w.if-differ_at.false)
    ]

told : (table : Table) (p : Prefix) (inner : ℕ) (theirs : List Digest) → List Message
told table p inner theirs =
    map (λ place. bucket_message table p (16 * inner + place)) (differing_places theirs (leaf_digests (rows_below p table) inner))

pub returns : goal.returns
unfolding told
returns c =
    let most : c.loop-place.place ≤ 16 = c.loop-place.auto.place-end in
    let least : 16 ≤ c.loop-place.place = c.loop-place-test.false in
    let all : c.loop-place.place ≡ 16 = omega arith in
    c.loop-place.invariant
    ∙ ap (λ n. map ((λ place. bucket_message c.args.held.now c.args.prefix.now (16 * c.args.inner + place))) (filter (λ place. differ (slice_get c.args.theirs.now place) (slice_get (leaf_digests (rows_below c.args.prefix.now c.args.held.now) c.args.inner) place)) (range_with_len 0 n))) all
    ∙ sym (of_sixteen [] (told c.args.held.now c.args.prefix.now c.args.inner c.args.theirs.now) c.args.inner c.if-inner-ge16.false)

pub returns-then-inner-ge16 : goal.returns-then-inner-ge16
unfolding told
returns-then-inner-ge16 c =
    c.new-answers.ensures.items ∙ sym (not_of_sixteen [] (told c.args.held.now c.args.prefix.now c.args.inner c.args.theirs.now) c.args.inner c.if-inner-ge16.true)
