use Rattle.std.proofs.Common.{◌≡◌, ◌+◌, [], ◌∷◌, ◌++◌, length, length-append, ap, ◌∙◌, arith}
use Rattle.past_model.proofs.Moving.{nodes_next, moments_next, account_whole}
use Rattle.past_model.proofs.moment.account.Goals as goal

pub loop-place-preserved : goal.loop-place-preserved
loop-place-preserved c =
    let ms = c.loop-place.moments.items in
    let m = c.in_ok-moment.moment in
    let items = c.in_ok-push-2.ensures.items in
    let long : length (c.loop-place.moments.items ++ c.in_ok-moment.moment ∷ []) ≡ length c.loop-place.moments.items + 1 = length-append c.loop-place.moments.items (c.in_ok-moment.moment ∷ []) in (
      ap length items ∙ long ∙ ap (λ n. n + 1) c.loop-place.invariant.0,
      (
        moments_next c.args.history.now c.loop-place.moments.items c.push-in-loop-place.new.self.items c.loop-place.place c.in_ok-moment.moment c.loop-place.invariant.0 c.loop-place.invariant.1.0 (record { behind = c.in_ok-moment.ensures.moment }) items,
        nodes_next c.args.history.now c.loop-place.place c.in_ok-moment.ensures.node c.loop-place.invariant.1.1,
      ),
    )

pub returns : goal.returns
returns c = account_whole c.args.history.now c.loop-place.moments.items c.loop-place.place c.requires (omega arith) (omega arith) c.loop-place.invariant.0 c.loop-place.invariant.1.0 c.loop-place.invariant.1.1
