use Rattle.std.proofs.Common.{◌≡◌, ◌<◌, ◌≤◌, ◌++◌, ◌∷◌, [], length, slice_get, Some, rules, ap, ◌∙◌, arith}
use Rattle.node_hosted.proofs.Places.{put_last, put_other, set_other, set_same}
use Rattle.node_hosted.proofs.contexts.put_at.Goals as goal

pub returns-in-Some-clause-kept : goal.returns-in-Some-clause-kept
returns-in-Some-clause-kept c =
    let low : c.args.place < length c.args.contexts.now.items = search rules in
    set_same c.args.contexts.now.items c.args.place (Some c.args.context) low

pub returns-in-Some-clause-others : goal.returns-in-Some-clause-others
returns-in-Some-clause-others c = λ k other. set_other c.args.contexts.now.items c.args.place k (Some c.args.context) other

pub returns-in_ok-push-in-None-clause-kept : goal.returns-in_ok-push-in-None-clause-kept
returns-in_ok-push-in-None-clause-kept c =
    let old = c.args.contexts.now.items in
    let high : length old ≤ c.args.place = search rules in
    let is : c.push.new.self.items ≡ old ++ Some c.args.context ∷ [] = search rules in
    ap (λ xs. slice_get xs c.args.place) is ∙ put_last old c.args.place (Some c.args.context) (omega (arith, high, c.requires.within))

pub returns-in_ok-push-in-None-clause-others : goal.returns-in_ok-push-in-None-clause-others
returns-in_ok-push-in-None-clause-others c = λ k other.
    let old = c.args.contexts.now.items in
    let high : length old ≤ c.args.place = search rules in
    let is : c.push.new.self.items ≡ old ++ Some c.args.context ∷ [] = search rules in
    ap (λ xs. slice_get xs k) is ∙ put_other old c.args.place k (Some c.args.context) (omega (arith, high, c.requires.within)) other
