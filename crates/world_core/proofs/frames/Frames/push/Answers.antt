use Rattle.std.proofs.Common.{ℕ, List, [], ◌∷◌, ◌++◌, length, refl, sym, ap, subst, ◌∙◌}
use Rattle.world_core.specs.Sharing.{AreShared, HasEndOf, frames_after}
use Rattle.world_core.proofs.Keeping.{added, one_more, one_more_shared}
use Rattle.world_core.proofs.frames.Frames.push.Goals as goal

pub invariant_of-self-3 : goal.invariant_of-self-3
invariant_of-self-3 c =
    let frames : List (List ℕ) = frames_after [] c.self.inside.kept.items in
    let found : HasEndOf frames c.in_ok-of.of c.in_ok-of.shared c.args.bytes.now = c.in_ok-of.ensures in
    let is = added frames c.in_ok-of.of c.in_ok-of.shared c.args.bytes.now (record { own = c.extend_from_slice.new.self; of = c.in_ok-of.of; shared = c.in_ok-of.shared; len = length c.args.bytes.now })
    found refl refl refl
    (c.in_ok-extend_from_slice.ensures.items ∙ (λ i. c.in_ok-own.ensures.items i ++ c.split_at.ensures.front i)) in
    subst (AreShared []) (sym c.in_ok-push.ensures.items) (one_more_shared [] c.self.inside.kept.items _ c.self.invariant is.0)

pub returns-clause-value : goal.returns-clause-value
returns-clause-value c =
    let frames : List (List ℕ) = frames_after [] c.self.inside.kept.items in
    let found : HasEndOf frames c.in_ok-of.of c.in_ok-of.shared c.args.bytes.now = c.in_ok-of.ensures in
    let is = added frames c.in_ok-of.of c.in_ok-of.shared c.args.bytes.now (record { own = c.extend_from_slice.new.self; of = c.in_ok-of.of; shared = c.in_ok-of.shared; len = length c.args.bytes.now })
    found refl refl refl
    (c.in_ok-extend_from_slice.ensures.items ∙ (λ i. c.in_ok-own.ensures.items i ++ c.split_at.ensures.front i)) in
    ap (frames_after []) c.in_ok-push.ensures.items ∙ one_more [] c.self.inside.kept.items _ ∙ ap (λ b. frames ++ b ∷ []) is.1 ∙ ap (λ f. f ++ c.args.bytes.now ∷ []) c.self.view_is
