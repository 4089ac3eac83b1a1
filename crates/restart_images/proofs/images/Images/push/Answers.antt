use Rattle.std.proofs.Common.{[], ◌∷◌, ◌++◌, map, sym, ap, subst, ◌∙◌}
use Rattle.std.specs.Prelude.{All}
use Rattle.std.specs.Option.{option_copied}
use Rattle.meta_store.proofs.Maps.{always}
use Rattle.restart_images.specs.Images.{change_of}
use Rattle.restart_images.specs.Logs.{IsImageKept, whole_image}
use Rattle.restart_images.proofs.Growing.{images_on, kept_on, one_more_image, one_more_kept}
use Rattle.restart_images.proofs.images.Images.push.Goals as goal

-- ---- without memory for the change

pub invariant_of-self : goal.invariant_of-self
invariant_of-self c = kept_on c.self.inside.logs c.keep.new.logs c.self.inside.kept.items c.keep.ensures.grow c.self.invariant

pub returns-in_err-change-clause-same : goal.returns-in_err-change-clause-same
returns-in_err-change-clause-same c =
    always c.from_residual.result (images_on c.self.inside.logs c.keep.new.logs c.self.inside.kept.items c.keep.ensures.grow c.self.invariant ∙ c.self.view_is)

-- ---- nor for the image

pub invariant_of-self-in_err-push : goal.invariant_of-self-in_err-push
invariant_of-self-in_err-push c =
    subst (All (IsImageKept c.keep.new.logs)) (sym c.in_err-push.ensures.items)
    (kept_on c.self.inside.logs c.keep.new.logs c.self.inside.kept.items c.keep.ensures.grow c.self.invariant)

pub returns-in_err-push-clause-same : goal.returns-in_err-push-clause-same
returns-in_err-push-clause-same c =
    always c.from_residual-in_err-push.result
    (ap (map (whole_image c.keep.new.logs)) c.in_err-push.ensures.items
    ∙ images_on c.self.inside.logs c.keep.new.logs c.self.inside.kept.items c.keep.ensures.grow c.self.invariant ∙ c.self.view_is)

-- ---- with it

pub invariant_of-self-2 : goal.invariant_of-self-2
invariant_of-self-2 c =
    one_more_kept c.self.inside.logs c.keep.new.logs c.self.inside.kept.items c.push.new.self.items (record { base = c.args.base; change = c.in_ok-change.change })
    c.keep.ensures.grow c.self.invariant c.in_ok-change.ensures.kept c.in_ok-push.ensures.items

pub returns-clause-value : goal.returns-clause-value
returns-clause-value c =
    one_more_image c.self.inside.logs c.keep.new.logs c.self.inside.kept.items c.push.new.self.items c.args.base c.in_ok-change.change _
    c.keep.ensures.grow c.self.invariant c.in_ok-push.ensures.items c.in_ok-change.ensures.value
    ∙ ap (λ images. images ++ (record { base = c.args.base; change = change_of c.args.key.now (option_copied c.args.object) }) ∷ []) c.self.view_is
