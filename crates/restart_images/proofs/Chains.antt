-- What the images of a node have, read one by one from the newest down.
use Rattle.std.proofs.Common.{◌≡◌, ℕ, zero, suc, ◌+◌, ◌-◌, ◌<◌, ◌≤◌, List, [], ◌∷◌, ◌++◌, length, get_or, Bool, true, false, cond, Option, Some, None, refl, sym, ap, ◌∙◌, arith}
use Rattle.meta_types.specs.Name.{Key}
use Rattle.std.specs.Option.{unwrap_or}
use Rattle.dvvset.specs.Object.{Entry}
use Rattle.past_model.specs.Sets.{set_at}
use Rattle.meta_types.specs.Equal.{key_eq}
use Rattle.past_model.proofs.Sound.{set_at-here}
use Rattle.past_model.proofs.Walking.{set_at-other}
use Rattle.past_model.specs.Objects.{Holding, holds_nothing}
use Rattle.restart_images.specs.Images.{Image, ChangeEarlier, changed, instead, holdings, holdings_from}

-- later images leave earlier ones as they are
stays : (there : ℕ → Holding) (last : ℕ) (images : List Image) (j : ℕ) → j ≤ last → holdings_from there last images j ≡ there j
stays there last [] j low = refl
stays there last (image ∷ later) j low =
    let made : Holding = changed (there image.base) image.change in
    stays (set_at there (last + 1) made) (last + 1) later j (omega arith)
    ∙ set_at-other there (last + 1) j made (λ e. omega arith)

-- what one image has is what its base has, except its change
step_from : (there : ℕ → Holding) (last : ℕ) (images : List Image) (at : ℕ) (d : Image) → at < length images
    → ((j : ℕ) → j < length images → (get_or images j d).base ≤ last + j)
    → holdings_from there last images (last + at + 1) ≡ changed (holdings_from there last images (get_or images at d).base) (get_or images at d).change
step_from there last [] at d low earlier = absurd (omega arith)
step_from there last (image ∷ later) zero d low earlier =
    let made : Holding = changed (there image.base) image.change in
    let base : image.base ≤ last = let b : image.base ≤ last + 0 = earlier 0 low in omega arith in
    let number : last + 0 + 1 ≡ last + 1 = omega arith in
    ap (holdings_from there last (image ∷ later)) number
    ∙ stays (set_at there (last + 1) made) (last + 1) later (last + 1) (omega arith)
    ∙ set_at-here there (last + 1) made
    ∙ ap (λ h. changed h image.change) (sym (stays there last (image ∷ later) image.base base))
step_from there last (image ∷ later) (suc at) d low earlier =
    let made : Holding = changed (there image.base) image.change in
    let number : last + suc at + 1 ≡ last + 1 + at + 1 = omega arith in
    ap (holdings_from there last (image ∷ later)) number
    ∙ step_from (set_at there (last + 1) made) (last + 1) later at d (omega arith) (λ j below. let b : (get_or later j d).base ≤ last + suc j = earlier (suc j) (omega arith) in omega arith)

pub step : (images : List Image) (at : ℕ) (d : Image) → at < length images → ChangeEarlier images
    → holdings images (at + 1) ≡ changed (holdings images (get_or images at d).base) (get_or images at d).change
step images at d low earlier =
    ap (holdings images) (let e : at + 1 ≡ 0 + at + 1 = omega arith in e)
    ∙ step_from (λ j. holds_nothing) 0 images at d low (λ j below. let b : (get_or images j d).base ≤ j = earlier.earlier j d below in omega arith)

-- one more image
snoc_from : (there : ℕ → Holding) (last : ℕ) (images : List Image) (image : Image)
    → holdings_from there last (images ++ image ∷ []) ≡ set_at (holdings_from there last images) (last + length images + 1) (changed (holdings_from there last images image.base) image.change)
snoc_from there last [] image =
    ap (λ n. set_at there n (changed (there image.base) image.change)) (let e : last + 1 ≡ last + 0 + 1 = omega arith in e)
snoc_from there last (first ∷ later) image =
    let now : ℕ → Holding = set_at there (last + 1) (changed (there first.base) first.change) in
    snoc_from now (last + 1) later image
    ∙ ap (λ n. set_at (holdings_from now (last + 1) later) n (changed (holdings_from now (last + 1) later image.base) image.change))
    (let e : last + 1 + length later + 1 ≡ last + suc (length later) + 1 = omega arith in e)

pub holdings_snoc : (images : List Image) (image : Image)
    → holdings (images ++ image ∷ []) ≡ set_at (holdings images) (length images + 1) (changed (holdings images image.base) image.change)
holdings_snoc images image =
    snoc_from (λ j. holds_nothing) 0 images image
    ∙ ap (λ n. set_at (holdings images) n (changed (holdings images image.base) image.change)) (let e : 0 + length images + 1 ≡ length images + 1 = omega arith in e)

-- ---- under one key

by_cases : (b : Bool) (a c : List Entry) → cond b a c ≡ unwrap_or (cond b (Some a) None) c
by_cases true a c = refl
by_cases false a c = refl

changed-instead : (there : Holding) (change : Option (Key × List Entry)) (k : Key) → changed there change k ≡ unwrap_or (instead change k) (there k)
changed-instead there None k = refl
changed-instead there (Some change) k = by_cases (key_eq k change.0) change.1 (there k)

-- what stands instead is what the image has
pub here : (images : List Image) (at : ℕ) (d : Image) (k : Key) (o : Option (List Entry)) → at < length images → ChangeEarlier images
    → o ≡ instead (get_or images at d).change k → holdings images (at + 1) k ≡ unwrap_or o (holdings images (get_or images at d).base k)
here images at d k o low earlier e =
    ap (λ h. h k) (step images at d low earlier)
    ∙ changed-instead (holdings images (get_or images at d).base) (get_or images at d).change k
    ∙ ap (λ o. unwrap_or o (holdings images (get_or images at d).base k)) (sym e)

-- image 0 is empty
pub none : (images : List Image) (k : Key) → holdings images 0 k ≡ []
none images k = ap (λ h. h k) (stays (λ j. holds_nothing) 0 images 0 (omega arith))

-- the walk from one image down to its base
pub down : (images : List Image) (at number : ℕ) (image : Image) (k : Key) (o : Option (List Entry)) → 0 < at → at ≤ length images → ChangeEarlier images
    → image ≡ get_or images (at - 1) image → o ≡ instead image.change k → holdings images at k ≡ holdings images number k
    → (image.base < at) × (unwrap_or o (holdings images image.base k) ≡ holdings images number k)
down images at number image k o low most earlier is e now =
    let place : at - 1 < length images = omega arith in
    let number-of : at - 1 + 1 ≡ at = omega arith in
    let base : (get_or images (at - 1) image).base ≤ at - 1 = earlier.earlier (at - 1) image place in
    let same : (get_or images (at - 1) image).base ≡ image.base = ap (λ i. i.base) (sym is) in
    let read : holdings images (at - 1 + 1) k ≡ unwrap_or o (holdings images (get_or images (at - 1) image).base k) =
    here images (at - 1) image k o place earlier (e ∙ ap (λ i. instead i.change k) is) in
    (omega arith, ap (λ b. unwrap_or o (holdings images b k)) (sym same) ∙ sym read ∙ ap (λ n. holdings images n k) number-of ∙ now)
