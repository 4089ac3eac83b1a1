-- How many watches hear a key, one watch after another.
use Rattle.std.proofs.Common.{◌≡◌, ℕ, ◌+◌, ◌<◌, true, false, cond, List, [], ◌∷◌, ◌++◌, length, map, take, drop, get_or, refl, ap, ◌∙◌, arith, zero, suc}
use Rattle.std.specs.List.{filter}
use Rattle.meta_types.specs.Name.{Key}
use Rattle.dvvset.proofs.Rising.{drop_is}
use Rattle.subscriptions.specs.declared.change.Change.{Change}
use Rattle.subscriptions.specs.Watching.{Watching, hears, with_change}
use Rattle.subscriptions.specs.Watches.{hearing_count}

pub hearing_count-cons : (key : Key) (w : Watching) (ws : List Watching)
    → hearing_count key (w ∷ ws) ≡ hearing_count key (w ∷ []) + hearing_count key ws
hearing_count-cons key w ws =
    let rest = filter (λ w. hears w key) ws in
    elim (hears w key) as (λ b. length (cond b (w ∷ rest) rest) ≡ length (cond b (w ∷ []) []) + length rest) [
      | true ↦ omega arith
      | false ↦ omega arith
    ]

-- those that are left from a place on, by the one that stands there
pub hearing_count-drop : (key : Key) (ws : List Watching) (i : ℕ) (w : Watching) → i < length ws → w ≡ get_or ws i w
    → hearing_count key (drop i ws) ≡ hearing_count key (w ∷ []) + hearing_count key (drop (i + 1) ws)
hearing_count-drop key ws i w within is =
    ap (hearing_count key) (drop_is ws i w within is) ∙ hearing_count-cons key w (drop (i + 1) ws)

-- in a list that is written in place, the element that comes next is the old one
get_next : {X : Type 0} (f : X → X) (xs : List X) (i : ℕ) (d : X) → i < length xs → get_or (map f (take i xs) ++ drop i xs) i d ≡ get_or xs i d
get_next f [] i d l = absurd (omega arith)
get_next f (x ∷ xs) zero d l = refl
get_next f (x ∷ xs) (suc i) d l = get_next f xs i d (omega arith)

-- the notes that are left for the watch at this place and for those after it, if those before it
-- have noted the change
pub notes_left : (change : Change) (first list : List Watching) (place : ℕ) (watch : Watching) (notes : ℕ)
    → place < length list → length list ≡ length first
    → list ≡ map (with_change change) (take place first) ++ drop place first
    → watch ≡ get_or list place watch → notes ≡ hearing_count change.key (drop place first)
    → notes ≡ hearing_count change.key (watch ∷ []) + hearing_count change.key (drop (place + 1) first)
notes_left change first list place watch notes inside long noted read left =
    let within : place < length first = omega arith in
    let is = read ∙ ap (λ (ws : List Watching). get_or ws place watch) noted ∙ get_next (with_change change) first place watch within in
    left ∙ hearing_count-drop change.key first place watch within is
