-- One more event of a writer, at the place of its entry.
use Rattle.std.proofs.Common.{◌≡◌, ℕ, zero, suc, ◌+◌, ◌<◌, ◌≤◌, cond, List, [], ◌∷◌, ◌++◌, length, take, drop, get_or, refl, sym, ap, subst, ◌∙◌, arith, add-one, eqb, ⊎_elim}
use Rattle.std.proofs.lemmas.Bool.{lt-ltb, le-ltb, eq-eqb, ne_eqb, cases_lt}
use Rattle.std.proofs.lemmas.List.{get_or_default}
use Rattle.std.proofs.Math.ListN.{drop_of_length-le}
use Rattle.meta_types.specs.Value.{ValueParts}
use Rattle.dvvset.specs.Object.{Entry}
use Rattle.dvvset.specs.Clock.{join, count_for, raise}
use Rattle.dvvset.specs.Writer.{count_of}
use Rattle.dvvset.specs.Place.{IsPlace}
use Rattle.dvvset.proofs.Rising.{drop_is}
use Rattle.dvvset.proofs.Writers.{Rises, entry_of-low, count_at, count_of-entry, grown, first}

raise-lower : (w : ℕ) (v : ValueParts) (es : List Entry) (at : ℕ) → at ≤ length es → ((k : ℕ) (d : Entry) → k < at → (get_or es k d).id < w) → raise w v es ≡ take at es ++ raise w v (drop at es)
raise-lower w v es zero le lower = refl
raise-lower w v [] (suc a) le lower = absurd (omega arith)
raise-lower w v (x ∷ xs) (suc a) le lower =
    let low : x.id < w = lower 0 x (omega arith) in
    let above : x.id ≤ w = omega arith in
    let other : (x.id ≡ w → ⊥) = λ e. absurd (omega arith) in
    (λ i. cond (le-ltb w x.id above i) (first w v ∷ (x ∷ xs)) (cond (ne_eqb x.id w other i) (grown x v ∷ xs) (x ∷ raise w v xs)))
    ∙ ap (λ l. x ∷ l) (raise-lower w v xs a (omega arith) (λ k d lt. lower (suc k) d (omega arith)))

pub raise-same : (w : ℕ) (v : ValueParts) (es : List Entry) (at : ℕ) (x : Entry) → IsPlace w es at → at < length es → x ≡ get_or es at x → x.id ≡ w → raise w v es ≡ take at es ++ grown x v ∷ drop (at + 1) es
raise-same w v es at x r lt is same =
    let le : x.id ≤ w = omega arith in
    raise-lower w v es at r.within r.lower
    ∙ ap (λ l. take at es ++ l)
    (ap (λ l. raise w v l) (drop_is es at x lt is)
    ∙ (λ i. cond (le-ltb w x.id le i) (first w v ∷ (x ∷ drop (at + 1) es)) (cond (eq-eqb x.id w same i) (grown x v ∷ drop (at + 1) es) (x ∷ raise w v (drop (at + 1) es)))))

raise-above : (w : ℕ) (v : ValueParts) (es : List Entry) (at : ℕ) (x : Entry) → IsPlace w es at → at < length es → x ≡ get_or es at x → w < x.id → raise w v es ≡ take at es ++ first w v ∷ drop at es
raise-above w v es at x r lt is above =
    raise-lower w v es at r.within r.lower
    ∙ ap (λ l. take at es ++ l)
    (ap (λ l. raise w v l) (drop_is es at x lt is)
    ∙ (λ i. cond (lt-ltb w x.id above i) (first w v ∷ (x ∷ drop (at + 1) es)) (cond (eqb x.id w) (grown x v ∷ drop (at + 1) es) (x ∷ raise w v (drop (at + 1) es))))
    ∙ ap (λ l. first w v ∷ l) (sym (drop_is es at x lt is)))

-- no entry of the writer stands there
pub raise-new : (w : ℕ) (v : ValueParts) (es : List Entry) (at : ℕ) → IsPlace w es at → (at < length es → (x : Entry) → x ≡ get_or es at x → x.id ≡ w → ⊥) → raise w v es ≡ take at es ++ first w v ∷ drop at es
raise-new w v es at r other =
    ⊎_elim
    (λ lt.
    let d : Entry = first w v in
    let read : get_or es at d ≡ get_or es at (get_or es at d) = get_or_default es at d (get_or es at d) lt in
    let le : w ≤ (get_or es at d).id = r.stops d lt in
    let ne : ((get_or es at d).id ≡ w → ⊥) = other lt (get_or es at d) read in
    raise-above w v es at (get_or es at d) r lt read (omega (arith, ne)))
    (λ ge.
    let none : drop at es ≡ [] = drop_of_length-le es ge in
    raise-lower w v es at r.within r.lower ∙ ap (λ l. take at es ++ raise w v l) none
    ∙ sym (ap (λ l. take at es ++ first w v ∷ l) none))
    (cases_lt at (length es))

-- how many events the writer has, by the entry at its place
counter-lower : (w : ℕ) (es : List Entry) (at : ℕ) → at ≤ length es → ((k : ℕ) (d : Entry) → k < at → (get_or es k d).id < w) → count_of es w ≡ count_of (drop at es) w
counter-lower w es zero le lower = refl
counter-lower w [] (suc a) le lower = absurd (omega arith)
counter-lower w (x ∷ xs) (suc a) le lower =
    let low : x.id < w = lower 0 x (omega arith) in
    let other : (x.id ≡ w → ⊥) = λ e. absurd (omega arith) in
    (λ i. cond (ne_eqb x.id w other i) x.count (count_for (join xs) w))
    ∙ counter-lower w xs a (omega arith) (λ k d lt. lower (suc k) d (omega arith))

pub count_of-same : (w : ℕ) (es : List Entry) (at : ℕ) (x : Entry) → IsPlace w es at → at < length es → x ≡ get_or es at x → x.id ≡ w → count_of es w ≡ x.count
count_of-same w es at x r lt is same =
    counter-lower w es at r.within r.lower ∙ ap (λ l. count_of l w) (drop_is es at x lt is)
    ∙ (λ i. cond (eq-eqb x.id w same i) x.count (count_for (join (drop (at + 1) es)) w))

-- two reads of one place
pub same_read : (es : List Entry) (at : ℕ) (x y : Entry) → at < length es → x ≡ get_or es at x → y ≡ get_or es at y → x ≡ y
same_read es at x y lt ix iy =
    let both : x ∷ drop (at + 1) es ≡ y ∷ drop (at + 1) es = sym (drop_is es at x lt ix) ∙ drop_is es at y lt iy in
    cc

-- the front and the back of a list from which one element was taken out
take-without : (es : List Entry) (at : ℕ) → at < length es → take at (take at es ++ drop (suc at) es) ≡ take at es
take-without [] at lt = absurd (omega arith)
take-without (x ∷ xs) zero lt = refl
take-without (x ∷ xs) (suc at) lt = ap (λ l. x ∷ l) (take-without xs at (omega arith))

drop-without : (es : List Entry) (at : ℕ) → at < length es → drop at (take at es ++ drop (suc at) es) ≡ drop (suc at) es
drop-without [] at lt = absurd (omega arith)
drop-without (x ∷ xs) zero lt = refl
drop-without (x ∷ xs) (suc at) lt = drop-without xs at (omega arith)

take-removed : (es : List Entry) (at : ℕ) → at < length es → take at (take at es ++ drop (at + 1) es) ≡ take at es
take-removed es at lt = rw add-one (take-without es at lt)

drop-removed : (es : List Entry) (at : ℕ) → at < length es → drop at (take at es ++ drop (at + 1) es) ≡ drop (at + 1) es
drop-removed es at lt = rw add-one (drop-without es at lt)

-- the entry was taken out, and stands there again with one more event
pub put_back : (w : ℕ) (v : ValueParts) (es s : List Entry) (at : ℕ) (x taken e : Entry) → IsPlace w es at → at < length es → x ≡ get_or es at x → x.id ≡ w → taken ≡ get_or es at taken
    → s ≡ take at es ++ drop (at + 1) es → e ≡ grown taken v → take at s ++ e ∷ drop at s ≡ raise w v es
put_back w v es s at x taken e r lt ix id it removed grows =
    let same : taken ≡ x = same_read es at taken x lt it ix in
    (λ i. take at (removed i) ++ e ∷ drop at (removed i))
    ∙ (λ i. take-removed es at lt i ++ (grows ∙ ap (λ y. grown y v) same) i ∷ drop-removed es at lt i)
    ∙ sym (raise-same w v es at x r lt ix id)

-- a first entry was put there
pub put_first : (w : ℕ) (v : ValueParts) (es : List Entry) (at : ℕ) (e : Entry) → IsPlace w es at → (at < length es → (x : Entry) → x ≡ get_or es at x → x.id ≡ w → ⊥) → e ≡ first w v
    → take at es ++ e ∷ drop at es ≡ raise w v es
put_first w v es at e r other is = (λ i. take at es ++ is i ∷ drop at es) ∙ sym (raise-new w v es at r other)

-- the writer's events, by its entry that was taken out
pub count_taken : (w : ℕ) (es : List Entry) (at : ℕ) (x taken : Entry) → IsPlace w es at → at < length es → x ≡ get_or es at x → x.id ≡ w → taken ≡ get_or es at taken → count_of es w ≡ taken.count
count_taken w es at x taken r lt ix id it = count_of-same w es at x r lt ix id ∙ ap (λ y. y.count) (same_read es at x taken lt ix it)

rises_after : (es : List Entry) (low at : ℕ) (x : Entry) → Rises low es → at < length es → x ≡ get_or es at x → Rises (x.id + 1) (drop (suc at) es)
rises_after [] low at x rises lt is = absurd (omega arith)
rises_after (y ∷ ys) low zero x rises lt is = subst (λ z. Rises (z.id + 1) ys) (sym is) rises.1
rises_after (y ∷ ys) low (suc at) x rises lt is = rises_after ys (y.id + 1) at x rises.1 (omega arith) is

rises_behind : (es : List Entry) (low at : ℕ) (x : Entry) → Rises low es → at < length es → x ≡ get_or es at x → Rises (x.id + 1) (drop (at + 1) es)
rises_behind es low at x rises lt is =
    let one : suc at ≡ at + 1 = omega arith in
    subst (λ n. Rises (x.id + 1) (drop n es)) one (rises_after es low at x rises lt is)

-- a writer that has no entry at its place has no events
pub count_of-new : (w : ℕ) (es : List Entry) (at : ℕ) → Rises 0 es → IsPlace w es at → (at < length es → (x : Entry) → x ≡ get_or es at x → x.id ≡ w → ⊥) → count_of es w ≡ 0
count_of-new w es at rises r other =
    counter-lower w es at r.within r.lower
    ∙ ⊎_elim
    (λ lt.
    let d : Entry = record { id = w; count = 1; values = [] } in
    let x : Entry = get_or es at d in
    let read : x ≡ get_or es at x = get_or_default es at d (get_or es at d) lt in
    let le : w ≤ x.id = r.stops d lt in
    let ne : (x.id ≡ w → ⊥) = other lt x read in
    ap (λ l. count_of l w) (drop_is es at x lt read)
    ∙ (λ i. cond (ne_eqb x.id w ne i) x.count (count_of (drop (at + 1) es) w))
    ∙ count_of-entry (drop (at + 1) es) w
    ∙ ap count_at (entry_of-low (drop (at + 1) es) (x.id + 1) w (rises_behind es 0 at x rises lt read) (omega (arith, ne))))
    (λ ge. ap (λ l. count_of l w) (drop_of_length-le es ge))
    (cases_lt at (length es))
