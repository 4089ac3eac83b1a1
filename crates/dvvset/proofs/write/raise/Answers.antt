use Rattle.std.proofs.Common.{◌≡◌, ◌<◌, length, sym, ap, subst, ◌∙◌, arith, inl, inr, refl}
use Rattle.std.proofs.lemmas.Bool.{eqb-true, eqb-false}
use Rattle.std.proofs.lemmas.Result.{err_from_is_err_and}
use Rattle.dvvset.specs.Place.{IsPlace}
use Rattle.dvvset.proofs.Places.{put_back, put_first, count_taken, count_of-new, same_read}
use Rattle.dvvset.proofs.Writers.{first}
use Rattle.dvvset.proofs.write.raise.Goals as goal
use Rattle.dvvset.proofs.write.raise.Goals.{else-at-len-via-then-at-len+else-eq, else-at-len-via-else-at-len}

pub returns-in_err-entry-clause-fault : goal.returns-in_err-entry-clause-fault
returns-in_err-entry-clause-fault c =
    let es = c.args.entries.items in
    let at = c.place-at.result in
    let x = c.index.result.now in
    let place = subst (λ l. IsPlace c.args.id l at) c.as_slice.ensures.value c.place-at.ensures in
    let lt : at < length es = omega arith in
    let id : x.id ≡ c.args.id = sym c.id.ensures ∙ eqb-true c.id.result c.args.id (sym c.eq.ensures ∙ c.if-eq.true) in
    let p = err_from_is_err_and c.from_residual.result c.from_residual.ensures.1 in
    rw (p.1, p.2)
    (elim c.in_err-entry.ensures.fault [
      | inl memory ↦ inl memory
      | inr spent ↦ inr (spent.0, count_taken c.args.id es at x c.remove.result place lt c.index.ensures id c.remove.ensures.value ∙ spent.1)
    ])

pub returns-then-eq-clause-value : goal.returns-then-eq-clause-value
returns-then-eq-clause-value c =
    let es = c.args.entries.items in
    let at = c.place-at.result in
    let x = c.index.result.now in
    let place = subst (λ l. IsPlace c.args.id l at) c.as_slice.ensures.value c.place-at.ensures in
    let lt : at < length es = omega arith in
    let id : x.id ≡ c.args.id = sym c.id.ensures ∙ eqb-true c.id.result c.args.id (sym c.eq.ensures ∙ c.if-eq.true) in
    c.in_ok-insert.ensures.items
    ∙ put_back c.args.id c.args.value es c.remove.new.self.items at x c.remove.result c.in_ok-entry.entry place lt c.index.ensures id c.remove.ensures.value c.remove.ensures.by_index.2 c.in_ok-entry.ensures.value

pub returns-then-eq-clause-room : goal.returns-then-eq-clause-room
returns-then-eq-clause-room c =
    let es = c.args.entries.items in
    let at = c.place-at.result in
    let x = c.index.result.now in
    let place = subst (λ l. IsPlace c.args.id l at) c.as_slice.ensures.value c.place-at.ensures in
    let lt : at < length es = omega arith in
    let id : x.id ≡ c.args.id = sym c.id.ensures ∙ eqb-true c.id.result c.args.id (sym c.eq.ensures ∙ c.if-eq.true) in
    rw (count_taken c.args.id es at x c.remove.result place lt c.index.ensures id c.remove.ensures.value) c.in_ok-entry.ensures.room

pub returns-clause-value : goal.returns-clause-value
returns-clause-value c =
    let es = c.args.entries.items in
    let at = c.place-at.result in
    let place = subst (λ l. IsPlace c.args.id l at) c.as_slice.ensures.value c.place-at.ensures in
    let is : c.new.result ≡ first c.args.id c.args.value = rw (c.new.ensures, c.in_ok-push.ensures.items, c.in_ok-values.ensures.items) refl in
    c.in_ok-insert-2.ensures.items
    ∙ put_first c.args.id c.args.value es at c.new.result place
    (λ lt x read same.
    elim c.else-at-len.branch [
      | else-at-len-via-then-at-len+else-eq w ↦
          let one : x ≡ w.index.result.now = same_read es at x w.index.result.now lt read w.index.ensures in
          eqb-false w.id.result c.args.id (sym w.eq.ensures ∙ w.if-eq.false) (w.id.ensures ∙ ap (λ z. z.id) (sym one) ∙ same)
      | else-at-len-via-else-at-len w ↦ absurd (omega arith)
    ])
    is

pub returns-clause-room : goal.returns-clause-room
returns-clause-room c =
    let es = c.args.entries.items in
    let at = c.place-at.result in
    let place = subst (λ l. IsPlace c.args.id l at) c.as_slice.ensures.value c.place-at.ensures in
    rw (count_of-new c.args.id es at c.requires.rising place
    (λ lt x read same.
    elim c.else-at-len.branch [
      | else-at-len-via-then-at-len+else-eq w ↦
          let one : x ≡ w.index.result.now = same_read es at x w.index.result.now lt read w.index.ensures in
          eqb-false w.id.result c.args.id (sym w.eq.ensures ∙ w.if-eq.false) (w.id.ensures ∙ ap (λ z. z.id) (sym one) ∙ same)
      | else-at-len-via-else-at-len w ↦ absurd (omega arith)
    ]))
    (omega arith)
