use Rattle.std.proofs.Common.{◌≡◌, set, true, sym, ap, subst, ◌∙◌}
use Rattle.past_model.specs.Moment.{GivesSets, marked_places}
use Rattle.past_model.proofs.Marking.{Joined, joined, gives_write, gives_replaced}
use Rattle.past_model.proofs.moment.after_write.Goals as goal

pub returns-clause-known : goal.returns-clause-known
returns-clause-known c = λ v r gv gr.
    let hs = c.args.history.now in
    let key = c.args.key.now in
    let both : Joined hs c.in_ok-known.known.items c.known-2.result.now c.known.result.now key =
    joined hs c.in_ok-known.known.items c.known-2.result.now c.known.result.now c.as_slice.result.now key
    (λ p lt. c.in_ok-known.ensures.marks p lt)
    (λ p. ap (λ l. marked_places l p) c.as_slice.ensures.value ∙ c.in_ok-read.ensures p) in
    rw c.new.ensures
    (gives_write hs c.in_ok-known.known.items c.known-2.result.now c.known.result.now v r key c.args.place both
    c.in_ok-known.ensures.len
    c.requires.inside
    c.requires.write
    (subst (λ l. GivesSets hs l v) (sym c.known-2.ensures) gv)
    (subst (λ l. GivesSets hs l r) (sym c.known.ensures) gr))

pub returns-clause-standing : goal.returns-clause-standing
returns-clause-standing c = λ v w gv gw.
    let hs = c.args.history.now in
    let known : c.new.result.known ≡ set c.in_ok-known.known.items c.args.place true = ap (λ m. m.known) c.new.ensures in
    rw c.new.ensures
    (gives_replaced hs c.in_ok-standing.standing.items c.standing.result.now c.as_slice-2.result.now v w c.args.key.now
    (subst (λ l. GivesSets hs l v) (sym c.standing.ensures) gv)
    (subst (λ l. GivesSets hs l w) (known ∙ sym c.as_slice-2.ensures.value) gw)
    (λ p lt. c.in_ok-standing.ensures p lt))
