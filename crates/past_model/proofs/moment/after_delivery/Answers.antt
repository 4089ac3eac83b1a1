use Rattle.std.proofs.Common.{◌≡◌, ◌+◌, ◌<◌, length, get_or, sym, ap, subst, ◌∙◌, Some}
use Rattle.std.specs.Prelude.{slice_get}
use Rattle.std.proofs.lemmas.Bool.{true≢false}
use Rattle.std.proofs.lemmas.List.{get_or_read}
use Rattle.past_model.specs.Sets.{union, with_set}
use Rattle.past_model.specs.Moment.{GivesSets, is_sending, marked_places}
use Rattle.past_model.proofs.Marking.{Joined, joined, gives_joined, sending_at}
use Rattle.past_model.proofs.moment.after_delivery.Goals as goal

pub returns-in_ok-standing-in-Sent-clause-known : goal.returns-in_ok-standing-in-Sent-clause-known
returns-in_ok-standing-in-Sent-clause-known c = λ v w m k d is gv gw.
    let hs = c.args.history.now in
    let key = c.in-Sent.key in
    let there : slice_get hs c.args.sent ≡ Some c.index-history-sent.result = sending_at hs c.args.sent c.index-history-sent.result c.requires.sending c.index-history-sent.is in
    let same : key ≡ k = cc (is, there, c.in-Sent.is) in
    let inside : c.args.sent + 1 < length c.args.moments.now = c.requires.inside in
    let moment : get_or c.args.moments.now (c.args.sent + 1) d ≡ c.index-moments-sent.result = sym (get_or_read c.args.moments.now (c.args.sent + 1) c.index-moments-sent.result inside c.index-moments-sent.is d) in
    let more : c.known-in-Sent.result.now ≡ (get_or c.args.moments.now (c.args.sent + 1) d).known = c.known-in-Sent.ensures ∙ ap (λ x. x.known) (sym moment) in
    let both : Joined hs c.in_ok-known-in-Sent.known.items c.known-in-Sent-2.result.now c.known-in-Sent.result.now key =
    joined hs c.in_ok-known-in-Sent.known.items c.known-in-Sent-2.result.now c.known-in-Sent.result.now c.as_slice.result.now key
    (λ p lt. c.in_ok-known-in-Sent.ensures.marks p lt)
    (λ p. ap (λ l. marked_places l p) c.as_slice.ensures.value ∙ c.in_ok-more-in-Sent.ensures p) in
    rw c.new.ensures
    (subst (λ l. GivesSets hs c.in_ok-known-in-Sent.known.items (with_set v l (union (v l) (w l)))) same
    (gives_joined hs c.in_ok-known-in-Sent.known.items c.known-in-Sent-2.result.now c.known-in-Sent.result.now v w key both
    (subst (λ l. GivesSets hs l v) (sym c.known-in-Sent-2.ensures) gv)
    (subst (λ l. GivesSets hs l w) (sym more) gw)))

pub returns-in-Got-clause-known : goal.returns-in-Got-clause-known
returns-in-Got-clause-known c =
    let h = c.index-history-sent.result in
    absurd (true≢false (sym c.requires.sending ∙ ap is_sending (sending_at c.args.history.now c.args.sent h c.requires.sending c.index-history-sent.is) ∙ ap (λ x. is_sending (Some x)) c.in-Got.is))

pub returns-in-Kept-clause-known : goal.returns-in-Kept-clause-known
returns-in-Kept-clause-known c =
    let h = c.index-history-sent.result in
    absurd (true≢false (sym c.requires.sending ∙ ap is_sending (sending_at c.args.history.now c.args.sent h c.requires.sending c.index-history-sent.is) ∙ ap (λ x. is_sending (Some x)) c.in-Kept.is))

pub returns-in-Restarted-clause-known : goal.returns-in-Restarted-clause-known
returns-in-Restarted-clause-known c =
    let h = c.index-history-sent.result in
    absurd (true≢false (sym c.requires.sending ∙ ap is_sending (sending_at c.args.history.now c.args.sent h c.requires.sending c.index-history-sent.is) ∙ ap (λ x. is_sending (Some x)) c.in-Restarted.is))
