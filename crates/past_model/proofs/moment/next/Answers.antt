use Rattle.std.proofs.Common.{◌≡◌, ℕ, ◌+◌, ◌<◌, length, take, get_or, Some, sym, ap, subst, ◌∙◌, arith, rules}
use Rattle.std.specs.Prelude.{slice_get}
use Rattle.std.proofs.lemmas.Result.{IfOk-weaker}
use Rattle.meta_types.specs.Name.{Key}
use Rattle.past_model.specs.declared.happening.Happening.{Happening}
use Rattle.past_model.specs.declared.happening.Happening.TheVariants.{Wrote, Looked, Sent, Got, Kept, Restarted}
use Rattle.past_model.specs.Sets.{Knowledge, singleton, union, with_set}
use Rattle.past_model.specs.Past.{past, read_of}
use Rattle.past_model.specs.History.{Fits}
use Rattle.past_model.specs.Moment.{Marks, GivesSets, GivesBoth, is_write_under, is_sending, moment_read, node_of}
use Rattle.past_model.proofs.Keys.{key_eq-self}
use Rattle.past_model.proofs.Fitting.{fits_at}
use Rattle.past_model.proofs.Latest.{at_latest, at_image}
use Rattle.past_model.proofs.Moving.{IsBehind, if_both, placed, read_within, read_small, read_gives, behind_write, sent_within, sent_at, behind_delivery, behind_look, behind_sending, behind_keeping, behind_restart}
use Rattle.past_model.proofs.moment.next.Goals as goal

pub moment_read-requires : goal.moment_read-requires
moment_read-requires c =
    let at : slice_get c.args.history.now c.args.place ≡ Some (Wrote c.in-Wrote.node c.in-Wrote.key c.in-Wrote.value c.in-Wrote.seen) = placed c.args.history.now c.args.place c.index-history-place.result (Wrote c.in-Wrote.node c.in-Wrote.key c.in-Wrote.value c.in-Wrote.seen) c.requires.inside c.index-history-place.is c.in-Wrote.is in
    let fits : Fits (take c.args.place c.args.history.now) (Wrote c.in-Wrote.node c.in-Wrote.key c.in-Wrote.value c.in-Wrote.seen) = fits_at c.args.history.now c.args.place (Wrote c.in-Wrote.node c.in-Wrote.key c.in-Wrote.value c.in-Wrote.seen) c.requires.history at in
    read_small c.args.history.now c.args.place c.in-Wrote.node c.in-Wrote.key c.in-Wrote.value c.in-Wrote.seen (omega (arith, c.requires.inside)) fits

pub offset_bounds-moments-moment_read : goal.offset_bounds-moments-moment_read
offset_bounds-moments-moment_read c =
    let at : slice_get c.args.history.now c.args.place ≡ Some (Wrote c.in-Wrote.node c.in-Wrote.key c.in-Wrote.value c.in-Wrote.seen) = placed c.args.history.now c.args.place c.index-history-place.result (Wrote c.in-Wrote.node c.in-Wrote.key c.in-Wrote.value c.in-Wrote.seen) c.requires.inside c.index-history-place.is c.in-Wrote.is in
    let fits : Fits (take c.args.place c.args.history.now) (Wrote c.in-Wrote.node c.in-Wrote.key c.in-Wrote.value c.in-Wrote.seen) = fits_at c.args.history.now c.args.place (Wrote c.in-Wrote.node c.in-Wrote.key c.in-Wrote.value c.in-Wrote.seen) c.requires.history at in
    let within : moment_read c.in-Wrote.seen < c.args.place + 1 = read_within c.args.history.now c.args.place c.in-Wrote.node c.in-Wrote.key c.in-Wrote.value c.in-Wrote.seen fits in
    let inside : c.moment_read.result < length c.args.moments.now = omega (arith, within, c.moment_read.ensures, c.requires.before) in
    search rules

pub bounds-moments-moment_read : goal.bounds-moments-moment_read
bounds-moments-moment_read c =
    let at : slice_get c.args.history.now c.args.place ≡ Some (Wrote c.in-Wrote.node c.in-Wrote.key c.in-Wrote.value c.in-Wrote.seen) = placed c.args.history.now c.args.place c.index-history-place.result (Wrote c.in-Wrote.node c.in-Wrote.key c.in-Wrote.value c.in-Wrote.seen) c.requires.inside c.index-history-place.is c.in-Wrote.is in
    let fits : Fits (take c.args.place c.args.history.now) (Wrote c.in-Wrote.node c.in-Wrote.key c.in-Wrote.value c.in-Wrote.seen) = fits_at c.args.history.now c.args.place (Wrote c.in-Wrote.node c.in-Wrote.key c.in-Wrote.value c.in-Wrote.seen) c.requires.history at in
    let within : moment_read c.in-Wrote.seen < c.args.place + 1 = read_within c.args.history.now c.args.place c.in-Wrote.node c.in-Wrote.key c.in-Wrote.value c.in-Wrote.seen fits in
    omega (arith, within, c.moment_read.ensures, c.requires.before)

pub after_write-requires-clause-write : goal.after_write-requires-clause-write
after_write-requires-clause-write c =
    ap (is_write_under c.in-Wrote.key) (placed c.args.history.now c.args.place c.index-history-place.result (Wrote c.in-Wrote.node c.in-Wrote.key c.in-Wrote.value c.in-Wrote.seen) c.requires.inside c.index-history-place.is c.in-Wrote.is) ∙ key_eq-self c.in-Wrote.key

pub after_delivery-requires-clause-inside : goal.after_delivery-requires-clause-inside
after_delivery-requires-clause-inside c =
    let at : slice_get c.args.history.now c.args.place ≡ Some (Got c.in-Got.node c.in-Got.sent) = placed c.args.history.now c.args.place c.index-history-place.result (Got c.in-Got.node c.in-Got.sent) c.requires.inside c.index-history-place.is c.in-Got.is in
    let fits : Fits (take c.args.place c.args.history.now) (Got c.in-Got.node c.in-Got.sent) = fits_at c.args.history.now c.args.place (Got c.in-Got.node c.in-Got.sent) c.requires.history at in
    let within : c.in-Got.sent + 1 < c.args.place + 1 = sent_within c.args.history.now c.args.place c.in-Got.node c.in-Got.sent fits in
    omega (arith, within, c.requires.before)

pub after_delivery-requires-clause-sending : goal.after_delivery-requires-clause-sending
after_delivery-requires-clause-sending c =
    let at : slice_get c.args.history.now c.args.place ≡ Some (Got c.in-Got.node c.in-Got.sent) = placed c.args.history.now c.args.place c.index-history-place.result (Got c.in-Got.node c.in-Got.sent) c.requires.inside c.index-history-place.is c.in-Got.is in
    let fits : Fits (take c.args.place c.args.history.now) (Got c.in-Got.node c.in-Got.sent) = fits_at c.args.history.now c.args.place (Got c.in-Got.node c.in-Got.sent) c.requires.history at in
    ap is_sending (sent_at c.args.history.now c.args.place c.in-Got.node c.in-Got.sent fits)

pub image-requires-clause-made : goal.image-requires-clause-made
image-requires-clause-made c =
    (fits_at c.args.history.now c.args.place (Restarted c.in-Restarted.node c.in-Restarted.number) c.requires.history (placed c.args.history.now c.args.place c.index-history-place.result (Restarted c.in-Restarted.node c.in-Restarted.number) c.requires.inside c.index-history-place.is c.in-Restarted.is)).0

pub returns-in-Wrote-clause-moment : goal.returns-in-Wrote-clause-moment
returns-in-Wrote-clause-moment c =
    let at : slice_get c.args.history.now c.args.place ≡ Some (Wrote c.in-Wrote.node c.in-Wrote.key c.in-Wrote.value c.in-Wrote.seen) = placed c.args.history.now c.args.place c.index-history-place.result (Wrote c.in-Wrote.node c.in-Wrote.key c.in-Wrote.value c.in-Wrote.seen) c.requires.inside c.index-history-place.is c.in-Wrote.is in
    let fits : Fits (take c.args.place c.args.history.now) (Wrote c.in-Wrote.node c.in-Wrote.key c.in-Wrote.value c.in-Wrote.seen) = fits_at c.args.history.now c.args.place (Wrote c.in-Wrote.node c.in-Wrote.key c.in-Wrote.value c.in-Wrote.seen) c.requires.history at in
    let mine : c.node.result ≡ c.in-Wrote.node = c.node.ensures.value ∙ ap node_of c.in-Wrote.is in
    let both : GivesBoth c.args.history.now c.index-moments-latest.result (past (take c.args.place c.args.history.now)) c.in-Wrote.node =
    subst (GivesBoth c.args.history.now c.index-moments-latest.result (past (take c.args.place c.args.history.now))) mine
    (subst (λ m. GivesBoth c.args.history.now m (past (take c.args.place c.args.history.now)) c.node.result) (sym c.index-moments-latest.is)
    (at_latest c.args.history.now c.args.moments.now c.args.place c.node.result c.latest.result c.index-moments-latest.result c.requires.moments (omega (arith, c.requires.inside)) (omega (arith, c.latest.ensures.within, c.requires.before)) c.latest.ensures)) in
    let read : (w : Knowledge) × (GivesSets c.args.history.now c.index-moments-moment_read.result.known w × (w c.in-Wrote.key ≡ read_of (past (take c.args.place c.args.history.now)) c.in-Wrote.key c.in-Wrote.seen)) =
    subst (λ m. (w : Knowledge) × (GivesSets c.args.history.now m.known w × (w c.in-Wrote.key ≡ read_of (past (take c.args.place c.args.history.now)) c.in-Wrote.key c.in-Wrote.seen)))
    (sym (c.index-moments-moment_read.is ∙ ap (λ i. get_or c.args.moments.now i c.index-moments-moment_read.result) c.moment_read.ensures))
    (read_gives c.args.history.now c.args.moments.now c.args.place c.in-Wrote.node c.in-Wrote.key c.in-Wrote.value c.in-Wrote.seen c.index-moments-moment_read.result c.requires.moments c.requires.before fits) in
    if_both c.after_write.result
    (λ m. (v r : Knowledge) → GivesSets c.args.history.now c.index-moments-latest.result.known v → GivesSets c.args.history.now c.index-moments-moment_read.result.known r → GivesSets c.args.history.now m.known (with_set v c.in-Wrote.key (union (v c.in-Wrote.key) (union (r c.in-Wrote.key) (singleton c.args.place)))))
    (λ m. (v w : Knowledge) → GivesSets c.args.history.now c.index-moments-latest.result.standing v → GivesSets c.args.history.now m.known w → GivesSets c.args.history.now m.standing (with_set v c.in-Wrote.key (w c.in-Wrote.key)))
    (λ m. (h : Happening) → slice_get c.args.history.now c.args.place ≡ Some h → GivesBoth c.args.history.now m (past (take (c.args.place + 1) c.args.history.now)) (node_of h))
    (λ m known standing.
    (behind_write c.args.history.now c.args.place c.in-Wrote.node c.in-Wrote.key c.in-Wrote.value c.in-Wrote.seen m read.0 c.requires.inside at read.1.1
    (known ((past (take c.args.place c.args.history.now)).known c.in-Wrote.node) read.0 both.known read.1.0)
    (λ u gives. standing ((past (take c.args.place c.args.history.now)).standing c.in-Wrote.node) u both.standing gives)).behind)
    c.after_write.ensures.known c.after_write.ensures.standing

pub returns-in-Looked-clause-moment : goal.returns-in-Looked-clause-moment
returns-in-Looked-clause-moment c =
    let mine : c.node.result ≡ c.in-Looked.node = c.node.ensures.value ∙ ap node_of c.in-Looked.is in
    let both : GivesBoth c.args.history.now c.index-moments-latest.result (past (take c.args.place c.args.history.now)) c.in-Looked.node =
    subst (GivesBoth c.args.history.now c.index-moments-latest.result (past (take c.args.place c.args.history.now))) mine
    (subst (λ m. GivesBoth c.args.history.now m (past (take c.args.place c.args.history.now)) c.node.result) (sym c.index-moments-latest.is)
    (at_latest c.args.history.now c.args.moments.now c.args.place c.node.result c.latest.result c.index-moments-latest.result c.requires.moments (omega (arith, c.requires.inside)) (omega (arith, c.latest.ensures.within, c.requires.before)) c.latest.ensures)) in
    IfOk-weaker c.same.result (λ m. m ≡ record { known = c.known.result.now; standing = c.standing.result.now }) (λ m. (h : Happening) → slice_get c.args.history.now c.args.place ≡ Some h → GivesBoth c.args.history.now m (past (take (c.args.place + 1) c.args.history.now)) (node_of h))
    (λ m same. (behind_look c.args.history.now c.args.place c.in-Looked.node c.in-Looked.key m (placed c.args.history.now c.args.place c.index-history-place.result (Looked c.in-Looked.node c.in-Looked.key) c.requires.inside c.index-history-place.is c.in-Looked.is) (subst (λ x. GivesBoth c.args.history.now x (past (take c.args.place c.args.history.now)) c.in-Looked.node) (sym (same ∙ (λ i. record { known = c.known.ensures i; standing = c.standing.ensures i }))) both)).behind)
    c.same.ensures

pub returns-in-Sent-clause-moment : goal.returns-in-Sent-clause-moment
returns-in-Sent-clause-moment c =
    let mine : c.node.result ≡ c.in-Sent.node = c.node.ensures.value ∙ ap node_of c.in-Sent.is in
    let both : GivesBoth c.args.history.now c.index-moments-latest.result (past (take c.args.place c.args.history.now)) c.in-Sent.node =
    subst (GivesBoth c.args.history.now c.index-moments-latest.result (past (take c.args.place c.args.history.now))) mine
    (subst (λ m. GivesBoth c.args.history.now m (past (take c.args.place c.args.history.now)) c.node.result) (sym c.index-moments-latest.is)
    (at_latest c.args.history.now c.args.moments.now c.args.place c.node.result c.latest.result c.index-moments-latest.result c.requires.moments (omega (arith, c.requires.inside)) (omega (arith, c.latest.ensures.within, c.requires.before)) c.latest.ensures)) in
    IfOk-weaker c.same-in-Sent.result (λ m. m ≡ record { known = c.known-in-Sent.result.now; standing = c.standing-in-Sent.result.now }) (λ m. (h : Happening) → slice_get c.args.history.now c.args.place ≡ Some h → GivesBoth c.args.history.now m (past (take (c.args.place + 1) c.args.history.now)) (node_of h))
    (λ m same. (behind_sending c.args.history.now c.args.place c.in-Sent.node c.in-Sent.key m (placed c.args.history.now c.args.place c.index-history-place.result (Sent c.in-Sent.node c.in-Sent.key) c.requires.inside c.index-history-place.is c.in-Sent.is) (subst (λ x. GivesBoth c.args.history.now x (past (take c.args.place c.args.history.now)) c.in-Sent.node) (sym (same ∙ (λ i. record { known = c.known-in-Sent.ensures i; standing = c.standing-in-Sent.ensures i }))) both)).behind)
    c.same-in-Sent.ensures

pub returns-in-Got-clause-moment : goal.returns-in-Got-clause-moment
returns-in-Got-clause-moment c =
    let at : slice_get c.args.history.now c.args.place ≡ Some (Got c.in-Got.node c.in-Got.sent) = placed c.args.history.now c.args.place c.index-history-place.result (Got c.in-Got.node c.in-Got.sent) c.requires.inside c.index-history-place.is c.in-Got.is in
    let fits : Fits (take c.args.place c.args.history.now) (Got c.in-Got.node c.in-Got.sent) = fits_at c.args.history.now c.args.place (Got c.in-Got.node c.in-Got.sent) c.requires.history at in
    let mine : c.node.result ≡ c.in-Got.node = c.node.ensures.value ∙ ap node_of c.in-Got.is in
    let both : GivesBoth c.args.history.now c.index-moments-latest.result (past (take c.args.place c.args.history.now)) c.in-Got.node =
    subst (GivesBoth c.args.history.now c.index-moments-latest.result (past (take c.args.place c.args.history.now))) mine
    (subst (λ m. GivesBoth c.args.history.now m (past (take c.args.place c.args.history.now)) c.node.result) (sym c.index-moments-latest.is)
    (at_latest c.args.history.now c.args.moments.now c.args.place c.node.result c.latest.result c.index-moments-latest.result c.requires.moments (omega (arith, c.requires.inside)) (omega (arith, c.latest.ensures.within, c.requires.before)) c.latest.ensures)) in
    if_both c.after_delivery.result
    (λ m. (v w : Knowledge) (q : ℕ) (k : Key) (d : Marks) → slice_get c.args.history.now c.in-Got.sent ≡ Some (Sent q k) → GivesSets c.args.history.now c.index-moments-latest.result.known v → GivesSets c.args.history.now (get_or c.args.moments.now (c.in-Got.sent + 1) d).known w → GivesSets c.args.history.now m.known (with_set v k (union (v k) (w k))))
    (λ m. m.standing ≡ c.index-moments-latest.result.standing)
    (λ m. (h : Happening) → slice_get c.args.history.now c.args.place ≡ Some h → GivesBoth c.args.history.now m (past (take (c.args.place + 1) c.args.history.now)) (node_of h))
    (λ m known standing. (behind_delivery c.args.history.now c.args.moments.now c.args.place c.in-Got.node c.in-Got.sent c.index-moments-latest.result m c.requires.inside c.requires.before c.requires.moments at fits both known standing).behind)
    c.after_delivery.ensures.known c.after_delivery.ensures.standing

pub returns-in-Kept-clause-moment : goal.returns-in-Kept-clause-moment
returns-in-Kept-clause-moment c =
    let mine : c.node.result ≡ c.in-Kept.node = c.node.ensures.value ∙ ap node_of c.in-Kept.is in
    let both : GivesBoth c.args.history.now c.index-moments-latest.result (past (take c.args.place c.args.history.now)) c.in-Kept.node =
    subst (GivesBoth c.args.history.now c.index-moments-latest.result (past (take c.args.place c.args.history.now))) mine
    (subst (λ m. GivesBoth c.args.history.now m (past (take c.args.place c.args.history.now)) c.node.result) (sym c.index-moments-latest.is)
    (at_latest c.args.history.now c.args.moments.now c.args.place c.node.result c.latest.result c.index-moments-latest.result c.requires.moments (omega (arith, c.requires.inside)) (omega (arith, c.latest.ensures.within, c.requires.before)) c.latest.ensures)) in
    if_both c.after_keeping.result
    (λ m. m.known ≡ c.index-moments-latest.result.known)
    (λ m. (v w : Knowledge) → GivesSets c.args.history.now c.index-moments-latest.result.standing v → GivesSets c.args.history.now c.index-moments-latest.result.known w → GivesSets c.args.history.now m.standing (with_set v c.in-Kept.key (w c.in-Kept.key)))
    (λ m. (h : Happening) → slice_get c.args.history.now c.args.place ≡ Some h → GivesBoth c.args.history.now m (past (take (c.args.place + 1) c.args.history.now)) (node_of h))
    (λ m known standing. (behind_keeping c.args.history.now c.args.place c.in-Kept.node c.in-Kept.key c.index-moments-latest.result m (placed c.args.history.now c.args.place c.index-history-place.result (Kept c.in-Kept.node c.in-Kept.key) c.requires.inside c.index-history-place.is c.in-Kept.is) both known standing).behind)
    c.after_keeping.ensures.known c.after_keeping.ensures.standing

pub returns-in-Restarted-clause-moment : goal.returns-in-Restarted-clause-moment
returns-in-Restarted-clause-moment c =
    let gives : GivesSets c.args.history.now c.index-moments-image.result.standing ((past (take c.args.place c.args.history.now)).images c.in-Restarted.node c.in-Restarted.number) =
    subst (λ m. GivesSets c.args.history.now m.standing ((past (take c.args.place c.args.history.now)).images c.in-Restarted.node c.in-Restarted.number)) (sym c.index-moments-image.is)
    (at_image c.args.history.now c.args.moments.now c.args.place c.in-Restarted.node c.in-Restarted.number c.image.result c.index-moments-image.result c.requires.moments (omega (arith, c.requires.inside)) (omega (arith, c.image.ensures.within, c.requires.before)) c.image.ensures) in
    IfOk-weaker c.same-in-Restarted.result (λ m. m ≡ record { known = c.standing-in-Restarted.result.now; standing = c.standing-in-Restarted-2.result.now }) (λ m. (h : Happening) → slice_get c.args.history.now c.args.place ≡ Some h → GivesBoth c.args.history.now m (past (take (c.args.place + 1) c.args.history.now)) (node_of h))
    (λ m same. (subst (IsBehind c.args.history.now c.args.place) (sym (same ∙ (λ i. record { known = c.standing-in-Restarted.ensures i; standing = c.standing-in-Restarted-2.ensures i }))) (behind_restart c.args.history.now c.args.place c.in-Restarted.node c.in-Restarted.number c.index-moments-image.result.standing (placed c.args.history.now c.args.place c.index-history-place.result (Restarted c.in-Restarted.node c.in-Restarted.number) c.requires.inside c.index-history-place.is c.in-Restarted.is) gives)).behind)
    c.same-in-Restarted.ensures
