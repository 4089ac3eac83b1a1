use Rattle.std.proofs.Common.{◌≡◌, ◌<◌, length, get_or, sym, ap, ◌∙◌, arith, Some, true, false}
use Rattle.std.specs.Prelude.{slice_get, ◌&&◌}
use Rattle.past_model.specs.declared.happening.Happening.TheVariants.{Wrote, Looked, Sent, Got, Kept, Restarted}
use Rattle.past_model.specs.Moment.{marked_places, is_write_under, moment_read}
use Rattle.past_model.proofs.Moving.{placed}
use Rattle.past_model.proofs.Reading.{moment_within, moment_bound, read_at}
use Rattle.past_model.proofs.plain.had_read.Goals as goal

pub moment_read-requires : goal.moment_read-requires
moment_read-requires c =
    let hs = c.args.history.now in
    let at : slice_get hs c.args.reader ≡ Some (Wrote c.in-Wrote.node c.in-Wrote.key c.in-Wrote.value c.in-Wrote.seen) =
    placed hs c.args.reader c.index-history-reader.result (Wrote c.in-Wrote.node c.in-Wrote.key c.in-Wrote.value c.in-Wrote.seen) c.requires.inside c.index-history-reader.is c.in-Wrote.is in
    let lt : moment_read c.in-Wrote.seen < length c.args.moments.now =
    moment_within hs c.args.moments.now c.args.reader c.in-Wrote.node c.in-Wrote.key c.in-Wrote.value c.in-Wrote.seen c.requires.account at in
    moment_bound c.in-Wrote.seen 18446744073709551616 (omega arith)

pub offset_bounds-moments-moment_read : goal.offset_bounds-moments-moment_read
offset_bounds-moments-moment_read c =
    let hs = c.args.history.now in
    let at : slice_get hs c.args.reader ≡ Some (Wrote c.in-Wrote.node c.in-Wrote.key c.in-Wrote.value c.in-Wrote.seen) =
    placed hs c.args.reader c.index-history-reader.result (Wrote c.in-Wrote.node c.in-Wrote.key c.in-Wrote.value c.in-Wrote.seen) c.requires.inside c.index-history-reader.is c.in-Wrote.is in
    let lt : moment_read c.in-Wrote.seen < length c.args.moments.now =
    moment_within hs c.args.moments.now c.args.reader c.in-Wrote.node c.in-Wrote.key c.in-Wrote.value c.in-Wrote.seen c.requires.account at in
    let is : c.moment_read.result ≡ moment_read c.in-Wrote.seen = c.moment_read.ensures in
    omega arith

pub bounds-moments-moment_read : goal.bounds-moments-moment_read
bounds-moments-moment_read c =
    let hs = c.args.history.now in
    let at : slice_get hs c.args.reader ≡ Some (Wrote c.in-Wrote.node c.in-Wrote.key c.in-Wrote.value c.in-Wrote.seen) =
    placed hs c.args.reader c.index-history-reader.result (Wrote c.in-Wrote.node c.in-Wrote.key c.in-Wrote.value c.in-Wrote.seen) c.requires.inside c.index-history-reader.is c.in-Wrote.is in
    let lt : moment_read c.in-Wrote.seen < length c.args.moments.now =
    moment_within hs c.args.moments.now c.args.reader c.in-Wrote.node c.in-Wrote.key c.in-Wrote.value c.in-Wrote.seen c.requires.account at in
    let is : c.moment_read.result ≡ moment_read c.in-Wrote.seen = c.moment_read.ensures in
    omega arith

pub returns-then-is_write_under : goal.returns-then-is_write_under
returns-then-is_write_under c n v r is =
    let hs = c.args.history.now in
    let ms = c.args.moments.now in
    let m = c.index-moments-moment_read.result in
    let at : slice_get hs c.args.reader ≡ Some (Wrote c.in-Wrote.node c.in-Wrote.key c.in-Wrote.value c.in-Wrote.seen) =
    placed hs c.args.reader c.index-history-reader.result (Wrote c.in-Wrote.node c.in-Wrote.key c.in-Wrote.value c.in-Wrote.seen) c.requires.inside c.index-history-reader.is c.in-Wrote.is in
    let seen : c.in-Wrote.seen ≡ r = cc in
    let moment : m ≡ get_or ms (moment_read r) m = c.index-moments-moment_read.is ∙ ap (λ q. get_or ms q m) (c.moment_read.ensures ∙ ap moment_read seen) in
    let marks : c.known-read.result.now ≡ (get_or ms (moment_read r) m).known = c.known-read.ensures ∙ ap (λ x. x.known) moment in
    let under : is_write_under c.args.key.now (slice_get hs c.args.place) ≡ true = sym c.is_write_under.ensures ∙ c.if-is_write_under.true in
    c.is_marked.ensures
    ∙ ap (λ l. marked_places l c.args.place) marks
    ∙ sym (ap (λ b. b && marked_places (get_or ms (moment_read r) m).known c.args.place) under)
    ∙ read_at hs ms c.args.reader n c.args.key.now v r m c.args.place c.requires.account is

pub returns-else-is_write_under : goal.returns-else-is_write_under
returns-else-is_write_under c n v r is =
    let hs = c.args.history.now in
    let ms = c.args.moments.now in
    let m = c.index-moments-moment_read.result in
    let under : is_write_under c.args.key.now (slice_get hs c.args.place) ≡ false = sym c.is_write_under.ensures ∙ c.if-is_write_under.false in
    c.if-is_write_under.false
    ∙ sym (ap (λ b. b && marked_places (get_or ms (moment_read r) m).known c.args.place) under)
    ∙ read_at hs ms c.args.reader n c.args.key.now v r m c.args.place c.requires.account is

pub returns-in-Looked : goal.returns-in-Looked
returns-in-Looked c n v r is =
    let at : slice_get c.args.history.now c.args.reader ≡ Some (Looked c.in-Looked.node c.in-Looked.key) =
    placed c.args.history.now c.args.reader c.index-history-reader.result (Looked c.in-Looked.node c.in-Looked.key) c.requires.inside c.index-history-reader.is c.in-Looked.is in
    absurd (cc)

pub returns-in-Sent : goal.returns-in-Sent
returns-in-Sent c n v r is =
    let at : slice_get c.args.history.now c.args.reader ≡ Some (Sent c.in-Sent.node c.in-Sent.key) =
    placed c.args.history.now c.args.reader c.index-history-reader.result (Sent c.in-Sent.node c.in-Sent.key) c.requires.inside c.index-history-reader.is c.in-Sent.is in
    absurd (cc)

pub returns-in-Got : goal.returns-in-Got
returns-in-Got c n v r is =
    let at : slice_get c.args.history.now c.args.reader ≡ Some (Got c.in-Got.node c.in-Got.sent) =
    placed c.args.history.now c.args.reader c.index-history-reader.result (Got c.in-Got.node c.in-Got.sent) c.requires.inside c.index-history-reader.is c.in-Got.is in
    absurd (cc)

pub returns-in-Kept : goal.returns-in-Kept
returns-in-Kept c n v r is =
    let at : slice_get c.args.history.now c.args.reader ≡ Some (Kept c.in-Kept.node c.in-Kept.key) =
    placed c.args.history.now c.args.reader c.index-history-reader.result (Kept c.in-Kept.node c.in-Kept.key) c.requires.inside c.index-history-reader.is c.in-Kept.is in
    absurd (cc)

pub returns-in-Restarted : goal.returns-in-Restarted
returns-in-Restarted c n v r is =
    let at : slice_get c.args.history.now c.args.reader ≡ Some (Restarted c.in-Restarted.node c.in-Restarted.image) =
    placed c.args.history.now c.args.reader c.index-history-reader.result (Restarted c.in-Restarted.node c.in-Restarted.image) c.requires.inside c.index-history-reader.is c.in-Restarted.is in
    absurd (cc)
