use Rattle.past_model.proofs.Fitting.{write_fits, delivery_fits}
use Rattle.past_model.proofs.history.fits_after.Goals as goal

pub returns-in-Some : goal.returns-in-Some
returns-in-Some c =
    write_fits c.args.before.now c.args.happening.now c.in-Wrote.node c.in-Wrote.key c.in-Wrote.value c.in-Wrote.seen c.in-Some.place c.is_look_under.result c.in-Wrote.is c.in-Some.is c.is_look_under.ensures

pub returns-in-Got : goal.returns-in-Got
returns-in-Got c = delivery_fits c.args.before.now c.args.happening.now c.in-Got.node c.in-Got.sent c.is_sending.result c.in-Got.is c.is_sending.ensures
