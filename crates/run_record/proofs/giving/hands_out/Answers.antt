use Rattle.std.proofs.Common.{◌≡◌}
use Rattle.node_events.specs.EqualEvents.{reading_eq, reading_eq-Decides}
use Rattle.run_record.proofs.giving.hands_out.Goals as goal

pub returns-in-Looked : goal.returns-in-Looked
returns-in-Looked c =
    let h : c.eq.result ≡ reading_eq c.in-Looked.other c.args.context.now = c.eq.ensures in
    rw (c.in-Looked.is, h) (reading_eq-Decides c.in-Looked.other c.args.context.now)
