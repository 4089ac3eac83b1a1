use Rattle.run_record.proofs.Naming.{there_of}
use Rattle.run_record.proofs.replay.Replay.next_entry.Goals as goal

pub returns : goal.returns
returns c = there_of c.args.closed.now c.args.self.now.next.items c.args.turn
    c.journal_of-journal.result.now c.index-place.result.now c.index-journal-place.result
    c.requires c.journal_of-journal.ensures c.index-place.ensures c.index-journal-place.is
