use Rattle.plumctl_file.proofs.Pushed.{all_refused, held_so}
use Rattle.plumctl_file.proofs.reading.read_file.Goals as goal

pub returns-in-Ok-clause-holds : goal.returns-in-Ok-clause-holds
returns-in-Ok-clause-holds g c =
    let reads = c.new-reading.ensures in
    let finished = c.finish.ensures in
    held_so _ _ _ _ c.in-Ok.ensures.pushed reads.told reads.warned c.finish.result finished.opens finished.node finished.life finished.table finished.changed_gate

pub returns-in-Ok-clause-refused : goal.returns-in-Ok-clause-refused
returns-in-Ok-clause-refused g c =
    let reads = c.new-reading.ensures in
    all_refused _ _ _ _ c.in-Ok.ensures.pushed reads.told reads.warned c.finish.result c.finish.ensures.refused
