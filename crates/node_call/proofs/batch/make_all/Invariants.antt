use Rattle.std.proofs.Common.{◌≡◌, ◌++◌, length}
use Rattle.node_core.specs.Savepoint.{CanRollBack, as_saved}
use Rattle.node_call.specs.Batch.{HasRoomFor, IsBatch, entries_of}
use Rattle.node_call.proofs.batch.make_all.Given as goal

abbrev pub invariant-loop-write : goal.invariant-loop-write
invariant-loop-write l = record {
  batch : IsBatch l.initial.state l.yielded l.batch.receipts.items l.batch.changes.items l.state;
  journal : l.journal.items ≡ l.initial.journal.items ++ entries_of l.batch.receipts.items;
  room : HasRoomFor l.fn.limit (length l.initial.journal.items) l.initial.state l.yielded;
  rest : l.yielded ++ l.write-iterator.rest.items ≡ l.fn.writes.items;
  can : CanRollBack l.savepoint l.state;
  back : as_saved l.savepoint l.state ≡ as_saved l.initial.savepoint l.initial.state;
}
