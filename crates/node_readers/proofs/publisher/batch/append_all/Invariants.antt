use Rattle.std.proofs.Common.{◌≡◌, ◌+◌, ◌≤◌, ◌++◌, length, drop}
use Rattle.node_readers.specs.History.{most_changes}
use Rattle.node_readers.specs.Copies.{all_added_to}
use Rattle.node_readers.proofs.publisher.batch.append_all.Given as goal

-- what is pending, with what is still to be added, is all that is to be pending
abbrev pub invariant-loop-change : goal.invariant-loop-change
invariant-loop-change g l =
    let rest = l.change-iterator.rest.items in record {
      desk : l.writer.desk ≡ l.fn.writer.desk;
      pending : drop l.writer.behind l.writer.log.items ++ all_added_to g.J.Naming.book l.next rest
          ≡ drop l.fn.writer.behind l.fn.writer.log.items
          ++ all_added_to g.J.Naming.book l.fn.next l.fn.changes.items;
      changes : l.next ++ rest ≡ l.fn.next ++ l.fn.changes.items;
      room : length l.next + length rest ≤ most_changes;
    }
