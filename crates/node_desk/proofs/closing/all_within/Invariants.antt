use Rattle.std.proofs.Common.{ℕ, ◌<◌, slice_index_or}
use Rattle.node_readers.specs.Views.{SeatView}
use Rattle.node_desk.specs.Closing.{IsWithin}
use Rattle.node_desk.proofs.closing.all_within.Given as goal

-- those that were looked at
abbrev pub invariant-loop-seat : goal.invariant-loop-seat
invariant-loop-seat g l = (k : ℕ) (d : SeatView) → k < l.seat-index
    → IsWithin l.publisher.list (slice_index_or l.readers k d)
