-- A text that is read in pieces.
use Rattle.std.proofs.Common.{ℕ, ◌≤◌, true, false, List, [], ◌++◌, length, sym, subst, arith}
use Rattle.std.specs.Io.KnownBytes.{Consumes}
use Rattle.streams.specs.declared.fault.StreamFault.{StreamFault}
use Rattle.streams.specs.declared.fault.StreamFault.TheVariants.{Read, InputTooLong, Write, BrokenPipe, Memory}
use Rattle.streams.specs.Line.{input_limit}
use Rattle.streams.specs.Moment.{SourceAt}
use Rattle.streams.proofs.Pieces.{Consumes-nil, Consumes-then}
use Rattle.scenario.specs.Run.{AddsPiece, ReadsAll, StopsAfter, StopsPiece, ReadsPart}

-- this was read so far
pub record ReadsSoFar (r s : SourceAt) (text : List ℕ) : Type 0 where
  pub consumed : Consumes r.remaining s.remaining text
  pub within : length text ≤ input_limit
  pub sound : s.failed → r.failed

pub reads_none : (r : SourceAt) → ReadsSoFar r r []
reads_none r = record { consumed = Consumes-nil r.remaining; within = omega arith; sound = λ has. has }

pub reads_more : (r s t : SourceAt) (text longer : List ℕ) → ReadsSoFar r s text → AddsPiece s t text longer true → (t.failed → s.failed) → ReadsSoFar r t longer
reads_more r s t text longer so_far piece sound = record {
  consumed = subst (Consumes r.remaining t.remaining) (sym piece.added) (Consumes-then r.remaining s.remaining t.remaining text piece.bytes so_far.consumed piece.consumed);
  within = piece.within;
  sound = λ has. so_far.sound (sound has);
}

pub reads_all : (r s t : SourceAt) (text longer : List ℕ) → ReadsSoFar r s text → AddsPiece s t text longer false → (t.failed → s.failed) → ReadsAll r t longer
reads_all r s t text longer so_far piece sound = record {
  consumed = subst (Consumes r.remaining t.remaining) (sym piece.added) (Consumes-then r.remaining s.remaining t.remaining text piece.bytes so_far.consumed piece.consumed);
  end = piece.answer.1;
  within = piece.within;
  sound = λ has. so_far.sound (sound has);
}

cause_before : (old now new : Type 0) (count : ℕ) (fault : StreamFault) → (now → old) → StopsAfter now new count fault → StopsAfter old new count fault
cause_before old now new count Read sound cause = cause
cause_before old now new count InputTooLong sound cause = (λ has. sound (cause.0 has), cause.1)
cause_before old now new count Write sound cause = cause
cause_before old now new count BrokenPipe sound cause = cause
cause_before old now new count Memory sound cause = ((λ has. sound (cause.0.0 has), cause.0.1), cause.1)

pub reads_stopped : (r s t : SourceAt) (text : List ℕ) (fault : StreamFault) → ReadsSoFar r s text → StopsPiece s t text fault → ReadsPart r t fault
reads_stopped r s t text fault so_far stop = record {
  bytes = text ++ stop.bytes;
  consumed = Consumes-then r.remaining s.remaining t.remaining text stop.bytes so_far.consumed stop.consumed;
  cause = cause_before r.failed s.failed t.failed (length (text ++ stop.bytes)) fault so_far.sound stop.cause;
}
