-- How a run of `frame` ends.
use Rattle.std.specs.Prelude.{◌≡◌, ◌⊎◌, ◌↔◌, ◌<◌, ◌≤◌, ℕ, List, [], ◌∷◌, ◌++◌, length, All, Bool, IsTrue, Option}
use Rattle.std.specs.Io.KnownBytes.{Appends, Keeps, Consumes, IsAtEnd}
use Rattle.streams.specs.declared.fault.StreamFault.{StreamFault}
use Rattle.streams.specs.Fault.{HasCause, IsWriteFault}
use Rattle.streams.specs.Moment.{SinkAt, SourceAt}
use Rattle.streams.specs.Written.{AppendsFront}
use Rattle.sealed_frames.specs.declared.key.Keys.{Keys}
use Rattle.plumctl_core.specs.declared.frame.Ended.{Ended}
use Rattle.plumctl_core.specs.declared.frame.Ended.TheVariants.{AllPrinted}
use Rattle.streams.specs.Line.{input_limit, lines_of}
use Rattle.plumctl_core.specs.Output.{IsTextOf, IsFrameLine, IsFrameOutput}

-- the text ends where a line ends: what follows it starts a line
abbrev pub EndsAtLine : List ℕ → Type 0
EndsAtLine text = (rest : List ℕ) → lines_of (text ++ rest) ≡ lines_of text ++ lines_of rest

-- the whole input was read, which is within the limit, and its output was written and passed on
pub record PrintsFrames (keys : Option Keys) (reader_old reader_new : SourceAt)
    (writer_old writer_new : SinkAt) (ended : Ended) : Type 0 where
  pub input : List ℕ
  pub consumed : Consumes reader_old.remaining reader_new.remaining input
  pub end : IsAtEnd reader_new.remaining
  pub within : length input ≤ input_limit
  pub output : List ℕ
  pub output_is : IsFrameOutput keys input output
  pub appended : Appends writer_old.contents writer_new.contents output
  pub passed : writer_new.passed_on
  pub all : (ended ≡ AllPrinted) ↔ All (IsFrameLine keys) (lines_of input)

-- what was read until the fault: whole lines, and what was read after them. For the whole lines a
-- front of the output was written. A last line without a line feed is whole where the reader is at
-- its end. The fault has its cause; memory ran out only where the reader has not failed anew and
-- gave no more than the limit, and the writer has not failed anew, or was itself out of memory.
pub record Stops (keys : Option Keys) (reader_old reader_new : SourceAt)
    (writer_old writer_new : SinkAt) (fault : StreamFault) : Type 0 where
  pub lines : List ℕ
  pub begun : List ℕ
  pub consumed : Consumes reader_old.remaining reader_new.remaining (lines ++ begun)
  pub ended : EndsAtLine lines ⊎ ((begun ≡ []) × IsAtEnd reader_new.remaining)
  pub output : List ℕ
  pub output_is : IsFrameOutput keys lines output
  pub appended : AppendsFront writer_old.contents writer_new.contents output
  pub cause : HasCause reader_new.failed (input_limit < length (lines ++ begun))
      ((reader_new.failed → reader_old.failed) × (length (lines ++ begun) ≤ input_limit))
      writer_old.failed writer_new.failed fault

-- ---- what private functions cite

-- the text of a line was written, and a line feed
pub record WritesLine (keys : Option Keys) (line : List ℕ) (writer_old writer_new : SinkAt)
    (is_frame : Bool) : Type 0 where
  pub text : List ℕ
  pub text_is : IsTextOf keys line text
  pub appended : Appends writer_old.contents writer_new.contents (text ++ 10 ∷ [])
  pub frame : IsTrue is_frame ↔ IsFrameLine keys line

-- a front of that was written
pub record StopsLine (keys : Option Keys) (line : List ℕ) (writer_old writer_new : SinkAt)
    (fault : StreamFault) : Type 0 where
  pub text : List ℕ
  pub text_is : IsTextOf keys line text
  pub appended : AppendsFront writer_old.contents writer_new.contents (text ++ 10 ∷ [])
  pub cause : IsWriteFault writer_old.failed writer_new.failed fault

-- a last line was written, or it is empty and nothing was
abbrev pub WritesLast : Option Keys → (line : List ℕ) (writer_old writer_new : SinkAt)
    (is_frame : Bool) → Type 0
WritesLast keys line writer_old writer_new is_frame =
    ((line ≡ []) × Keeps writer_old.contents writer_new.contents × IsTrue is_frame)
    ⊎ ((0 < length line) × WritesLine keys line writer_old writer_new is_frame)

abbrev pub StopsLast : Option Keys → (line : List ℕ) (writer_old writer_new : SinkAt)
    (fault : StreamFault) → Type 0
StopsLast keys line writer_old writer_new fault =
    (0 < length line) × StopsLine keys line writer_old writer_new fault
