-- Lines: a line feed ends a line; the last line may lack it.
use Rattle.std.specs.Prelude.{◌≡◌, ◌≢◌, ◌<◌, ◌≤◌, ◌+◌, ℕ, List, [], ◌∷◌, ◌++◌, length, All, Bool, Option, MatchBool, ◌==◌, if◌then◌else◌}
use Rattle.std.specs.Io.KnownBytes.{Consumes, IsAtEnd}
use Rattle.streams.specs.declared.fault.StreamFault.{StreamFault}
use Rattle.streams.specs.Fault.{IsReadFault}

-- the most bytes of an input
abbrev pub input_limit : ℕ
input_limit = 67108864

-- what was read and belongs to no line so far, and how many more bytes may be read
pub record Pending : Type 0 where
  pub bytes : List ℕ
  pub left : ℕ

-- a byte in front of the first list
abbrev pub onto_first : ℕ → List (List ℕ) → List (List ℕ)
onto_first b [] = (b ∷ []) ∷ []
onto_first b (line ∷ lines) = (b ∷ line) ∷ lines

-- the lines of a text; a line feed at the end starts no further line
unfoldable pub lines_of : List ℕ → List (List ℕ)
lines_of [] = []
lines_of (b ∷ bytes) = if b == 10 then [] ∷ lines_of bytes else onto_first b (lines_of bytes)

-- no byte is a line feed
abbrev pub IsOneLine : List ℕ → Type 0
IsOneLine xs = All (λ x. x ≢ 10) xs

-- what a call read from the reader
pub record Reads (reader_old reader_new : Option (List ℕ)) (left_old left_new : ℕ) : Type 0 where
  pub bytes : List ℕ
  pub consumed : Consumes reader_old reader_new bytes
  pub counted : left_old ≡ left_new + length bytes

-- a line was taken from what was pending and what was read, up to its line feed; or the reader is
-- at its end, and the line is all that was left, without a line feed
pub record TakesLine (old new : Pending) (reader_old reader_new : Option (List ℕ)) (line : List ℕ)
    (ended : Bool) : Type 0 where
  pub reads : Reads reader_old reader_new old.left new.left
  pub one_line : IsOneLine line
  pub answer : MatchBool ended
      (old.bytes ++ reads.bytes ≡ line ++ 10 ∷ new.bytes)
      ((old.bytes ++ reads.bytes ≡ line) × (new.bytes ≡ []) × IsAtEnd reader_new)

-- A fault of reading: what was read before it, and its cause. Memory ran out only if `memory` holds
-- and what was read is within what may be read.
pub record StopsReading (read_failed memory : Type 0) (old : Pending)
    (reader_old reader_new : Option (List ℕ)) (fault : StreamFault) : Type 0 where
  pub bytes : List ℕ
  pub consumed : Consumes reader_old reader_new bytes
  pub cause : IsReadFault read_failed (old.left < length bytes)
      (memory × (length bytes ≤ old.left)) fault

-- ---- what private functions cite

-- what was pending and what was read is pending, and isn't empty; or nothing is pending, and the
-- reader is at its end
pub record Fills (old new : Pending) (reader_old reader_new : Option (List ℕ))
    (more : Bool) : Type 0 where
  pub reads : Reads reader_old reader_new old.left new.left
  pub pending : new.bytes ≡ old.bytes ++ reads.bytes
  pub answer : MatchBool more (0 < length new.bytes) ((new.bytes ≡ []) × IsAtEnd reader_new)

-- what was pending was moved to the end of the line: up to the first line feed, or all of it
pub record Moves (old new : Pending) (line_old line_new : List ℕ) (ended : Bool) : Type 0 where
  pub part : List ℕ
  pub line : line_new ≡ line_old ++ part
  pub one_line : IsOneLine part
  pub left : new.left ≡ old.left
  pub answer : MatchBool ended
      (old.bytes ≡ part ++ 10 ∷ new.bytes)
      ((old.bytes ≡ part) × (new.bytes ≡ []))
