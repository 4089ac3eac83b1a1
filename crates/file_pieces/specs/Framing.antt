-- Bytes that begin with a gate: how far the record behind it goes, by the length that it says.
use Rattle.std.specs.Prelude.{◌≡◌, ◌≢◌, ℕ, ◌+◌, ◌<◌, ◌≤◌, List, length, take, drop, get_or}
use Rattle.node_file.specs.Gates.{length_said}
use Rattle.node_file.specs.Record.{most_payload}
use Rattle.file_pieces.specs.declared.first.First.{First}
use Rattle.file_pieces.specs.declared.first.First.TheVariants.{Unfinished, Shut, Overlong, Framed}

-- a front of an open gate and a record, or no byte
pub record IsUnfinished (bytes : List ℕ) : Type 0 where
  pub gate : 0 < length bytes → get_or bytes 0 0 ≡ 1
  pub short : 5 ≤ length bytes → length bytes < 37 + length_said (drop 1 bytes)

-- a gate that isn't open
pub record IsShut (bytes : List ℕ) : Type 0 where
  pub some : 0 < length bytes
  pub shut : get_or bytes 0 0 ≢ 1

-- an open gate, and a length that no record has
pub record IsOverlong (bytes : List ℕ) : Type 0 where
  pub gate : get_or bytes 0 0 ≡ 1
  pub whole : 5 ≤ length bytes
  pub long : most_payload < length_said (drop 1 bytes)

-- an open gate and just as many bytes behind it as the record says
pub record IsFramed (bytes : List ℕ) : Type 0 where
  pub gate : get_or bytes 0 0 ≡ 1
  pub size : length bytes ≡ 37 + length_said (drop 1 bytes)
  pub fits : length_said (drop 1 bytes) ≤ most_payload

-- what bytes begin with
abbrev pub IsFirst : List ℕ → First → Type 0
IsFirst bytes Unfinished = IsUnfinished bytes
IsFirst bytes Shut = IsShut bytes
IsFirst bytes Overlong = IsOverlong bytes
IsFirst bytes (Framed n) = (n ≤ length bytes) × IsFramed (take n bytes)
