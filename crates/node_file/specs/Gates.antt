-- Gates that were changed on the disk. No digest covers a gate: one that was open and isn't any
-- more ends the file there, and hides the records behind it. The rule is our own.
use Rattle.std.specs.Prelude.{ℕ, zero, suc, ◌+◌, List, [], ◌∷◌, length, take, drop, Option, Some, None, Result, Ok, Bool, false, not, is_some, ◌&&◌, ◌||◌, nat_lt, ◌==◌, if◌then◌else◌}
use Rattle.std.specs.Int.{w32, from_be_bytes}
use Rattle.node_file.specs.declared.fault.FileFault.{FileFault}
use Rattle.node_file.specs.declared.record.Record.{Record}
use Rattle.node_file.specs.Record.{most_payload, record_in}
use Rattle.node_file.specs.File.{front_in}

-- ---- where the records end, by their lengths alone

-- how long the payload of the record in front of these bytes is, as it says itself
abbrev pub length_said : List ℕ → ℕ
length_said bytes = from_be_bytes w32 (take 4 bytes)

-- an open gate in front of these bytes, by the length that follows it: the records end there if no
-- record is so long
abbrev pub if_too_long : ℕ → List ℕ → Option ℕ → Option ℕ
if_too_long gate bytes more =
    if nat_lt (length bytes) 4 then None
    else (if nat_lt most_payload (length_said bytes) then Some gate else more)

-- The offset of the first gate that isn't open, or whose record says that it is longer than any;
-- nothing if the bytes end before it. The first byte has offset `here`, and the first `skip` bytes
-- are of a record.
unfoldable pub end_from : ℕ → ℕ → List ℕ → Option ℕ
end_from (suc skip) here (byte ∷ rest) = end_from skip (here + 1) rest
end_from (suc skip) here [] = None
end_from zero here [] = None
end_from zero here (gate ∷ rest) =
    if gate == 1
    then if_too_long here rest (end_from (36 + length_said rest) (here + 1) rest)
    else Some here

-- where the records of a file end
unfoldable pub end_of_records : List ℕ → Option ℕ
end_of_records bytes = end_from 0 10 (drop 10 bytes)

-- ---- what no crash leaves behind a closed gate

abbrev pub size_read : Option (Record × ℕ) → Option ℕ
size_read None = None
size_read (Some read) = Some read.1

-- how many bytes the record in front of these takes, if it is whole
abbrev pub size_in : ℕ → List ℕ → Option ℕ
size_in version bytes = size_read (record_in version bytes)

-- A crash in an append of one record leaves one whole record at most, and a closed gate behind it.
-- These bytes behind a whole record show more: an open gate, or another whole record. So may what
-- is left of a batch.
abbrev pub goes_on : ℕ → List ℕ → Bool
goes_on version [] = false
goes_on version (gate ∷ rest) = (gate == 1) || is_some (size_in version rest)

-- what the bytes behind a closed gate show, by the size of the first record in them
abbrev pub shows_behind : ℕ → ℕ → List ℕ → Option ℕ → Bool
shows_behind version gate behind None = false
shows_behind version gate behind (Some size) =
    not (gate == 0) || goes_on version (drop size behind)

-- The bytes begin with a closed gate that was open: a whole record stands behind it, and the gate
-- isn't 0, as it is written, or what is behind the record goes on.
unfoldable pub shows_changed_gate : ℕ → List ℕ → Bool
shows_changed_gate version [] = false
shows_changed_gate version (gate ∷ behind) =
    not (gate == 1) && shows_behind version gate behind (size_in version behind)

abbrev pub changed_at : List ℕ → Result (ℕ × ℕ) FileFault → Option ℕ → Option ℕ
changed_at bytes (Ok front) (Some gate) =
    if shows_changed_gate front.0 (drop gate bytes) then Some gate else None
changed_at bytes front end = None

-- the offset of the gate that ends the records of these bytes, if it shows that it was changed
unfoldable pub changed_gate : List ℕ → Option ℕ
changed_gate bytes = changed_at bytes (front_in (take 10 bytes)) (end_of_records bytes)
