-- A whole file: what it stands for, or its first fault. The rule is our own.
use Rattle.std.specs.Prelude.{◌≡◌, ◌⊎◌, ℕ, ◌+◌, ◌-◌, List, [], ◌∷◌, ◌++◌, length, take, drop, Option, Some, None, Result, Ok, Err, Bool, false, true, nat_lt, ◌==◌, if◌then◌else◌}
use Rattle.std.specs.Int.{w16, from_be_bytes, to_be_bytes}
use Rattle.std.specs.Str.{bytes_eq}
use Rattle.meta_store.specs.Table.{Table, most_keys}
use Rattle.meta_store.specs.declared.fault.StoreFault.TheVariants.{StoreFull}
use Rattle.node_file.specs.declared.fault.FileFault.{FileFault}
use Rattle.node_file.specs.declared.fault.FileFault.TheVariants.{Damaged, OtherNode, Store}
use Rattle.node_file.specs.declared.record.Record.{Record}
use Rattle.devices.specs.Device.{Overwrites}
use Rattle.node_file.specs.Record.{payload, record_bytes}
use Rattle.node_file.specs.Fold.{Contents, no_contents, contents_from, with_record}

-- what a file stands for
pub record FileState : Type 0 where
  pub version : ℕ
  pub node : ℕ
  pub contents : Contents

-- ---- its front: a magic, and the node's number

-- `PMNODE02`
abbrev pub magic : List ℕ
magic = 80 ∷ 77 ∷ 78 ∷ 79 ∷ 68 ∷ 69 ∷ 48 ∷ 50 ∷ []

-- `PMNODE01`
abbrev pub old_magic : List ℕ
old_magic = 80 ∷ 77 ∷ 78 ∷ 79 ∷ 68 ∷ 69 ∷ 48 ∷ 49 ∷ []

-- a file without records: its front and a closed gate
abbrev pub empty_file : ℕ → List ℕ
empty_file node = magic ++ (to_be_bytes w16 node ++ 0 ∷ [])

abbrev pub version_of : List ℕ → Option ℕ
version_of bytes =
    if bytes_eq bytes magic then Some 2 else (if bytes_eq bytes old_magic then Some 1 else None)

abbrev pub front_of : Option ℕ → ℕ → Result (ℕ × ℕ) FileFault
front_of None node = Err (Damaged 0)
front_of (Some version) node = if nat_lt 15 node then Err (Damaged 8) else Ok (version, node)

-- the version and the node of a file's first ten bytes
unfoldable pub front_in : List ℕ → Result (ℕ × ℕ) FileFault
front_in bytes = front_of (version_of (take 8 bytes)) (from_be_bytes w16 (drop 8 bytes))

-- ---- the first fault

abbrev pub is_other : Option ℕ → ℕ → Bool
is_other None node = false
is_other (Some asked) node = if asked == node then false else true

-- what was read after the front of a file of `total` bytes; too many keys are found last
abbrev pub ended : ℕ → ℕ × ℕ → Result (Contents × ℕ) ℕ → Result (FileState × ℕ) FileFault
ended total front (Err left) = Err (Damaged (total - left))
ended total front (Ok read) =
    if nat_lt most_keys (length read.0.table) then Err (Store StoreFull)
    else Ok (record { version = front.0; node = front.1; contents = read.0 }, total - read.1)

abbrev pub for_node : Option ℕ → ℕ → List ℕ → Result (ℕ × ℕ) FileFault
    → Result (FileState × ℕ) FileFault
for_node asked total behind (Err fault) = Err fault
for_node asked total behind (Ok front) =
    if is_other asked front.1 then Err OtherNode
    else ended total front (contents_from front.0 no_contents 0 behind)

-- What a file of these bytes stands for, and the offset of the closed gate that ends it; or why it
-- is no file of the node that is asked for, or of any node if none is.
unfoldable pub opened : Option ℕ → List ℕ → Result (FileState × ℕ) FileFault
opened asked bytes =
    if nat_lt (length bytes) 11 then Err (Damaged (length bytes))
    else for_node asked (length bytes) (drop 10 bytes) (front_in (take 10 bytes))

-- ---- what bytes stand for

abbrev pub no_file : FileState
no_file = record { version = 0; node = 0; contents = no_contents }

abbrev pub state_or_none : Result (FileState × ℕ) FileFault → FileState
state_or_none (Ok file) = file.0
state_or_none (Err fault) = no_file

-- what these bytes stand for, which are a file
abbrev pub file_state : List ℕ → FileState
file_state bytes = state_or_none (opened None bytes)

-- the bytes are a file that stands for this
abbrev pub StandsFor : FileState → List ℕ → Type 0
StandsFor s bytes = (gate : ℕ) × (opened None bytes ≡ Ok (s, gate))

-- a file of version 2
abbrev pub new_state : ℕ → ℕ → Table → FileState
new_state node life table =
    record { version = 2; node = node; contents = record { life = life; table = table } }

-- ---- one record more

abbrev pub state_with : FileState → Record → FileState
state_with s record_ = record {
  version = s.version;
  node = s.node;
  contents = with_record s.contents record_;
}

-- the bytes of a record between an open gate and a closed one, with both
abbrev pub gated : Record → List ℕ
gated record_ = 1 ∷ (record_bytes (payload record_) ++ 0 ∷ [])

-- how many bytes a record takes, from its gate to the one after it
unfoldable pub record_size : Record → ℕ
record_size record_ = 37 + length (payload record_)

-- the new bytes are the old ones with the record from this closed gate on
unfoldable pub IsAppended : ℕ → Record → List ℕ → List ℕ → Type 0
IsAppended gate record_ old new = Overwrites old gate (gated record_) new

-- they open as the old ones do, with the same result
abbrev pub OpensLike : List ℕ → List ℕ → Type 0
OpensLike old bytes = opened None bytes ≡ opened None old

-- a crash while a record was appended left these bytes: they open as before, or they stand for what
-- there was with the record
abbrev pub WithOrWithout : List ℕ → Record → List ℕ → Type 0
WithOrWithout old record_ bytes =
    OpensLike old bytes ⊎ StandsFor (state_with (file_state old) record_) bytes
