-- A record of a node's file: what it says, and its bytes. The rule is our own.
use Rattle.std.specs.Prelude.{◌≡◌, ◌<◌, ◌^◌, ℕ, ◌+◌, List, [], ◌∷◌, ◌++◌, length, take, drop, Option, Some, None, Result, Ok, Err, ◌&&◌, nat_lt, ◌==◌, if◌then◌else◌}
use Rattle.std.specs.Int.{w32, from_be_bytes, to_be_bytes}
use Rattle.std.specs.Str.{bytes_eq}
use Rattle.sha2.specs.Sha256.{sha256}
use Rattle.meta_types.specs.Name.{Key, IsKey}
use Rattle.dvvset.specs.Object.{Entry}
use Rattle.frame_fields.specs.Field.{key, object, has_value}
use Rattle.frame_readers.specs.Reader.{key_reader, object_reader, then_reader}
use Rattle.node_file.specs.Old.{old_object_reader}
use Rattle.meta_store.specs.Table.{IsHeld, is_small_enough, most_merged}
use Rattle.node_file.specs.declared.record.Record.{Record}
use Rattle.node_file.specs.declared.record.Record.TheVariants.{Life, Object}

-- ---- what a record says

-- what a record of version 2 may say: the number of a life (0 never follows), or a key and an
-- object that a store may hold
abbrev pub IsRecord : Record → Type 0
IsRecord (Life n) = n < 2 ^ 32
IsRecord (Object k o) = IsKey k × IsHeld o

-- ---- its payload

-- a kind, and a life's number, or a key and an object as in frames
abbrev pub payload : Record → List ℕ
payload (Life n) = 0 ∷ to_be_bytes w32 n
payload (Object k o) = 1 ∷ (key.spell k ++ object.spell o)

-- the payload says just this
abbrev pub Says : List ℕ → Record → Type 0
Says bytes record_ = (bytes ≡ payload record_) × IsRecord record_

-- ---- what a payload says, if it is one

-- an object that shows a value, and is as small as a store may hold it
abbrev pub record_if_held : Key → List Entry → Option Record
record_if_held k o =
    if has_value o && is_small_enough most_merged o then Some (Object k o) else None

-- a key and an object to the last byte
abbrev pub object_to_the_end : (Key × List Entry) × List ℕ → Option Record
object_to_the_end (p, []) = record_if_held p.0 p.1
object_to_the_end (p, byte ∷ rest) = None

abbrev pub object_read : Result ((Key × List Entry) × List ℕ) ℕ → Option Record
object_read (Ok read) = object_to_the_end read
object_read (Err left) = None

abbrev pub object_in : List ℕ → Option Record
object_in bytes = object_read (then_reader key_reader (λ _. object_reader) bytes)

abbrev pub life_in : List ℕ → Option Record
life_in bytes = if length bytes == 4 then Some (Life (from_be_bytes w32 bytes)) else None

abbrev pub record_of_kind : List ℕ → Option Record
record_of_kind [] = None
record_of_kind (kind ∷ bytes) =
    if kind == 0 then life_in bytes else (if kind == 1 then object_in bytes else None)

-- in version 1 there are no kinds, and each payload is a key and an object whose writers are nodes
-- alone
abbrev pub old_object_in : List ℕ → Option Record
old_object_in bytes = object_read (then_reader key_reader (λ _. old_object_reader) bytes)

unfoldable pub record_of : ℕ → List ℕ → Option Record
record_of version bytes = if version == 1 then old_object_in bytes else record_of_kind bytes

-- ---- a record after its gate: the length of its payload, the payload, and its digest

unfoldable pub record_bytes : List ℕ → List ℕ
record_bytes payload = to_be_bytes w32 (length payload) ++ (payload ++ sha256 payload)

-- the most bytes of a payload
abbrev pub most_payload : ℕ
most_payload = 16777216

abbrev pub with_size : ℕ → Option Record → Option (Record × ℕ)
with_size size None = None
with_size size (Some record_) = Some (record_, size)

-- what the bytes of a record with a payload of n bytes say, and how many they are
unfoldable pub whole_record : ℕ → ℕ → List ℕ → Option (Record × ℕ)
whole_record version n bytes =
    if bytes_eq (sha256 (take n (drop 4 bytes))) (drop (4 + n) bytes)
    then with_size (36 + n) (record_of version (take n (drop 4 bytes)))
    else None

unfoldable pub record_of_length : ℕ → ℕ → List ℕ → Option (Record × ℕ)
record_of_length version n bytes =
    if nat_lt most_payload n then None
    else (if nat_lt (length bytes) (36 + n) then None
    else whole_record version n (take (36 + n) bytes))

-- what the record in front of these bytes says, and how many bytes it takes, if it is whole
unfoldable pub record_in : ℕ → List ℕ → Option (Record × ℕ)
record_in version bytes =
    if nat_lt (length bytes) 4 then None
    else record_of_length version (from_be_bytes w32 (take 4 bytes)) bytes
