-- The commands of a scenario, and the table of their words: a row for each.
use Rattle.std.specs.Prelude.{ℕ, nat_le, Bool, ◌&&◌, if◌then◌else◌, List, [], ◌∷◌, length, Option, Some, None, codes, bytes_eq}
use Rattle.meta_types.specs.Name.{Prefix, Key, most_prefix_len, most_key_len}
use Rattle.meta_types.specs.declared.fault.TypeFault.{TypeFault}
use Rattle.meta_types.specs.declared.fault.TypeFault.TheVariants.{BadName, ValueTooLong}
use Rattle.meta_types.specs.Value.{most_body_len}
use Rattle.meta_types.specs.Node.{most_nodes}
use Rattle.scenario_text.specs.Word.{Word, number_of, full_prefix_of, key_of, value_of, junk_of, choice_of, below, within}
use Rattle.scenario_text.specs.Reading.{WordReader, just, one, number_or_none, labelled, labelled_or_zero, exactly, if_any, ◌and◌}

pub data Command : Type 0 where
  -- the number of nodes: the first command, and only the first
  Nodes : ℕ → Command
  -- writes, of a node: the key, the value, its stamp, and the number of the read that it has read
  Put : ℕ → Key → List ℕ → ℕ → Option ℕ → Command
  Del : ℕ → Key → ℕ → Option ℕ → Command
  Over : ℕ → Key → List ℕ → ℕ → Command
  -- what a node shows under a key, with and without a read number
  Read : ℕ → Key → Command
  Show : ℕ → Key → Command
  -- siblings are resolved, by the resolver at this place
  Resolve : ℕ → Key → ℕ → Command
  -- a frame, the node that it is handed to if one is named, and a random word
  Deliver : ℕ → Option ℕ → ℕ → Command
  Junk : ℕ → List ℕ → Command
  Tick : ℕ → ℕ → Command
  Join : ℕ → ℕ → ℕ → Command
  Down : ℕ → ℕ → ℕ → Command
  Exchange : ℕ → ℕ → Command
  Hello : ℕ → ℕ → Command
  Leave : ℕ → Command
  Restart : ℕ → ℕ → Command
  -- an image of what a node holds under a key, or one for each key that it holds
  Keep : ℕ → Option Key → Command
  Watch : ℕ → Prefix → ℕ → Command
  Changes : ℕ → ℕ → Command
  -- looking only
  Keys : ℕ → Prefix → Command
  Root : ℕ → Command
  Images : ℕ → Command
  Views : ℕ → Command
  -- all frames on their way are delivered
  Settle : Command

-- ---- words

abbrev pub a_number : WordReader ℕ
a_number = one number_of

abbrev pub a_key : WordReader Key
a_key = one key_of

-- a key, or nothing at the end of the line
abbrev pub key_if_any : WordReader (Option Key)
key_if_any = if_any a_key

abbrev pub a_prefix : WordReader Prefix
a_prefix = one full_prefix_of

abbrev pub a_value : WordReader (List ℕ)
a_value = one value_of

abbrev pub junk : WordReader (List ℕ)
junk = one junk_of

-- 1 to 16
abbrev pub node_count : WordReader ℕ
node_count = one (λ word. within 1 most_nodes (number_of word))

-- `stamp S`, or nothing for stamp 0
abbrev pub stamp : WordReader ℕ
stamp = labelled_or_zero (codes "stamp")

-- `read R`, or nothing
abbrev pub read : WordReader (Option ℕ)
read = labelled (codes "read")

-- `word W`, or nothing for word 0
abbrev pub random : WordReader ℕ
random = labelled_or_zero (codes "word")

-- the place of `lww` or `largest`, if it is below the number of resolvers
abbrev pub resolver : ℕ → WordReader ℕ
resolver resolvers =
    one (λ word. below resolvers (choice_of (codes "lww") (codes "largest") word))

-- the table: the name of a command, and what stands after it, in this order
abbrev pub rows : ℕ → List (Word × WordReader Command)
rows resolvers =
    (codes "nodes", just Nodes and node_count)
    ∷ (codes "put", just Put and a_number and a_key and a_value and stamp and read)
    ∷ (codes "del", just Del and a_number and a_key and stamp and read)
    ∷ (codes "over", just Over and a_number and a_key and a_value and stamp)
    ∷ (codes "read", just Read and a_number and a_key)
    ∷ (codes "show", just Show and a_number and a_key)
    ∷ (codes "resolve", just Resolve and a_number and a_key and resolver resolvers)
    ∷ (codes "deliver", just Deliver and a_number and number_or_none and random)
    ∷ (codes "junk", just Junk and a_number and junk)
    ∷ (codes "tick", just Tick and a_number and random)
    ∷ (codes "join", just Join and a_number and a_number and random)
    ∷ (codes "down", just Down and a_number and a_number and random)
    ∷ (codes "exchange", just Exchange and a_number and a_number)
    ∷ (codes "hello", just Hello and a_number and a_number)
    ∷ (codes "leave", just Leave and a_number)
    ∷ (codes "restart", just Restart and a_number and a_number)
    ∷ (codes "keep", just Keep and a_number and key_if_any)
    ∷ (codes "watch", just Watch and a_number and a_prefix and a_number)
    ∷ (codes "changes", just Changes and a_number and a_number)
    ∷ (codes "list", just Keys and a_number and a_prefix)
    ∷ (codes "root", just Root and a_number)
    ∷ (codes "images", just Images and a_number)
    ∷ (codes "views", just Views and a_number)
    ∷ (codes "settle", just Settle)
    ∷ []

-- what stands after this name, by these rows
abbrev pub reads_behind : Word → List (Word × WordReader Command) → WordReader Command
reads_behind name [] = λ words. None
reads_behind name (row ∷ rows) = if bytes_eq name row.0 then row.1 else reads_behind name rows

-- the command that words are, if they are one, with this number of resolvers at hand
abbrev pub command_of : ℕ → List Word → Option Command
command_of resolvers [] = None
command_of resolvers (name ∷ words) = exactly (reads_behind name (rows resolvers)) words

-- ---- out of range

-- a part of a name has a length in range; no part that a text has is empty
abbrev is_part : ℕ → List ℕ → Bool
is_part most bytes = nat_le 1 (length bytes) && nat_le (length bytes) most

abbrev pub is_prefix : Prefix → Bool
is_prefix p = is_part most_prefix_len p.prefix && is_part most_prefix_len p.sub

abbrev pub is_key : Key → Bool
is_key k = is_prefix k.prefix && is_part most_key_len k.key

abbrev fault_of_prefix : Prefix → Option TypeFault
fault_of_prefix p = if is_prefix p then None else Some BadName

abbrev fault_of_key : Key → Option TypeFault
fault_of_key k = if is_key k then None else Some BadName

abbrev pub fault_of_write : Key → List ℕ → Option TypeFault
fault_of_write k v =
    if is_key k then (if nat_le (length v) most_body_len then None else Some ValueTooLong)
    else Some BadName

-- what no world takes: the length of a part of a name is out of range, or a value is too long;
-- these come before all other refusals
abbrev pub fault_in : Command → Option TypeFault
fault_in (Put n k v s r) = fault_of_write k v
fault_in (Del n k s r) = fault_of_key k
fault_in (Over n k v s) = fault_of_write k v
fault_in (Read n k) = fault_of_key k
fault_in (Show n k) = fault_of_key k
fault_in (Resolve n k by) = fault_of_key k
fault_in (Keep n (Some k)) = fault_of_key k
fault_in (Watch n p capacity) = fault_of_prefix p
fault_in (Keys n p) = fault_of_prefix p
fault_in command = None
