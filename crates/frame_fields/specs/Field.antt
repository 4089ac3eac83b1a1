-- The forms of the fields of frames. Numbers are big-endian.
use Rattle.std.specs.Prelude.{ℕ, zero, suc, ◌+◌, ◌-◌, List, [], length, Option, Some, None, Bool, ◌&&◌, ◌||◌, not, nat_le, ◌==◌}
use Rattle.std.specs.List.{list_all}
use Rattle.std.specs.Int.{Width, w8, w16, w32, w64}
use Rattle.std.specs.Ordering.{is_lt}
use Rattle.meta_types.specs.Actor.{writer_number, node_of_writer, incarnation_of_writer}
use Rattle.meta_types.specs.Name.{Prefix, Key, most_prefix_len, most_key_len}
use Rattle.meta_types.specs.Order.{bytes_cmp}
use Rattle.meta_types.specs.Value.{ValueParts, most_body_len}
use Rattle.meta_types.specs.Node.{most_nodes}
use Rattle.frame_fields.specs.Digest.{digest_len}
use Rattle.dvvset.specs.Object.{Entry, Counter}
use Rattle.frame_fields.specs.declared.neighbor.Priority.{Priority}
use Rattle.frame_fields.specs.declared.neighbor.Priority.TheVariants.{Low, High}
use Rattle.frame_fields.specs.declared.neighbor.NeighborAnswer.{NeighborAnswer}
use Rattle.frame_fields.specs.declared.neighbor.NeighborAnswer.TheVariants.{No, Yes}
use Rattle.frame_fields.specs.declared.prefixes.PrefixDigest.{PrefixDigest}
use Rattle.frame_fields.specs.declared.keys.KeyDigest.{KeyDigest}
use Rattle.frame_fields.specs.Form.{Form, any_number, some_bytes, no_bytes, ruled, then_form, seen_as, each}

-- a number from `low` to `high`
abbrev pub number : Width → ℕ → ℕ → Form ℕ
number w low high = ruled (any_number w) (λ n. nat_le low n && nat_le n high)

abbrev pub node : Form ℕ
node = number w16 0 15

abbrev pub priority_number : Priority → ℕ
priority_number Low = 0
priority_number High = 1

abbrev pub priority : Form Priority
priority = seen_as (number w8 0 1) priority_number

abbrev pub answer_number : NeighborAnswer → ℕ
answer_number No = 0
answer_number Yes = 1

abbrev pub answer : Form NeighborAnswer
answer = seen_as (number w8 0 1) answer_number

-- the number of a node's life
abbrev pub life : Form ℕ
life = number w32 1 4294967295

-- a length and this number of bytes: two fields
abbrev pub counted_bytes : List ℕ → ℕ × List ℕ
counted_bytes bytes = (length bytes, bytes)

abbrev pub name : ℕ → ℕ → Form (List ℕ)
name low high = seen_as (then_form (number w16 low high) some_bytes) counted_bytes

abbrev pub prefix_parts : Prefix → List ℕ × List ℕ
prefix_parts p = (p.prefix, p.sub)

abbrev pub prefix : Form Prefix
prefix = seen_as (then_form (name 1 most_prefix_len) (λ _. name 1 most_prefix_len)) prefix_parts

abbrev pub key_parts : Key → Prefix × List ℕ
key_parts k = (k.prefix, k.key)

abbrev pub key : Form Key
key = seen_as (then_form prefix (λ _. name 1 most_key_len)) key_parts

-- the most values of a list that a count of 16 bits announces
abbrev pub most_listed : ℕ
most_listed = 65535

-- a count, and this number of values, each of one field or of several
abbrev pub counted : {A : Type 0} → List A → ℕ × List A
counted xs = (length xs, xs)

abbrev pub list : {S A : Type 0} → ℕ → ℕ → (S → Form A) → (A → S) → S → Form (List A)
list low high form next s = seen_as (then_form (number w16 low high) (each form next s)) counted

-- values whose forms depend on nothing
abbrev pub no_state : ℕ
no_state = 0

abbrev pub forget : {A : Type 0} → A → ℕ
forget x = no_state

-- node numbers in any order, repeats too
abbrev pub nodes : Form (List ℕ)
nodes = list 0 most_nodes (λ (_ : ℕ). node) forget no_state

-- ---- digests

abbrev pub digest : Form (List ℕ)
digest = some_bytes digest_len

-- sixteen fields, without a count
abbrev pub digests : Form (List (List ℕ))
digests = each (λ (_ : ℕ). digest) forget no_state 16

-- the number of one of sixteen
abbrev pub place : Form ℕ
place = number w8 0 15

-- a name; if its bytes break a further rule, they are at fault and not their length
abbrev pub named : ℕ → ℕ → (List ℕ → Bool) → Form (List ℕ)
named low high rule =
    seen_as (then_form (number w16 low high) (λ size. ruled (some_bytes size) rule)) counted_bytes

-- one string stands before another in byte order
abbrev pub is_before : List ℕ → List ℕ → Bool
is_before one other = is_lt (bytes_cmp one other)

-- a first part that isn't before another
abbrev pub first_above : List ℕ → Form (List ℕ)
first_above low = named 1 most_prefix_len (λ first. not (is_before first low))

-- a second part that lies above another, or after a first part that does
abbrev pub second_above : Prefix → List ℕ → Form (List ℕ)
second_above low first =
    named 1 most_prefix_len (λ sub. is_before low.prefix first || is_before low.sub sub)

-- a prefix that stands after another. One that doesn't is at fault at the bytes of its first part
-- if these stand before the other's, and otherwise at the bytes of its second part; never at a
-- length
abbrev pub prefix_above : Prefix → Form Prefix
prefix_above low = seen_as (then_form (first_above low.prefix) (second_above low)) prefix_parts

-- a prefix after another, and its digest: a field of its own
abbrev pub prefix_row_parts : PrefixDigest → Prefix × List ℕ
prefix_row_parts row = (row.prefix, row.digest)

abbrev pub prefix_row : Prefix → Form PrefixDigest
prefix_row low = seen_as (then_form (prefix_above low) (λ _. digest)) prefix_row_parts

abbrev pub prefix_of : PrefixDigest → Prefix
prefix_of row = row.prefix

-- two empty parts, which stand before those of each prefix
abbrev pub lowest : Prefix
lowest = record { prefix = []; sub = [] }

-- the most rows of prefixes, and of keys
abbrev pub most_rows : ℕ
most_rows = 8192

-- prefixes rise strictly
abbrev pub prefixes : Form (List PrefixDigest)
prefixes = list 0 most_rows prefix_row prefix_of lowest

-- the bytes of a key after another, and its digest
abbrev pub key_row_parts : KeyDigest → List ℕ × List ℕ
key_row_parts row = (row.key, row.digest)

abbrev pub key_row : List ℕ → Form KeyDigest
key_row low = seen_as (then_form (named 1 most_key_len (is_before low)) (λ _. digest)) key_row_parts

abbrev pub key_bytes : KeyDigest → List ℕ
key_bytes row = row.key

-- keys rise strictly; the empty string stands before each
abbrev pub keys : Form (List KeyDigest)
keys = list 0 most_rows key_row key_bytes []

-- ---- writers: they rise strictly, so the form of each takes the least that it may be

abbrev pub writer_parts : ℕ → ℕ × ℕ
writer_parts writer = (node_of_writer writer, incarnation_of_writer writer)

-- the node of the writer before `low`
abbrev pub node_before : ℕ → ℕ
node_before low = node_of_writer (low - 1)

-- the incarnation makes a writer that is `low` or more
abbrev pub reaches : ℕ → ℕ → ℕ → Bool
reaches low node incarnation = nat_le low (writer_number node incarnation)

-- a node and an incarnation: two fields. A writer below `low` is at fault at its node if that is
-- less than the node of the writer before `low`, and otherwise at its incarnation
abbrev pub writer_from : ℕ → Form ℕ
writer_from low =
    seen_as (then_form (number w16 (node_before low) 15)
    (λ node. ruled (any_number w32) (reaches low node))) writer_parts

-- ---- vectors

abbrev pub counter_parts : Counter → ℕ × ℕ
counter_parts c = (c.id, c.count)

abbrev pub greatest_count : ℕ
greatest_count = 18446744073709551615

abbrev pub counter_form : ℕ → Form Counter
counter_form low =
    seen_as (then_form (writer_from low) (λ _. number w64 1 greatest_count)) counter_parts

abbrev pub above_counter : Counter → ℕ
above_counter c = c.id + 1

abbrev pub vector : Form (List Counter)
vector = list 1 most_listed counter_form above_counter 0

-- ---- objects

-- a tag, a stamp, and a body if the tag says so
abbrev pub tag_of : Option (List ℕ) → ℕ
tag_of None = 0
tag_of (Some bytes) = 1

abbrev pub bytes_or_none : Option (List ℕ) → List ℕ
bytes_or_none None = []
bytes_or_none (Some bytes) = bytes

-- the length and the bytes of a body, or nothing for a tombstone
abbrev pub body_form : ℕ → Form (List ℕ)
body_form zero = no_bytes []
body_form (suc tag) = name 0 most_body_len

abbrev pub value_parts : ValueParts → ℕ × (ℕ × List ℕ)
value_parts v = (tag_of v.body, (v.stamp, bytes_or_none v.body))

abbrev pub value : Form ValueParts
value =
    seen_as (then_form (number w8 0 1)
    (λ tag. then_form (any_number w64) (λ _. body_form tag))) value_parts

abbrev pub entry_parts : Entry → ℕ × (ℕ × List ValueParts)
entry_parts e = (e.id, (e.count, e.values))

-- at most as many values as the count
abbrev pub entry : ℕ → Form Entry
entry low =
    seen_as (then_form (writer_from low)
    (λ _. then_form (number w64 1 greatest_count)
    (λ count. list 0 count (λ (_ : ℕ). value) forget no_state))) entry_parts

abbrev pub above_entry : Entry → ℕ
above_entry e = e.id + 1

abbrev pub is_bare : Entry → Bool
is_bare e = length e.values == 0

-- it shows a value
abbrev pub has_value : List Entry → Bool
has_value es = not (list_all is_bare es)

-- an object without any value is at fault at its count, which is its first field, once its fields
-- were read
abbrev pub object : Form (List Entry)
object = ruled (list 1 most_listed entry above_entry 0) has_value
