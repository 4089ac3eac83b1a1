-- The forms of the fields as readers on lists, from left to right. A reader returns the value and
-- the bytes after it, or how many bytes were left at the field that is at fault. The functions here
-- are proved against these, and the readers against the forms (`proofs/Fields.antt`,
-- `proofs/Listed.antt`).
use Rattle.std.specs.Prelude.{◌≡◌, ℕ, zero, suc, List, [], ◌∷◌, length, take, drop, Option, Some, None, Result, Ok, Err, Bool, ◌&&◌, ◌||◌, not, nat_lt, nat_le, ◌==◌, if◌then◌else◌}
use Rattle.std.specs.Borrow.{Bor}
use Rattle.std.specs.Int.{Width, w8, w16, w32, w64, byte_len, from_be_bytes}
use Rattle.meta_types.specs.Actor.{writer_number}
use Rattle.meta_types.specs.Name.{Prefix, Key, most_prefix_len, most_key_len}
use Rattle.meta_types.specs.Value.{ValueParts, most_body_len}
use Rattle.meta_types.specs.Node.{most_nodes}
use Rattle.frame_fields.specs.Digest.{digest_len}
use Rattle.dvvset.specs.Object.{Entry, Counter}
use Rattle.frame_fields.specs.declared.prefixes.PrefixDigest.{PrefixDigest}
use Rattle.frame_fields.specs.declared.keys.KeyDigest.{KeyDigest}
use Rattle.frame_fields.specs.Field.{node_before, reaches, greatest_count, most_rows, no_state, forget, above_counter, above_entry, has_value, is_before, lowest, prefix_of, key_bytes, most_listed}
use Rattle.frame_fields.specs.declared.neighbor.Priority.{Priority}
use Rattle.frame_fields.specs.declared.neighbor.Priority.TheVariants.{Low, High}
use Rattle.frame_fields.specs.declared.neighbor.NeighborAnswer.{NeighborAnswer}
use Rattle.frame_fields.specs.declared.neighbor.NeighborAnswer.TheVariants.{No, Yes}
use Rattle.frame_readers.specs.declared.fault.FieldFault.{FieldFault}
use Rattle.frame_readers.specs.declared.fault.FieldFault.TheVariants as faults

abbrev pub Reader : Type 0 → Type 0
Reader A = List ℕ → Result (A × List ℕ) ℕ

infixl 10 ◌>>=◌
abbrev pub ◌>>=◌ : {A B : Type 0} → Result A ℕ → (A → Result B ℕ) → Result B ℕ
(Ok x) >>= f = f x
(Err e) >>= f = Err e

-- what a function returned is what a reader gives, unless memory ran out
abbrev pub Fails : {Y : Type 0} → FieldFault → Result Y ℕ → Type 0
Fails faults.Memory read = Unit {0}
Fails (faults.Left n) read = read ≡ Err n

abbrev pub Gives : {X Y : Type 0} → (X → Y) → Result X FieldFault → Result Y ℕ → Type 0
Gives view (Ok x) read = read ≡ Ok (view x)
Gives view (Err e) read = Fails e read

-- what a function returned matches the reader: the value as it is, and the bytes after it
abbrev pub MatchesReader : {A : Type 0} → Result (A × Bor (List ℕ)) FieldFault
    → Result (A × List ℕ) ℕ → Type 0
MatchesReader result read = Gives (λ x. (x.0, x.1.now)) result read

abbrev pub number_reader : Width → Reader ℕ
number_reader w bytes =
    if nat_lt (length bytes) (byte_len w)
    then Err (length bytes)
    else Ok (from_be_bytes w (take (byte_len w) bytes), drop (byte_len w) bytes)

abbrev pub bytes_reader : ℕ → Reader (List ℕ)
bytes_reader n bytes =
    if nat_lt (length bytes) n then Err (length bytes) else Ok (take n bytes, drop n bytes)

abbrev pub ruled_reader : {A : Type 0} → Reader A → (A → Bool) → Reader A
ruled_reader read rule bytes = read bytes >>= λ x. if rule x.0 then Ok x else Err (length bytes)

abbrev pub then_reader : {A B : Type 0} → Reader A → (A → Reader B) → Reader (A × B)
then_reader first second bytes = first bytes >>= λ a. second a.0 a.1 >>= λ b. Ok ((a.0, b.0), b.1)

abbrev pub made_reader : {A B : Type 0} → Reader A → (A → B) → Reader B
made_reader read make bytes = read bytes >>= λ x. Ok (make x.0, x.1)

unfoldable pub each_reader : {S A : Type 0} → (S → Reader A) → (A → S) → S → ℕ → Reader (List A)
each_reader read next s zero bytes = Ok ([], bytes)
each_reader read next s (suc n) bytes =
    read s bytes >>= λ first. each_reader read next (next first.0) n first.1
    >>= λ others. Ok (first.0 ∷ others.0, others.1)

unfoldable pub within_reader : Width → ℕ → ℕ → Reader ℕ
within_reader w low high = ruled_reader (number_reader w) (λ n. nat_le low n && nat_le n high)

unfoldable pub node_reader : Reader ℕ
node_reader = within_reader w16 0 15

abbrev pub priority_from : ℕ → Priority
priority_from n = if n == 0 then Low else High

unfoldable pub priority_reader : Reader Priority
priority_reader = made_reader (within_reader w8 0 1) priority_from

abbrev pub answer_from : ℕ → NeighborAnswer
answer_from n = if n == 0 then No else Yes

unfoldable pub answer_reader : Reader NeighborAnswer
answer_reader = made_reader (within_reader w8 0 1) answer_from

unfoldable pub name_reader : ℕ → ℕ → Reader (List ℕ)
name_reader low high =
    made_reader (then_reader (within_reader w16 low high) bytes_reader) (λ p. p.1)

unfoldable pub prefix_reader : Reader Prefix
prefix_reader =
    made_reader (then_reader (name_reader 1 most_prefix_len) (λ _. name_reader 1 most_prefix_len))
    (λ p. record { prefix = p.0; sub = p.1 })

unfoldable pub key_reader : Reader Key
key_reader =
    made_reader (then_reader prefix_reader (λ _. name_reader 1 most_key_len))
    (λ p. record { prefix = p.0; key = p.1 })

unfoldable pub writer_reader : ℕ → Reader ℕ
writer_reader low =
    made_reader (then_reader (within_reader w16 (node_before low) 15)
    (λ node. ruled_reader (number_reader w32) (reaches low node)))
    (λ p. writer_number p.0 p.1)

unfoldable pub counter_reader : ℕ → Reader Counter
counter_reader low =
    made_reader (then_reader (writer_reader low) (λ _. within_reader w64 1 greatest_count))
    (λ p. record { id = p.0; count = p.1 })

unfoldable pub vector_reader : Reader (List Counter)
vector_reader =
    made_reader (then_reader (within_reader w16 1 most_listed)
    (each_reader counter_reader above_counter 0)) (λ p. p.1)

-- a body of this tag
abbrev pub body_of_tag : ℕ → List ℕ → Option (List ℕ)
body_of_tag zero bytes = None
body_of_tag (suc tag) bytes = Some bytes

abbrev pub body_reader : ℕ → Reader (List ℕ)
body_reader zero bytes = Ok ([], bytes)
body_reader (suc tag) bytes = name_reader 0 most_body_len bytes

unfoldable pub value_reader : Reader ValueParts
value_reader =
    made_reader (then_reader (within_reader w8 0 1)
    (λ tag. then_reader (number_reader w64) (λ _. body_reader tag)))
    (λ p. record { stamp = p.1.0; body = body_of_tag p.0 p.1.1 })

unfoldable pub values_reader : ℕ → Reader (List ValueParts)
values_reader count =
    made_reader (then_reader (within_reader w16 0 count)
    (each_reader (λ (_ : ℕ). value_reader) forget no_state)) (λ p. p.1)

unfoldable pub entry_reader : ℕ → Reader Entry
entry_reader low =
    made_reader (then_reader (writer_reader low)
    (λ _. then_reader (within_reader w64 1 greatest_count) values_reader))
    (λ p. record { id = p.0; count = p.1.0; values = p.1.1 })

unfoldable pub entries_reader : Reader (List Entry)
entries_reader =
    made_reader
    (then_reader (within_reader w16 1 most_listed) (each_reader entry_reader above_entry 0))
    (λ p. p.1)

unfoldable pub object_reader : Reader (List Entry)
object_reader = ruled_reader entries_reader has_value

-- ---- nodes, digests and rows that rise

unfoldable pub nodes_reader : Reader (List ℕ)
nodes_reader =
    made_reader (then_reader (within_reader w16 0 most_nodes)
    (each_reader (λ (_ : ℕ). node_reader) forget no_state)) (λ p. p.1)

unfoldable pub digest_reader : Reader (List ℕ)
digest_reader = bytes_reader digest_len

unfoldable pub digests_reader : Reader (List (List ℕ))
digests_reader = each_reader (λ (_ : ℕ). digest_reader) forget no_state 16

abbrev pub named_reader : ℕ → ℕ → (List ℕ → Bool) → Reader (List ℕ)
named_reader low high rule =
    made_reader (then_reader (within_reader w16 low high)
    (λ size. ruled_reader (bytes_reader size) rule)) (λ p. p.1)

unfoldable pub first_reader : List ℕ → Reader (List ℕ)
first_reader low = named_reader 1 most_prefix_len (λ first. not (is_before first low))

unfoldable pub second_reader : Prefix → List ℕ → Reader (List ℕ)
second_reader low first =
    named_reader 1 most_prefix_len (λ sub. is_before low.prefix first || is_before low.sub sub)

unfoldable pub prefix_above_reader : Prefix → Reader Prefix
prefix_above_reader low =
    made_reader (then_reader (first_reader low.prefix) (second_reader low))
    (λ p. record { prefix = p.0; sub = p.1 })

unfoldable pub prefix_row_reader : Prefix → Reader PrefixDigest
prefix_row_reader low =
    made_reader (then_reader (prefix_above_reader low) (λ _. digest_reader))
    (λ p. record { prefix = p.0; digest = p.1 })

unfoldable pub prefixes_reader : Reader (List PrefixDigest)
prefixes_reader =
    made_reader (then_reader (within_reader w16 0 most_rows)
    (each_reader prefix_row_reader prefix_of lowest)) (λ p. p.1)

unfoldable pub key_above_reader : List ℕ → Reader (List ℕ)
key_above_reader low = named_reader 1 most_key_len (is_before low)

unfoldable pub key_row_reader : List ℕ → Reader KeyDigest
key_row_reader low =
    made_reader (then_reader (key_above_reader low) (λ _. digest_reader))
    (λ p. record { key = p.0; digest = p.1 })

unfoldable pub keys_reader : Reader (List KeyDigest)
keys_reader =
    made_reader (then_reader (within_reader w16 0 most_rows)
    (each_reader key_row_reader key_bytes [])) (λ p. p.1)
