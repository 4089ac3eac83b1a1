-- The readers of nodes, digests and rows that rise belong to their forms.
use Rattle.std.proofs.Common.{ℕ, ◌||◌, Bool, not, List, [], refl}
use Rattle.std.specs.Int.{w16}
use Rattle.meta_types.specs.Name.{Prefix}
use Rattle.frame_fields.specs.Form.{some_bytes, ruled, then_form}
use Rattle.frame_fields.specs.Field.{number, node, nodes, no_state, forget, digest, digests, counted_bytes, named, is_before, prefix_parts, prefix_above, prefix_row_parts, prefix_row, prefix_of, lowest, prefixes, key_row_parts, key_row, key_bytes, keys}
use Rattle.frame_readers.specs.Reader.{bytes_reader, ruled_reader, then_reader, within_reader, node_reader, nodes_reader, digest_reader, digests_reader, named_reader, first_reader, second_reader, prefix_above_reader, prefix_row_reader, prefixes_reader, key_above_reader, key_row_reader, keys_reader}
use Rattle.frame_readers.proofs.Readers.{Reads, wide16, bytes_reads, ruled_reads, then_reads, made_reads, each_reads}
use Rattle.frame_readers.proofs.Fields.{within_reads, node_reads, list_reads}

pub nodes_reads : Reads nodes nodes_reader
unfolding nodes_reader
nodes_reads = list_reads 0 16 (λ (_ : ℕ). node) (λ _. node_reader) forget no_state (λ _. node_reads)

pub digest_reads : Reads digest digest_reader
unfolding digest_reader
digest_reads = bytes_reads 32

pub digests_reads : Reads digests digests_reader
unfolding digests_reader
digests_reads = each_reads (λ (_ : ℕ). digest) (λ _. digest_reader) forget (λ _. digest_reads) no_state 16

named_reads : (low high : ℕ) (rule : List ℕ → Bool) → Reads (named low high rule) (named_reader low high rule)
named_reads low high rule =
    made_reads (then_form (number w16 low high) (λ size. ruled (some_bytes size) rule)) (then_reader (within_reader w16 low high) (λ size. ruled_reader (bytes_reader size) rule)) counted_bytes (λ p. p.1)
    (λ x fits i. (fits.1.0 i, x.1)) (λ y. refl)
    (then_reads (number w16 low high) (λ size. ruled (some_bytes size) rule) (within_reader w16 low high) (λ size. ruled_reader (bytes_reader size) rule) (within_reads w16 wide16 low high)
    (λ size. ruled_reads (some_bytes size) (bytes_reader size) rule (bytes_reads size)))

first_reads : (low : List ℕ) → Reads (named 1 64 (λ first. not (is_before first low))) (first_reader low)
unfolding first_reader
first_reads low = named_reads 1 64 (λ first. not (is_before first low))

second_reads : (low : Prefix) (first : List ℕ) → Reads (named 1 64 (λ sub. is_before low.prefix first || is_before low.sub sub)) (second_reader low first)
unfolding second_reader
second_reads low first = named_reads 1 64 (λ sub. is_before low.prefix first || is_before low.sub sub)

prefix_above_reads : (low : Prefix) → Reads (prefix_above low) (prefix_above_reader low)
unfolding prefix_above_reader
prefix_above_reads low =
    made_reads (then_form (named 1 64 (λ first. not (is_before first low.prefix))) (λ first. named 1 64 (λ sub. is_before low.prefix first || is_before low.sub sub))) (then_reader (first_reader low.prefix) (second_reader low)) prefix_parts
    (λ p. record { prefix = p.0; sub = p.1 }) (λ x fits. refl) (λ y. refl)
    (then_reads (named 1 64 (λ first. not (is_before first low.prefix))) (λ first. named 1 64 (λ sub. is_before low.prefix first || is_before low.sub sub)) (first_reader low.prefix) (second_reader low) (first_reads low.prefix) (second_reads low))

prefix_row_reads : (low : Prefix) → Reads (prefix_row low) (prefix_row_reader low)
unfolding prefix_row_reader
prefix_row_reads low =
    made_reads (then_form (prefix_above low) (λ _. digest)) (then_reader (prefix_above_reader low) (λ _. digest_reader)) prefix_row_parts (λ p. record { prefix = p.0; digest = p.1 })
    (λ x fits. refl) (λ y. refl)
    (then_reads (prefix_above low) (λ _. digest) (prefix_above_reader low) (λ _. digest_reader) (prefix_above_reads low) (λ _. digest_reads))

pub prefixes_reads : Reads prefixes prefixes_reader
unfolding prefixes_reader
prefixes_reads = list_reads 0 8192 prefix_row prefix_row_reader prefix_of lowest prefix_row_reads

key_above_reads : (low : List ℕ) → Reads (named 1 256 (is_before low)) (key_above_reader low)
unfolding key_above_reader
key_above_reads low = named_reads 1 256 (is_before low)

key_row_reads : (low : List ℕ) → Reads (key_row low) (key_row_reader low)
unfolding key_row_reader
key_row_reads low =
    made_reads (then_form (named 1 256 (is_before low)) (λ _. digest)) (then_reader (key_above_reader low) (λ _. digest_reader)) key_row_parts (λ p. record { key = p.0; digest = p.1 })
    (λ x fits. refl) (λ y. refl)
    (then_reads (named 1 256 (is_before low)) (λ _. digest) (key_above_reader low) (λ _. digest_reader) (key_above_reads low) (λ _. digest_reads))

pub keys_reads : Reads keys keys_reader
unfolding keys_reader
keys_reads = list_reads 0 8192 key_row key_row_reader key_bytes [] key_row_reads
