-- The readers of the fields belong to their forms.
use Rattle.std.proofs.Common.{◌≡◌, ℕ, zero, suc, ◌<◌, ◌^◌, ◌≤◌, ◌&&◌, cond, leb, ap, ◌∙◌, List, [], Option, Some, None, refl, sym, arith}
use Rattle.std.specs.Int.{Width, w8, w16, w32, w64}
use Rattle.std.proofs.lemmas.Bool.{ne_eqb}
use Rattle.frame_fields.specs.declared.neighbor.Priority.{Priority}
use Rattle.frame_fields.specs.declared.neighbor.Priority.TheVariants.{Low, High}
use Rattle.frame_fields.specs.declared.neighbor.NeighborAnswer.{NeighborAnswer}
use Rattle.frame_fields.specs.declared.neighbor.NeighborAnswer.TheVariants.{No, Yes}
use Rattle.meta_types.specs.Actor.{writer_number, node_of_writer, incarnation_of_writer}
use Rattle.frame_fields.specs.Form.{Form, any_number, some_bytes, then_form, each, ruled}
use Rattle.frame_fields.specs.Field.{number, node, writer_parts, node_before, reaches, writer_from, priority_number, priority, answer_number, answer, name, counted_bytes, prefix, prefix_parts, key, key_parts, list, counted, counter_form, counter_parts, above_counter, vector, greatest_count, no_state, forget, tag_of, bytes_or_none, body_form, value, value_parts, entry, entry_parts, above_entry, object, has_value}
use Rattle.frame_readers.specs.Reader.{Reader, ruled_reader, writer_reader, number_reader, bytes_reader, then_reader, made_reader, each_reader, within_reader, node_reader, priority_from, priority_reader, answer_from, answer_reader, name_reader, prefix_reader, key_reader, counter_reader, vector_reader, body_of_tag, body_reader, value_reader, values_reader, entry_reader, entries_reader, object_reader}
use Rattle.frame_fields.proofs.Spellable.{number_within, writer_again}
use Rattle.frame_readers.proofs.Readers.{Reads, IsWide, wide8, wide16, wide32, wide64, number_reads, bytes_reads, nothing_reads, ruled_reads, then_reads, made_reads, each_reads}

pub within_reads : (w : Width) → IsWide w → (low high : ℕ) → Reads (number w low high) (within_reader w low high)
unfolding within_reader
within_reads w wide low high = ruled_reads (any_number w) (number_reader w) (λ n. leb low n && leb n high) (number_reads w wide)

pub node_reads : Reads node node_reader
unfolding node_reader
node_reads = within_reads w16 wide16 0 15

priority_there : (n : ℕ) → (number w8 0 1).Fits n → priority_number (priority_from n) ≡ n
priority_there zero fits = refl
priority_there (suc n) fits =
    let most = (number_within w8 0 1 (suc n) fits).most in
    let one : 1 ≡ suc n = omega arith in
    ap (λ b. priority_number (cond b Low High)) (ne_eqb (suc n) 0 (λ e. absurd (omega arith))) ∙ one

priority_back : (p : Priority) → priority_from (priority_number p) ≡ p
priority_back Low = refl
priority_back High = refl

pub priority_reads : Reads priority priority_reader
unfolding priority_reader
priority_reads = made_reads (number w8 0 1) (within_reader w8 0 1) priority_number priority_from priority_there priority_back (within_reads w8 wide8 0 1)

answer_there : (n : ℕ) → (number w8 0 1).Fits n → answer_number (answer_from n) ≡ n
answer_there zero fits = refl
answer_there (suc n) fits =
    let most = (number_within w8 0 1 (suc n) fits).most in
    let one : 1 ≡ suc n = omega arith in
    ap (λ b. answer_number (cond b No Yes)) (ne_eqb (suc n) 0 (λ e. absurd (omega arith))) ∙ one

answer_back : (a : NeighborAnswer) → answer_from (answer_number a) ≡ a
answer_back No = refl
answer_back Yes = refl

pub answer_reads : Reads answer answer_reader
unfolding answer_reader
answer_reads = made_reads (number w8 0 1) (within_reader w8 0 1) answer_number answer_from answer_there answer_back (within_reads w8 wide8 0 1)

pub name_reads : (low high : ℕ) → Reads (name low high) (name_reader low high)
unfolding name_reader
name_reads low high =
    made_reads (then_form (number w16 low high) some_bytes) (then_reader (within_reader w16 low high) bytes_reader) counted_bytes (λ p. p.1)
    (λ x fits i. (fits.1 i, x.1)) (λ y. refl)
    (then_reads (number w16 low high) some_bytes (within_reader w16 low high) bytes_reader (within_reads w16 wide16 low high) bytes_reads)

pub prefix_reads : Reads prefix prefix_reader
unfolding prefix_reader
prefix_reads =
    made_reads (then_form (name 1 64) (λ _. name 1 64)) (then_reader (name_reader 1 64) (λ _. name_reader 1 64)) prefix_parts (λ p. record { prefix = p.0; sub = p.1 })
    (λ x fits. refl) (λ y. refl)
    (then_reads (name 1 64) (λ _. name 1 64) (name_reader 1 64) (λ _. name_reader 1 64) (name_reads 1 64) (λ _. name_reads 1 64))

pub key_reads : Reads key key_reader
unfolding key_reader
key_reads =
    made_reads (then_form prefix (λ _. name 1 256)) (then_reader prefix_reader (λ _. name_reader 1 256)) key_parts (λ p. record { prefix = p.0; key = p.1 })
    (λ x fits. refl) (λ y. refl)
    (then_reads prefix (λ _. name 1 256) prefix_reader (λ _. name_reader 1 256) prefix_reads (λ _. name_reads 1 256))

-- ---- lists

pub list_reads : {S A : Type 0} (low high : ℕ) (form : S → Form A) (read : S → Reader A) (next : A → S) (s : S) → ((s : S) → Reads (form s) (read s)) → Reads (list low high form next s) (made_reader (then_reader (within_reader w16 low high) (each_reader read next s)) (λ p. p.1))
list_reads low high form read next s reads =
    made_reads (then_form (number w16 low high) (each form next s)) (then_reader (within_reader w16 low high) (each_reader read next s)) counted (λ p. p.1)
    (λ x fits i. (fits.1.0 i, x.1)) (λ y. refl)
    (then_reads (number w16 low high) (each form next s) (within_reader w16 low high) (each_reader read next s) (within_reads w16 wide16 low high) (λ n. each_reads form read next reads s n))

-- ---- writers

writer_there : (n i : ℕ) → i < 2 ^ 32 → writer_parts (writer_number n i) ≡ (n, i)
writer_there n i small =
    let node : node_of_writer (writer_number n i) ≡ n = omega (arith, small) in
    let incarnation : incarnation_of_writer (writer_number n i) ≡ i = omega (arith, small) in
    λ j. (node j, incarnation j)

pub writer_reads : (low : ℕ) → Reads (writer_from low) (writer_reader low)
unfolding writer_reader
writer_reads low =
    made_reads (then_form (number w16 (node_before low) 15) (λ node. ruled (any_number w32) (reaches low node)))
    (then_reader (within_reader w16 (node_before low) 15) (λ node. ruled_reader (number_reader w32) (reaches low node))) writer_parts (λ p. writer_number p.0 p.1)
    (λ x fits. writer_there x.0 x.1 fits.1.0) writer_again
    (then_reads (number w16 (node_before low) 15) (λ node. ruled (any_number w32) (reaches low node)) (within_reader w16 (node_before low) 15) (λ node. ruled_reader (number_reader w32) (reaches low node))
    (within_reads w16 wide16 (node_before low) 15) (λ node. ruled_reads (any_number w32) (number_reader w32) (reaches low node) (number_reads w32 wide32)))

-- ---- vectors

pub counter_reads : (low : ℕ) → Reads (counter_form low) (counter_reader low)
unfolding counter_reader
counter_reads low =
    made_reads (then_form (writer_from low) (λ _. number w64 1 greatest_count)) (then_reader (writer_reader low) (λ _. within_reader w64 1 greatest_count)) counter_parts (λ p. record { id = p.0; count = p.1 })
    (λ x fits. refl) (λ y. refl)
    (then_reads (writer_from low) (λ _. number w64 1 greatest_count) (writer_reader low) (λ _. within_reader w64 1 greatest_count) (writer_reads low) (λ _. within_reads w64 wide64 1 greatest_count))

pub vector_reads : Reads vector vector_reader
unfolding vector_reader
vector_reads = list_reads 1 65535 counter_form counter_reader above_counter 0 counter_reads

-- ---- objects

body_reads : (tag : ℕ) → Reads (body_form tag) (body_reader tag)
body_reads zero = nothing_reads []
body_reads (suc tag) = name_reads 0 1024

tagged_there : (tag : ℕ) (stamp : ℕ) (bytes : List ℕ) → tag ≤ 1 → (body_form tag).Fits bytes → value_parts (record { stamp = stamp; body = body_of_tag tag bytes }) ≡ (tag, (stamp, bytes))
tagged_there zero stamp bytes le fits = λ i. (0, (stamp, sym fits i))
tagged_there (suc tag) stamp bytes le fits = let one : 1 ≡ suc tag = omega arith in λ i. (one i, (stamp, bytes))

tagged_back : (stamp : ℕ) (body : Option (List ℕ)) → body_of_tag (tag_of body) (bytes_or_none body) ≡ body
tagged_back stamp None = refl
tagged_back stamp (Some bytes) = refl

pub value_reads : Reads value value_reader
unfolding value_reader
value_reads =
    made_reads (then_form (number w8 0 1) (λ tag. then_form (any_number w64) (λ _. body_form tag))) (then_reader (within_reader w8 0 1) (λ tag. then_reader (number_reader w64) (λ _. body_reader tag))) value_parts
    (λ p. record { stamp = p.1.0; body = body_of_tag p.0 p.1.1 })
    (λ x fits. tagged_there x.0 x.1.0 x.1.1 (number_within w8 0 1 x.0 fits.0).most fits.1.1)
    (λ y i. record { stamp = y.stamp; body = tagged_back y.stamp y.body i })
    (then_reads (number w8 0 1) (λ tag. then_form (any_number w64) (λ _. body_form tag)) (within_reader w8 0 1) (λ tag. then_reader (number_reader w64) (λ _. body_reader tag)) (within_reads w8 wide8 0 1)
    (λ tag. then_reads (any_number w64) (λ _. body_form tag) (number_reader w64) (λ _. body_reader tag) (number_reads w64 wide64) (λ _. body_reads tag)))

pub values_reads : (count : ℕ) → Reads (list 0 count (λ (_ : ℕ). value) forget no_state) (values_reader count)
unfolding values_reader
values_reads count = list_reads 0 count (λ (_ : ℕ). value) (λ _. value_reader) forget no_state (λ _. value_reads)

pub entry_reads : (low : ℕ) → Reads (entry low) (entry_reader low)
unfolding entry_reader
entry_reads low =
    made_reads (then_form (writer_from low) (λ _. then_form (number w64 1 greatest_count) (λ count. list 0 count (λ (_ : ℕ). value) forget no_state))) (then_reader (writer_reader low) (λ _. then_reader (within_reader w64 1 greatest_count) values_reader)) entry_parts
    (λ p. record { id = p.0; count = p.1.0; values = p.1.1 }) (λ x fits. refl) (λ y. refl)
    (then_reads (writer_from low) (λ _. then_form (number w64 1 greatest_count) (λ count. list 0 count (λ (_ : ℕ). value) forget no_state)) (writer_reader low) (λ _. then_reader (within_reader w64 1 greatest_count) values_reader) (writer_reads low)
    (λ _. then_reads (number w64 1 greatest_count) (λ count. list 0 count (λ (_ : ℕ). value) forget no_state) (within_reader w64 1 greatest_count) values_reader (within_reads w64 wide64 1 greatest_count) values_reads))

pub entries_reads : Reads (list 1 65535 entry above_entry 0) entries_reader
unfolding entries_reader
entries_reads = list_reads 1 65535 entry entry_reader above_entry 0 entry_reads

pub object_reads : Reads object object_reader
unfolding object_reader
object_reads = ruled_reads (list 1 65535 entry above_entry 0) entries_reader has_value entries_reads
