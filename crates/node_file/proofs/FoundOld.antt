-- What was read in the old form fits the forms of today, with writers in life 0, and so keeps the
-- rules of its type.
use Rattle.std.proofs.Common.{◌≡◌, ℕ, zero, suc, ◌≤◌, Bool, true, false, cond, leb, List, [], ◌∷◌, length, Ok, Err, refl, subst, arith}
use Rattle.std.specs.Int.{w16, w64}
use Rattle.std.proofs.lemmas.Bool.{leb-true, le-leb}
use Rattle.meta_types.specs.Actor.{writer_number, node_of_writer, incarnation_of_writer}
use Rattle.dvvset.specs.Object.{Entry, IsObject}
use Rattle.frame_fields.specs.Form.{Form, EachFits}
use Rattle.frame_fields.specs.Field.{above_entry, entry, greatest_count, node, node_before, number, writer_from, list, value, forget, no_state}
use Rattle.frame_fields.proofs.Spellable.{entries_rise, entries_in_range, number_within}
use Rattle.frame_readers.specs.Reader.{Reader, ◌>>=◌, each_reader, made_reader, node_reader, ruled_reader, then_reader, values_reader, within_reader}
use Rattle.node_file.specs.Old.{old_entries_reader, old_entry_reader, old_writer_reader}
use Rattle.frame_readers.proofs.Fields.{node_reads, values_reads, within_reads}
use Rattle.frame_readers.proofs.Readers.{IsBytes, IsBytes-rest, Reads, bind_ok, ok_is, wide16, wide64}

-- this holds of what is read, and after it there are bytes again
abbrev Finds : {A : Type 0} → (A → Type 0) → Reader A → Type 0
Finds {A} P read = (bytes : List ℕ) (x : A) (rest : List ℕ) → IsBytes bytes → read bytes ≡ Ok (x, rest) → P x × IsBytes rest

fitting : {A : Type 0} (form : Form A) (read : Reader A) → Reads form read → Finds form.Fits read
fitting form read reads bytes x rest is e =
    let t = reads.takes bytes x rest is e in
    (t.0, IsBytes-rest bytes (form.spell x) rest t.1 is)

rule_holds : {A : Type 0} (b : Bool) (x : A) (d : ℕ) (y : A) → cond b (Ok x) (Err d) ≡ Ok y → (b ≡ true) × (x ≡ y)
rule_holds true x d y e = (refl, ok_is x y e)
rule_holds false x d y e = absurd cc

ruled_finds : {A : Type 0} (P : A → Type 0) (read : Reader A) (rule : A → Bool) → Finds P read → Finds (λ x. P x × (rule x ≡ true)) (ruled_reader read rule)
ruled_finds P read rule found bytes x rest is e =
    let b = bind_ok (read bytes) (λ y. cond (rule y.0) (Ok y) (Err (length bytes))) (x, rest) e in
    let r = rule_holds (rule b.0.0) b.0 (length bytes) (x, rest) b.1.1 in
    let t = found bytes b.0.0 b.0.1 is b.1.0 in
    subst (λ p. (P p.0 × (rule p.0 ≡ true)) × IsBytes p.1) r.1 ((t.0, r.0), t.1)

then_finds : {A B : Type 0} (P : A → Type 0) (Q : A → B → Type 0) (read : Reader A) (next : A → Reader B) → Finds P read → ((x : A) → Finds (Q x) (next x)) → Finds (λ p. P p.0 × Q p.0 p.1) (then_reader read next)
then_finds {A} {B} P Q read next one two bytes x rest is e =
    let a = bind_ok (read bytes) (λ p. next p.0 p.1 >>= λ q. Ok ((p.0, q.0), q.1)) (x, rest) e in
    let b = bind_ok (next a.0.0 a.0.1) (λ q. Ok ((a.0.0, q.0), q.1)) (x, rest) a.1.1 in
    let t = one bytes a.0.0 a.0.1 is a.1.0 in
    let u = two a.0.0 a.0.1 b.0.0 b.0.1 t.1 b.1.0 in
    let made : (A × B) × List ℕ = ((a.0.0, b.0.0), b.0.1) in
    subst (λ (p : (A × B) × List ℕ). (P p.0.0 × Q p.0.0 p.0.1) × IsBytes p.1) (ok_is made (x, rest) b.1.1) ((t.0, u.0), u.1)

made_finds : {A B : Type 0} (P : A → Type 0) (Q : B → Type 0) (read : Reader A) (make : A → B) → ((x : A) → P x → Q (make x)) → Finds P read → Finds Q (made_reader read make)
made_finds {B = B} P Q read make holds found bytes y rest is e =
    let b = bind_ok (read bytes) (λ x. Ok (make x.0, x.1)) (y, rest) e in
    let t = found bytes b.0.0 b.0.1 is b.1.0 in
    let made : B × List ℕ = (make b.0.0, b.0.1) in
    subst (λ (p : B × List ℕ). Q p.0 × IsBytes p.1) (ok_is made (y, rest) b.1.1) (holds b.0.0 t.0, t.1)

each_finds : {S A : Type 0} (form : S → Form A) (read : S → Reader A) (next : A → S) → ((s : S) → Finds (form s).Fits (read s)) → (n : ℕ) (s : S) → Finds (EachFits form next s) (each_reader read next s n)
unfolding each_reader
each_finds {A = A} form read next found zero s bytes xs rest is e =
    subst (λ (p : List A × List ℕ). EachFits form next s p.0 × IsBytes p.1) (ok_is ([], bytes) (xs, rest) e) (tt, is)
each_finds {A = A} form read next found (suc n) s bytes xs rest is e =
    let a = bind_ok (read s bytes) (λ first. each_reader read next (next first.0) n first.1 >>= λ others. Ok (first.0 ∷ others.0, others.1)) (xs, rest) e in
    let b = bind_ok (each_reader read next (next a.0.0) n a.0.1) (λ others. Ok (a.0.0 ∷ others.0, others.1)) (xs, rest) a.1.1 in
    let t = found s bytes a.0.0 a.0.1 is a.1.0 in
    let u = each_finds form read next found n (next a.0.0) a.0.1 b.0.0 b.0.1 t.1 b.1.0 in
    let made : List A × List ℕ = (a.0.0 ∷ b.0.0, b.0.1) in
    subst (λ (p : List A × List ℕ). EachFits form next s p.0 × IsBytes p.1) (ok_is made (xs, rest) b.1.1) ((t.0, u.0), u.1)

-- ---- the fields of an object

-- a writer in its life 0 has the present form if its node is one and it is `low` or more
writer_fits : (low n : ℕ) → node.Fits n × (leb low (writer_number n 0) ≡ true) → (writer_from low).Fits (writer_number n 0)
writer_fits low n fits =
    let most = (number_within w16 0 15 n fits.0).most in
    let above : low ≤ writer_number n 0 = leb-true low (writer_number n 0) fits.1 in
    let node-is : node_of_writer (writer_number n 0) ≡ n = omega arith in
    let life-is : incarnation_of_writer (writer_number n 0) ≡ 0 = omega arith in
    let before : node_before low ≤ n = omega arith in
    rw (node-is, life-is) ((fits.0.0, rw (le-leb (node_before low) n before, le-leb n 15 most) refl), (omega arith, fits.1))

writer_found : (low : ℕ) → Finds (writer_from low).Fits (old_writer_reader low)
unfolding old_writer_reader
writer_found low =
    made_finds (λ n. node.Fits n × (leb low (writer_number n 0) ≡ true)) (writer_from low).Fits (ruled_reader node_reader (λ n. leb low (writer_number n 0))) (λ n. writer_number n 0)
    (writer_fits low) (ruled_finds node.Fits node_reader (λ n. leb low (writer_number n 0)) (fitting node node_reader node_reads))

entry_found : (low : ℕ) → Finds (entry low).Fits (old_entry_reader low)
unfolding old_entry_reader
entry_found low =
    let count = number w64 1 greatest_count in
    let values = λ (n : ℕ). list 0 n (λ (_ : ℕ). value) forget no_state in
    made_finds (λ p. (writer_from low).Fits p.0 × (count.Fits p.1.0 × (values p.1.0).Fits p.1.1)) (entry low).Fits
    (then_reader (old_writer_reader low) (λ _. then_reader (within_reader w64 1 greatest_count) values_reader)) (λ p. record { id = p.0; count = p.1.0; values = p.1.1 })
    (λ p fits. fits)
    (then_finds (writer_from low).Fits (λ _ p. count.Fits p.0 × (values p.0).Fits p.1) (old_writer_reader low) (λ _. then_reader (within_reader w64 1 greatest_count) values_reader) (writer_found low)
    (λ _. then_finds count.Fits (λ n. (values n).Fits) (within_reader w64 1 greatest_count) values_reader (fitting count (within_reader w64 1 greatest_count) (within_reads w64 wide64 1 greatest_count))
    (λ n. fitting (values n) (values_reader n) (values_reads n))))

entries_found : Finds (EachFits entry above_entry 0) old_entries_reader
unfolding old_entries_reader
entries_found =
    let count = number w16 1 65535 in
    made_finds (λ p. count.Fits p.0 × EachFits entry above_entry 0 p.1) (EachFits entry above_entry 0) (then_reader (within_reader w16 1 65535) (each_reader old_entry_reader above_entry 0)) (λ p. p.1)
    (λ p fits. fits.1)
    (then_finds count.Fits (λ _. EachFits entry above_entry 0) (within_reader w16 1 65535) (each_reader old_entry_reader above_entry 0) (fitting count (within_reader w16 1 65535) (within_reads w16 wide16 1 65535))
    (λ n. each_finds entry old_entry_reader above_entry entry_found n 0))

pub object_from_old_entries : (bytes : List ℕ) (es : List Entry) (rest : List ℕ) → IsBytes bytes → old_entries_reader bytes ≡ Ok (es, rest) → IsObject es
object_from_old_entries bytes es rest is e =
    let fits = (entries_found bytes es rest is e).0 in
    record { rising = entries_rise 0 es fits; entries = entries_in_range 0 es fits }
