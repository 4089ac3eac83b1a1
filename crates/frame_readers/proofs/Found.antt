-- What was read keeps the rules of its type.
use Rattle.std.proofs.Common.{◌≡◌, ℕ, List, Ok}
use Rattle.dvvset.specs.Object.{Entry, Counter, IsObject, IsVector}
use Rattle.frame_fields.proofs.Spellable.{entries_rise, entries_in_range, vector_in_range}
use Rattle.frame_fields.specs.Form.{Form}
use Rattle.frame_readers.specs.Reader.{Reader, vector_reader, entries_reader}
use Rattle.frame_readers.proofs.Readers.{IsBytes, Reads}
use Rattle.frame_readers.proofs.Fields.{vector_reads, entries_reads}

pub object_from_entries : (bytes : List ℕ) (es : List Entry) (rest : List ℕ) → IsBytes bytes → entries_reader bytes ≡ Ok (es, rest) → IsObject es
object_from_entries bytes es rest is e =
    let t = entries_reads.takes bytes es rest is e in
    record { rising = entries_rise 0 es t.0.1.1; entries = entries_in_range 0 es t.0.1.1 }

pub vector_from_counters : (bytes : List ℕ) (cs : List Counter) (rest : List ℕ) → IsBytes bytes → vector_reader bytes ≡ Ok (cs, rest) → IsVector cs
vector_from_counters bytes cs rest is e = vector_in_range cs (vector_reads.takes bytes cs rest is e).0

pub spelled_fits : {A : Type 0} (form : Form A) (read : Reader A) → Reads form read → (bytes : List ℕ) (x : A) (rest : List ℕ) → IsBytes bytes → read bytes ≡ Ok (x, rest) → form.Fits x
spelled_fits form read reads bytes x rest is e = (reads.takes bytes x rest is e).0
