-- What a payload says, by its forms alone.
use Rattle.std.proofs.Common.{◌≡◌, ℕ, zero, suc, List, [], ◌∷◌, ◌++◌, length, Option, Some, None, Result, Ok, Err, Bool, true, false, ◌&&◌, cond, refl, ◌∙◌, ap, subst, arith, append-nil}
use Rattle.std.specs.Int.{w16, w32, from_be_bytes, to_be_bytes}
use Rattle.std.specs.Cmp.{first_so, second_so}
use Rattle.std.proofs.lemmas.Bool.{eqb-true, ne_eqb}
use Rattle.meta_types.specs.Name.{Key, IsKey}
use Rattle.dvvset.specs.Object.{Entry}
use Rattle.frame_fields.specs.Field.{key, object, has_value}
use Rattle.frame_fields.proofs.Spellable.{number_within, spelled_object}
use Rattle.frame_readers.specs.Reader.{◌>>=◌, key_reader, object_reader, then_reader}
use Rattle.frame_readers.proofs.Readers.{IsBytes, IsBytes-rest, number_reads, wide32}
use Rattle.frame_readers.proofs.Fields.{key_reads, object_reads}
use Rattle.meta_store.specs.Table.{is_small_enough, most_merged}
use Rattle.node_file.specs.declared.record.Record.{Record}
use Rattle.node_file.specs.declared.record.Record.TheVariants.{Life, Object}
use Rattle.node_file.specs.Record.{Says, life_in, object_in, object_read, record_of}
use Rattle.node_file.proofs.Torn.{record_again}

some_is : (x y : Record) → Some x ≡ Some y → x ≡ y
some_is x y e = cc

-- ---- a life

says_number : (bytes : List ℕ) → IsBytes bytes → length bytes ≡ 4 → Says (0 ∷ bytes) (Life (from_be_bytes w32 bytes))
says_number [] is e = absurd cc
says_number (a ∷ []) is e = absurd cc
says_number (a ∷ b ∷ []) is e = absurd cc
says_number (a ∷ b ∷ c ∷ []) is e = absurd cc
says_number (a ∷ b ∷ c ∷ d ∷ []) is e =
    let bytes : List ℕ = a ∷ b ∷ c ∷ d ∷ [] in
    let t = (number_reads w32 wide32).takes bytes (from_be_bytes w32 bytes) [] is refl in
    (ap (λ (l : List ℕ). 0 ∷ l) (t.1 ∙ append-nil (to_be_bytes w32 (from_be_bytes w32 bytes))), t.0)
says_number (a ∷ b ∷ c ∷ d ∷ f ∷ rest) is e = absurd (omega (arith, e))

says_life : (bytes : List ℕ) (item : Record) → IsBytes bytes → life_in bytes ≡ Some item → Says (0 ∷ bytes) item
says_life bytes item is e = by_length (Rattle.std.specs.Prelude.◌==◌ (length bytes) 4) refl e
  where
    by_length : (b : Bool) → Rattle.std.specs.Prelude.◌==◌ (length bytes) 4 ≡ b → cond b (Some (Life (from_be_bytes w32 bytes))) None ≡ Some item → Says (0 ∷ bytes) item
    by_length true four f = subst (λ (r : Record). Says (0 ∷ bytes) r) (some_is (Life (from_be_bytes w32 bytes)) item f) (says_number bytes is (eqb-true (length bytes) 4 four))
    by_length false four f = absurd cc

-- ---- a key and an object

key_from : (k : Key) → key.Fits k → IsKey k
key_from k fits =
    let first = number_within w16 1 64 (length k.prefix.prefix) fits.0.0.0 in
    let second = number_within w16 1 64 (length k.prefix.sub) fits.0.1.0 in
    let own = number_within w16 1 256 (length k.key) fits.1.0 in
    (((first.least, first.most), (second.least, second.most)), (own.least, own.most))

if_held : (k : Key) (o : List Entry) (held : Bool) (item : Record) → cond held (Some (Object k o)) None ≡ Some item → (held ≡ true) × (Object k o ≡ item)
if_held k o true item e = (refl, some_is (Object k o) item e)
if_held k o false item e = absurd cc

-- all of them were read, and what was read may be held
record WasRead (r : Result ((Key × List Entry) × List ℕ) ℕ) (item : Record) : Type 0 where
  key : Key
  object : List Entry
  is : r ≡ Ok ((key, object), [])
  held : (has_value object && is_small_enough most_merged object) ≡ true
  same : Object key object ≡ item

was_read : (r : Result ((Key × List Entry) × List ℕ) ℕ) (item : Record) → object_read r ≡ Some item → WasRead r item
was_read (Err left) item e = absurd cc
was_read (Ok (p, byte ∷ rest)) item e = absurd cc
was_read (Ok (p, [])) item e =
    let h = if_held p.0 p.1 (has_value p.1 && is_small_enough most_merged p.1) item e in
    record { key = p.0; object = p.1; is = refl; held = h.0; same = h.1 }

-- a key, and an object behind it
record BothRead (bytes : List ℕ) (k : Key) (o : List Entry) (rest : List ℕ) : Type 0 where
  middle : List ℕ
  first : key_reader bytes ≡ Ok (k, middle)
  second : object_reader middle ≡ Ok (o, rest)

abbrev read_ok : {A : Type 0} → A × List ℕ → Result (A × List ℕ) ℕ
read_ok x = Ok x

pair_is : {A : Type 0} (x y : A × List ℕ) → read_ok x ≡ read_ok y → x ≡ y
pair_is x y e = cc

abbrev paired : Key → List Entry × List ℕ → Result ((Key × List Entry) × List ℕ) ℕ
paired k b = Ok ((k, b.0), b.1)

of_second : (k k' : Key) (o : List Entry) (rest : List ℕ) (r : Result (List Entry × List ℕ) ℕ) → (r >>= paired k') ≡ Ok ((k, o), rest) → (k' ≡ k) × (r ≡ Ok (o, rest))
of_second k k' o rest (Err left) e = absurd cc
of_second k k' o rest (Ok b) e =
    let same : ((k', b.0), b.1) ≡ ((k, o), rest) = pair_is ((k', b.0), b.1) ((k, o), rest) e in
    (ap (λ (x : (Key × List Entry) × List ℕ). x.0.0) same, ap (λ (x : (Key × List Entry) × List ℕ). read_ok (x.0.1, x.1)) same)

of_first : (bytes : List ℕ) (k : Key) (o : List Entry) (rest : List ℕ) (r : Result (Key × List ℕ) ℕ) → key_reader bytes ≡ r → (r >>= λ a. object_reader a.1 >>= paired a.0) ≡ Ok ((k, o), rest) → BothRead bytes k o rest
of_first bytes k o rest (Err left) is e = absurd cc
of_first bytes k o rest (Ok a) is e =
    let h = of_second k a.0 o rest (object_reader a.1) e in
    record { middle = a.1; first = is ∙ ap (λ (x : Key). read_ok (x, a.1)) h.0; second = h.1 }

says_object : (bytes : List ℕ) (item : Record) → IsBytes bytes → object_in bytes ≡ Some item → Says (1 ∷ bytes) item
says_object bytes item is e =
    let w = was_read (then_reader key_reader (λ _. object_reader) bytes) item e in
    let both = of_first bytes w.key w.object [] (key_reader bytes) refl w.is in
    let front = key_reads.takes bytes w.key both.middle is both.first in
    let back = object_reads.takes both.middle w.object [] (IsBytes-rest bytes (key.spell w.key) both.middle front.1 is) both.second in
    let shows = first_so (has_value w.object) (is_small_enough most_merged w.object) w.held in
    let small = second_so (has_value w.object) (is_small_enough most_merged w.object) w.held in
    let spelled : bytes ≡ key.spell w.key ++ object.spell w.object = front.1 ∙ ap (λ (l : List ℕ). key.spell w.key ++ l) (back.1 ∙ append-nil (object.spell w.object)) in
    subst (λ (r : Record). Says (1 ∷ bytes) r) w.same
    (ap (λ (l : List ℕ). 1 ∷ l) spelled, (key_from w.key front.0, record { lawful = (spelled_object w.object back.0).object; shows = shows; small = small }))

-- ---- a payload

tail_bytes : (byte : ℕ) (bytes : List ℕ) → IsBytes (byte ∷ bytes) → IsBytes bytes
tail_bytes byte bytes is i = is (suc i)

no_kind : (zeroth first : Bool) (x y : Option Record) (item : Record) → zeroth ≡ false → first ≡ false → cond zeroth x (cond first y None) ≡ Some item → ⊥
no_kind true first x y item a b e = absurd cc
no_kind false true x y item a b e = absurd cc
no_kind false false x y item a b e = cc

says : (bytes : List ℕ) (item : Record) → IsBytes bytes → record_of 2 bytes ≡ Some item → Says bytes item
unfolding record_of
says [] item is e = absurd cc
says (zero ∷ bytes) item is e = says_life bytes item (tail_bytes 0 bytes is) e
says (suc zero ∷ bytes) item is e = says_object bytes item (tail_bytes 1 bytes is) e
says (suc (suc kind) ∷ bytes) item is e =
    absurd (no_kind (Rattle.std.specs.Prelude.◌==◌ (suc (suc kind)) 0) (Rattle.std.specs.Prelude.◌==◌ (suc (suc kind)) 1) (life_in bytes) (object_in bytes) item (ne_eqb (suc (suc kind)) 0 (λ z. absurd (omega arith))) (ne_eqb (suc (suc kind)) 1 (λ z. absurd (omega arith))) e)

is_said : (bytes : List ℕ) (item : Record) → Says bytes item → record_of 2 bytes ≡ Some item
is_said bytes item said = ap (record_of 2) said.0 ∙ record_again item said.1

pub says_one : (bytes : List ℕ) (item : Record) → IsBytes bytes → (record_of 2 bytes ≡ Some item → Says bytes item) × (Says bytes item → record_of 2 bytes ≡ Some item)
says_one bytes item is = (says bytes item is, is_said bytes item)
