-- What a crash leaves in each of the two steps of an append, of one record or of many.
use Rattle.std.proofs.Common.{◌≡◌, ◌≢◌, ◌⊎◌, inl, inr, ℕ, ◌+◌, ◌-◌, ◌<◌, ◌≤◌, List, [], ◌∷◌, ◌++◌, length, get_or, take, drop, fold, All, None, Some, Result, Ok, refl, sym, ◌∙◌, ap, arith, append-nil, append_assoc, length-append, take-append-drop}
use Rattle.std.specs.Int.{w16, w32, from_be_bytes, to_be_bytes}
use Rattle.std.proofs.lemmas.Bool.{cases_eq}
use Rattle.std.proofs.lemmas.Slice.Eq.{bytes_eq-Decides}
use Rattle.std.proofs.lemmas.Nat.{from_be_bytes-to_be_bytes_4}
use Rattle.std.proofs.lemmas.List.{take_at, drop_at, drop_more}
use Rattle.std.proofs.lemmas.List.Elements.{All-head, All-tail}
use Rattle.sha2.specs.Sha256.{sha256}
use Rattle.sha2.proofs.Facts256.{length-sha256}
use Rattle.devices.specs.Device.{Overwrites, Torn}
use Rattle.meta_types.specs.Name.{Key, IsKey}
use Rattle.dvvset.specs.Object.{Entry}
use Rattle.frame_fields.specs.Field.{key, name, object, prefix}
use Rattle.frame_fields.proofs.Spellable.{key_fits}
use Rattle.frame_readers.specs.Reader.{◌>>=◌, object_reader}
use Rattle.frame_readers.proofs.Fields.{key_reads, object_reads}
use Rattle.meta_store.specs.Table.{IsHeld, most_merged}
use Rattle.meta_store.proofs.Sizes.{held_fits, small_parts}
use Rattle.node_file.specs.declared.record.Record.{Record}
use Rattle.node_file.specs.declared.record.Record.TheVariants.{Life, Object}
use Rattle.node_file.specs.Record.{IsRecord, record_if_held, object_read, payload, record_bytes, record_in, record_of, whole_record, with_size}
use Rattle.node_file.specs.Fold.{Contents, fold_records, may_follow, with_record}
use Rattle.node_file.specs.File.{FileState, StandsFor, ended, opened, record_size}
use Rattle.node_file.specs.Clean.{behind_gates}
use Rattle.node_file.specs.Batch.{CanTakeAll, EachFollows, batch_size, behind_first, state_with_all}
use Rattle.node_file.proofs.Folding.{closed, takes}
use Rattle.node_file.proofs.Parting.{IsLaidOut, reads_whole, not_below}

-- ---- an record_ that was spelled is read

-- a name, with its length in front
name_size : (low high : ℕ) (bytes : List ℕ) → length ((name low high).spell bytes) ≡ 2 + length bytes
name_size low high bytes = let two : length (to_be_bytes w16 (length bytes)) ≡ 2 = refl in omega (arith, length-append (to_be_bytes w16 (length bytes)) bytes, two)

key_short : (k : Key) → IsKey k → length (key.spell k) ≤ 390
key_short k is =
    let first = name_size 1 64 k.prefix.prefix in
    let second = name_size 1 64 k.prefix.sub in
    let own = name_size 1 256 k.key in
    let prefixes : length (prefix.spell k.prefix) ≤ 132 = omega (arith, length-append ((name 1 64).spell k.prefix.prefix) ((name 1 64).spell k.prefix.sub), first, second, is.0.0.1, is.0.1.1) in
    omega (arith, length-append (prefix.spell k.prefix) ((name 1 256).spell k.key), prefixes, own, is.1.1)

pub length-payload : (record_ : Record) → IsRecord record_ → length (payload record_) ≤ 16777216
length-payload (Life n) lawful = let five : length (0 ∷ to_be_bytes w32 n) ≡ 5 = refl in omega (arith, five)
length-payload (Object k o) lawful = omega (arith, length-append (key.spell k) (object.spell o), key_short k lawful.0, (small_parts most_merged o lawful.1.small).short)

-- an object alone in its bytes
object_alone : (o : List Entry) → IsHeld o → object_reader (object.spell o) ≡ Ok (o, [])
object_alone o is = ap object_reader (sym (append-nil (object.spell o))) ∙ object_reads.again o [] (held_fits o is)

object_is_held : (k : Key) (o : List Entry) → IsHeld o → record_if_held k o ≡ Some (Object k o)
object_is_held k o is = rw (is.shows, is.small) refl

pub record_again : (record_ : Record) → IsRecord record_ → record_of 2 (payload record_) ≡ Some record_
unfolding record_of
record_again (Life n) lawful = ap (λ (k : ℕ). Some (Life k)) (from_be_bytes-to_be_bytes_4 n (omega (arith, lawful)))
record_again (Object k o) lawful =
    ap (λ (r : Result (Key × List ℕ) ℕ). object_read (r >>= λ a. object_reader a.1 >>= λ b. Ok ((a.0, b.0), b.1))) (key_reads.again k (object.spell o) (key_fits k lawful.0))
    ∙ ap (λ (r : Result (List Entry × List ℕ) ℕ). object_read (r >>= λ b. Ok ((k, b.0), b.1))) (object_alone o lawful.1)
    ∙ object_is_held k o lawful.1

-- ---- a record that was written is read

pub length-record : (m : List ℕ) → length (record_bytes m) ≡ 36 + length m
unfolding record_bytes
length-record m = omega (arith, length-append (to_be_bytes w32 (length m)) (m ++ sha256 m), length-append m (sha256 m), length-sha256 m, four (length m))
  where
    four : (n : ℕ) → length (to_be_bytes w32 n) ≡ 4
    four n = refl

pub whole_is : (version : ℕ) (m : List ℕ) → whole_record version (length m) (record_bytes m) ≡ with_size (36 + length m) (record_of version m)
unfolding record_bytes whole_record
whole_is version m =
    let four : length (to_be_bytes w32 (length m)) ≡ 4 = refl in
    let behind : drop 4 (to_be_bytes w32 (length m) ++ (m ++ sha256 m)) ≡ m ++ sha256 m = drop_at (to_be_bytes w32 (length m)) (m ++ sha256 m) 4 four in
    let body : take (length m) (drop 4 (to_be_bytes w32 (length m) ++ (m ++ sha256 m))) ≡ m = ap (λ (l : List ℕ). take (length m) l) behind ∙ take_at m (sha256 m) (length m) refl in
    let digest : drop (4 + length m) (to_be_bytes w32 (length m) ++ (m ++ sha256 m)) ≡ sha256 m =
    ap (λ (l : List ℕ). drop (4 + length m) l) (sym (append_assoc (to_be_bytes w32 (length m)) m (sha256 m))) ∙ drop_at (to_be_bytes w32 (length m) ++ m) (sha256 m) (4 + length m) (omega (arith, length-append (to_be_bytes w32 (length m)) m, four)) in
    rw (body, digest, (bytes_eq-Decides (sha256 m) (sha256 m)).1 refl) refl

pub number : (m rest : List ℕ) → length m ≤ 16777216 → from_be_bytes w32 (take 4 (record_bytes m ++ rest)) ≡ length m
unfolding record_bytes
number m rest fits =
    let grouped = append_assoc (to_be_bytes w32 (length m)) (m ++ sha256 m) rest in
    ap (λ (l : List ℕ). from_be_bytes w32 (take 4 l)) grouped ∙ ap (from_be_bytes w32) (take_at (to_be_bytes w32 (length m)) ((m ++ sha256 m) ++ rest) 4 refl) ∙ from_be_bytes-to_be_bytes_4 (length m) (omega (arith, fits))

read_bytes : (version : ℕ) (m rest : List ℕ) → length m ≤ 16777216 → record_in version (record_bytes m ++ rest) ≡ with_size (36 + length m) (record_of version m)
read_bytes version m rest fits =
    let size = length-record m in
    reads_whole version (record_bytes m ++ rest) (length m) (omega (arith, length-append (record_bytes m) rest, size)) fits (number m rest fits)
    ∙ ap (whole_record version (length m)) (take_at (record_bytes m) rest (36 + length m) size)
    ∙ whole_is version m

pub read_again : (record_ : Record) (rest : List ℕ) → IsRecord record_ → record_in 2 (record_bytes (payload record_) ++ rest) ≡ Some (record_, 36 + length (payload record_))
read_again record_ rest lawful = read_bytes 2 (payload record_) rest (length-payload record_ lawful) ∙ ap (with_size (36 + length (payload record_))) (record_again record_ lawful)

-- ---- lists

-- a list with a part of another's: its front, and the rest behind one place
pub at_gate : (front rest c : List ℕ) (old e : ℕ) → length front ≡ e → take (e + 1) c ≡ take (e + 1) (front ++ old ∷ rest) → c ≡ front ++ old ∷ drop (e + 1) c
at_gate front rest c old e size same =
    let regrouped : front ++ old ∷ rest ≡ (front ++ old ∷ []) ++ rest = sym (append_assoc front (old ∷ []) rest) in
    let long : length (front ++ old ∷ []) ≡ e + 1 = omega (arith, length-append front (old ∷ []), size) in
    let begins : take (e + 1) c ≡ front ++ old ∷ [] = same ∙ ap (λ (l : List ℕ). take (e + 1) l) regrouped ∙ take_at (front ++ old ∷ []) rest (e + 1) long in
    sym (take-append-drop (e + 1) c) ∙ ap (λ (l : List ℕ). l ++ drop (e + 1) c) begins ∙ append_assoc front (old ∷ []) (drop (e + 1) c)

pub behind_gate : (front rest : List ℕ) (old e : ℕ) → length front ≡ e → drop (e + 1) (front ++ old ∷ rest) ≡ rest
behind_gate front rest old e size =
    ap (λ (l : List ℕ). drop (e + 1) l) (sym (append_assoc front (old ∷ []) rest)) ∙ drop_at (front ++ old ∷ []) rest (e + 1) (omega (arith, length-append front (old ∷ []), size))

-- any byte at the gate
pub gate_torn : (front rest c : List ℕ) (old e : ℕ) → length front ≡ e → Torn e 1 (front ++ old ∷ rest) c → c ≡ front ++ get_or c e 0 ∷ rest
gate_torn front rest c old e size torn =
    let long : e < length c = omega (arith, torn.no_shorter, length-append front (old ∷ rest), size) in
    let behind : drop e c ≡ get_or c e 0 ∷ rest = drop_more c e 0 long ∙ ap (λ (l : List ℕ). get_or c e 0 ∷ l) (torn.after ∙ behind_gate front rest old e size) in
    sym (take-append-drop e c) ∙ ap (λ (l : List ℕ). l ++ drop e c) (torn.before ∙ take_at front (old ∷ rest) e size) ∙ ap (λ (l : List ℕ). front ++ l) behind

pub written_behind : (front rest bytes c : List ℕ) (old e : ℕ) → length front ≡ e → Overwrites (front ++ old ∷ rest) (e + 1) bytes c → (tail : List ℕ) × (c ≡ front ++ old ∷ (bytes ++ tail))
written_behind front rest bytes c old e size holds =
    let f = front ++ old ∷ rest in
    let tail = drop (e + 1 + length bytes) f in
    let begins : take (e + 1) f ≡ front ++ old ∷ [] =
    ap (λ (l : List ℕ). take (e + 1) l) (sym (append_assoc front (old ∷ []) rest)) ∙ take_at (front ++ old ∷ []) rest (e + 1) (omega (arith, length-append front (old ∷ []), size)) in
    (tail, holds ∙ append_assoc (take (e + 1) f) bytes tail ∙ ap (λ (l : List ℕ). l ++ (bytes ++ tail)) begins ∙ append_assoc front (old ∷ []) (bytes ++ tail))

pub written_gate : (front rest c : List ℕ) (old new e : ℕ) → length front ≡ e → Overwrites (front ++ old ∷ rest) e (new ∷ []) c → c ≡ front ++ new ∷ rest
written_gate front rest c old new e size holds =
    let f = front ++ old ∷ rest in
    holds ∙ append_assoc (take e f) (new ∷ []) (drop (e + 1) f) ∙ ap (λ (l : List ℕ). l ++ (new ∷ [] ++ drop (e + 1) f)) (take_at front (old ∷ rest) e size) ∙ ap (λ (l : List ℕ). front ++ new ∷ l) (behind_gate front rest old e size)

-- a whole write over the gate
pub written_over : (front rest bytes c : List ℕ) (old e : ℕ) → length front ≡ e → Overwrites (front ++ old ∷ rest) e bytes c → (tail : List ℕ) × (c ≡ front ++ (bytes ++ tail))
written_over front rest bytes c old e size holds =
    let f = front ++ old ∷ rest in
    let tail = drop (e + length bytes) f in
    (tail, holds ∙ append_assoc (take e f) bytes tail ∙ ap (λ (l : List ℕ). l ++ (bytes ++ tail)) (take_at front (old ∷ rest) e size))

-- ---- records one after the other

-- how many bytes they are, with the closed gate behind them
pub length-behind_gates : (records : List Record) → length (behind_gates records) ≡ batch_size records + 1
unfolding behind_gates record_size
length-behind_gates [] = refl
length-behind_gates (record_ ∷ records) = omega (arith, length-append (record_bytes (payload record_)) (behind_gates records), length-record (payload record_), length-behind_gates records)

-- each is taken in, whatever stands behind the closed gate
takes_all : (records : List Record) (c : Contents) (tail : List ℕ) → All IsRecord records → EachFollows c records → fold_records may_follow with_record 2 c 0 (behind_gates records ++ tail) ≡ Ok (fold with_record c records, length tail + 1)
unfolding behind_gates
takes_all [] c tail lawful follow = closed may_follow with_record 2 c 0 tail (omega arith)
takes_all (record_ ∷ records) c tail lawful follow =
    let m = payload record_ in
    let behind = behind_gates records ++ tail in
    let size = length-record m in
    let long : 36 + length m ≤ length (record_bytes m ++ behind) = omega (arith, length-append (record_bytes m) behind, size) in
    ap (λ (l : List ℕ). fold_records may_follow with_record 2 c 0 (1 ∷ l)) (append_assoc (record_bytes m) (behind_gates records) tail)
    ∙ takes may_follow with_record 2 c (record_bytes m ++ behind) record_ (36 + length m) (read_again record_ behind (All-head IsRecord record_ records lawful)) follow.0 long
    ∙ ap (λ (b : List ℕ). fold_records may_follow with_record 2 (with_record c record_) 0 b) (drop_at (record_bytes m) behind (36 + length m) size)
    ∙ takes_all records (with_record c record_) tail (All-tail IsRecord record_ records lawful) follow.1

-- ---- what such files stand for

found : (s : FileState) (end n : ℕ) → length s.contents.table ≤ 8192 → ended (end + n) (s.version, s.node) (Ok (s.contents, n)) ≡ Ok (s, end)
found s end n few =
    let at_end : end + n - n ≡ end = omega arith in
    rw (not_below 8192 (length s.contents.table) few, at_end) refl

module _ (s : FileState) (end : ℕ) (f : List ℕ) (l : IsLaidOut s end f) where
  -- a closed gate ends them, whatever stands behind it
  pub closed_has : (gate : ℕ) (rest : List ℕ) → gate ≢ 1 → opened None (l.front ++ gate ∷ rest) ≡ Ok (s, end)
  closed_has gate rest shut = l.goes gate rest ∙ ap (ended (end + (length rest + 1)) (s.version, s.node)) (closed may_follow with_record s.version s.contents gate rest shut) ∙ found s end (length rest + 1) l.few

  -- an open gate takes in the records behind it
  pub open_has : (first : Record) (more : List Record) (tail : List ℕ) → CanTakeAll s (first ∷ more) → opened None (l.front ++ 1 ∷ (behind_first first more ++ tail)) ≡ Ok (state_with_all s (first ∷ more), end + batch_size (first ∷ more))
  unfolding behind_gates
  open_has first more tail can =
      let records = first ∷ more in
      let rest = behind_first first more ++ tail in
      let read : fold_records may_follow with_record s.version s.contents 0 (1 ∷ rest) ≡ Ok (fold with_record s.contents records, length tail + 1) =
      ap (λ (v : ℕ). fold_records may_follow with_record v s.contents 0 (1 ∷ rest)) can.version ∙ takes_all records s.contents tail can.lawful can.follow in
      let long : length (behind_gates records ++ tail) ≡ length rest + 1 = omega arith in
      let total : end + (length rest + 1) ≡ end + batch_size records + (length tail + 1) = omega (arith, long, length-append (behind_gates records) tail, length-behind_gates records) in
      l.goes 1 rest ∙ ap (ended (end + (length rest + 1)) (s.version, s.node)) read
      ∙ ap (λ (n : ℕ). ended n (s.version, s.node) (Ok (fold with_record s.contents records, length tail + 1))) total
      ∙ found (state_with_all s records) (end + batch_size records) (length tail + 1) can.room

  -- a record torn behind the closed gate
  pub torn_behind : (n : ℕ) (c : List ℕ) → Torn (end + 1) n f c → opened None c ≡ Ok (s, end)
  torn_behind n c torn =
      let same : take (end + 1) c ≡ take (end + 1) (l.front ++ l.gate ∷ l.rest) = torn.before ∙ ap (λ (b : List ℕ). take (end + 1) b) l.split in
      let is = at_gate l.front l.rest c l.gate end l.size same in
      ap (opened None) is ∙ closed_has l.gate (drop (end + 1) c) l.shut

  -- a gate torn in front of whole records
  pub torn_gate : (first : Record) (more : List Record) (tail c : List ℕ) → CanTakeAll s (first ∷ more)
      → Torn end 1 (l.front ++ l.gate ∷ (behind_first first more ++ tail)) c → (opened None c ≡ Ok (s, end)) ⊎ StandsFor (state_with_all s (first ∷ more)) c
  torn_gate first more tail c can torn =
      let body = behind_first first more ++ tail in
      let is = gate_torn l.front body c l.gate end l.size torn in
      elim (cases_eq (get_or c end 0) 1) [
        | inl is_open ↦ inr (end + batch_size (first ∷ more), ap (opened None) (is ∙ ap (λ (g : ℕ). l.front ++ g ∷ body) is_open) ∙ open_has first more tail can)
        | inr shut ↦ inl (ap (opened None) is ∙ closed_has (get_or c end 0) body shut)
      ]

-- what stands behind the closed gate is nothing
pub nothing_behind : (bytes behind : List ℕ) (s : FileState) (gate : ℕ) (l : IsLaidOut s gate bytes) → opened None (take (gate + 1) bytes ++ behind) ≡ Ok (s, gate)
nothing_behind bytes behind s gate l =
    let long : length (l.front ++ l.gate ∷ []) ≡ gate + 1 = omega (arith, length-append l.front (l.gate ∷ []), l.size) in
    let regrouped : bytes ≡ (l.front ++ l.gate ∷ []) ++ l.rest = l.split ∙ sym (append_assoc l.front (l.gate ∷ []) l.rest) in
    let kept : take (gate + 1) bytes ≡ l.front ++ l.gate ∷ [] = ap (λ (b : List ℕ). take (gate + 1) b) regrouped ∙ take_at (l.front ++ l.gate ∷ []) l.rest (gate + 1) long in
    ap (λ (b : List ℕ). opened None (b ++ behind)) kept ∙ ap (opened None) (append_assoc l.front (l.gate ∷ []) behind) ∙ closed_has s gate bytes l l.gate behind l.shut
