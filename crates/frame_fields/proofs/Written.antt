-- What writing fields one after another leaves at the end of bytes.
use Rattle.std.proofs.Common.{◌≡◌, ℕ, zero, suc, ◌+◌, ◌<◌, List, [], ◌∷◌, ◌++◌, length, take, get_or, sym, ap, ◌∙◌, append_assoc, add-one, arith}
use Rattle.std.proofs.lemmas.List.{append-nil}
use Rattle.std.proofs.lemmas.List.Concat.{flat_map-cons}
use Rattle.std.specs.List.{flat_map}
use Rattle.std.specs.Int.{w16, w32, w64, to_be_bytes}
use Rattle.meta_types.specs.Actor.{node_of_writer, incarnation_of_writer}
use Rattle.dvvset.specs.Object.{Entry, Counter}
use Rattle.frame_fields.specs.declared.prefixes.PrefixDigest.{PrefixDigest}
use Rattle.frame_fields.specs.declared.keys.KeyDigest.{KeyDigest}
use Rattle.frame_fields.specs.Form.{spell_each}
use Rattle.frame_fields.specs.Field.{writer_from, value, entry, object, above_entry, counter_form, above_counter, vector, forget, no_state, node, nodes, digest, digests, prefix_row, prefix_of, lowest, prefixes, key_row, key_bytes, keys}
use Rattle.frame_fields.proofs.Spellable.{spell_plain, spell_entries, spell_counters, spell_prefixes, spell_keys}

pub written_entry : (front : List ℕ) (e : Entry) → (((front ++ (writer_from 0).spell e.id) ++ to_be_bytes w64 e.count) ++ to_be_bytes w16 (length e.values)) ++ flat_map value.spell e.values ≡ front ++ (entry 0).spell e
written_entry front e =
    let a = (writer_from 0).spell e.id in
    let b = to_be_bytes w64 e.count in
    let c = to_be_bytes w16 (length e.values) in
    let d = flat_map value.spell e.values in
    append_assoc ((front ++ a) ++ b) c d ∙ append_assoc (front ++ a) b (c ++ d) ∙ append_assoc front a (b ++ (c ++ d))
    ∙ ap (λ bytes. front ++ (a ++ (b ++ (c ++ bytes)))) (sym (spell_plain value e.values))

-- one more
flat_map-take : {A : Type 0} (f : A → List ℕ) (xs : List A) (i : ℕ) (x : A) → i < length xs → x ≡ get_or xs i x → flat_map f (take (suc i) xs) ≡ flat_map f (take i xs) ++ f x
flat_map-take f [] i x lt is = absurd (omega arith)
flat_map-take f (y ∷ ys) zero x lt is = flat_map-cons f y [] ∙ append-nil (f y) ∙ ap f (sym is)
flat_map-take f (y ∷ ys) (suc i) x lt is =
    flat_map-cons f y (take (suc i) ys) ∙ ap (λ bytes. f y ++ bytes) (flat_map-take f ys i x (omega arith) is)
    ∙ sym (append_assoc (f y) (flat_map f (take i ys)) (f x)) ∙ ap (λ bytes. bytes ++ f x) (sym (flat_map-cons f y (take i ys)))

pub one_more : {A : Type 0} (f : A → List ℕ) (xs : List A) (i : ℕ) (x : A) (front out new : List ℕ) → i < length xs → x ≡ get_or xs i x → out ≡ front ++ flat_map f (take i xs) → new ≡ out ++ f x → new ≡ front ++ flat_map f (take (i + 1) xs)
one_more f xs i x front out new lt is so_far added =
    rw add-one (added ∙ ap (λ bytes. bytes ++ f x) so_far ∙ append_assoc front (flat_map f (take i xs)) (f x) ∙ ap (λ bytes. front ++ bytes) (sym (flat_map-take f xs i x lt is)))

-- a count, and so many values
counted_bytes_of : (front : List ℕ) (n : ℕ) (each flat : List ℕ) → each ≡ flat → (front ++ to_be_bytes w16 n) ++ flat ≡ front ++ (to_be_bytes w16 n ++ each)
counted_bytes_of front n each flat same = append_assoc front (to_be_bytes w16 n) flat ∙ ap (λ bytes. front ++ (to_be_bytes w16 n ++ bytes)) (sym same)

pub written_object : (front : List ℕ) (es : List Entry) → (front ++ to_be_bytes w16 (length es)) ++ flat_map (entry 0).spell es ≡ front ++ object.spell es
written_object front es = counted_bytes_of front (length es) (spell_each entry above_entry 0 es) (flat_map (entry 0).spell es) (spell_entries 0 es)

pub object_size : (n : ℕ) (es : List Entry) → n ≡ length (flat_map (entry 0).spell es) → 2 + n ≡ length (object.spell es)
object_size n es e = let same : length (spell_each entry above_entry 0 es) ≡ length (flat_map (entry 0).spell es) = ap length (spell_entries 0 es) in omega arith

pub written_vector : (front : List ℕ) (cs : List Counter) → (front ++ to_be_bytes w16 (length cs)) ++ flat_map (counter_form 0).spell cs ≡ front ++ vector.spell cs
written_vector front cs = counted_bytes_of front (length cs) (spell_each counter_form above_counter 0 cs) (flat_map (counter_form 0).spell cs) (spell_counters 0 cs)

pub written_nodes : (front : List ℕ) (ns : List ℕ) → (front ++ to_be_bytes w16 (length ns)) ++ flat_map node.spell ns ≡ front ++ nodes.spell ns
written_nodes front ns = counted_bytes_of front (length ns) (spell_each (λ (_ : ℕ). node) forget no_state ns) (flat_map node.spell ns) (spell_plain node ns)

pub written_digests : (front : List ℕ) (ds : List (List ℕ)) → front ++ flat_map digest.spell ds ≡ front ++ digests.spell ds
written_digests front ds = ap (λ bytes. front ++ bytes) (sym (spell_plain digest ds))

pub written_prefixes : (front : List ℕ) (rows : List PrefixDigest) → (front ++ to_be_bytes w16 (length rows)) ++ flat_map (prefix_row lowest).spell rows ≡ front ++ prefixes.spell rows
written_prefixes front rows = counted_bytes_of front (length rows) (spell_each prefix_row prefix_of lowest rows) (flat_map (prefix_row lowest).spell rows) (spell_prefixes lowest rows)

pub written_keys : (front : List ℕ) (rows : List KeyDigest) → (front ++ to_be_bytes w16 (length rows)) ++ flat_map (key_row []).spell rows ≡ front ++ keys.spell rows
written_keys front rows = counted_bytes_of front (length rows) (spell_each key_row key_bytes [] rows) (flat_map (key_row []).spell rows) (spell_keys [] rows)

pub prefixes_size : (n : ℕ) (rows : List PrefixDigest) → n ≡ length (flat_map (prefix_row lowest).spell rows) → 2 + n ≡ length (prefixes.spell rows)
prefixes_size n rows e = let same : length (spell_each prefix_row prefix_of lowest rows) ≡ length (flat_map (prefix_row lowest).spell rows) = ap length (spell_prefixes lowest rows) in omega arith

pub keys_size : (n : ℕ) (rows : List KeyDigest) → n ≡ length (flat_map (key_row []).spell rows) → 2 + n ≡ length (keys.spell rows)
keys_size n rows e = let same : length (spell_each key_row key_bytes [] rows) ≡ length (flat_map (key_row []).spell rows) = ap length (spell_keys [] rows) in omega arith
