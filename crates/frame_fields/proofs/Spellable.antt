-- Which names, values, vectors and objects have a spelling: the rules of their types, and what frames ask
-- beside them.
use Rattle.std.proofs.Common.{◌≡◌, ℕ, ◌+◌, ◌*◌, ◌^◌, ◌<◌, ◌≤◌, leb, ◌↔◌, Bool, true, false, ◌&&◌, not, List, [], ◌∷◌, ◌++◌, length, All, Option, Some, None, refl, sym, ap, subst, ◌∙◌, arith}
use Rattle.std.specs.Int.{Width, w8, w16, w64, byte_len}
use Rattle.std.proofs.lemmas.Bool.{le-leb, leb-true}
use Rattle.std.specs.Cmp.{first_so, second_so}
use Rattle.std.proofs.lemmas.List.{length-append}
use Rattle.std.proofs.lemmas.List.Elements.{All-cons, All-nil, All-head, All-tail}
use Rattle.meta_types.specs.Actor.{IsWriter, writer_number, node_of_writer, incarnation_of_writer}
use Rattle.meta_types.specs.Name.{Prefix, Key, IsKey}
use Rattle.meta_types.specs.Value.{ValueParts, IsBody, IsValue}
use Rattle.dvvset.specs.Object.{Entry, Counter, RisesFrom, ids_of, ids_counted, IsCount, IsEntry, IsObject, IsCounter, IsVector}
use Rattle.std.specs.List.{flat_map, list_all}
use Rattle.std.proofs.lemmas.List.Concat.{flat_map-cons}
use Rattle.frame_fields.specs.declared.prefixes.PrefixDigest.{PrefixDigest}
use Rattle.frame_fields.specs.declared.keys.KeyDigest.{KeyDigest}
use Rattle.frame_fields.specs.Form.{Form, EachFits, spell_each}
use Rattle.frame_fields.specs.Field.{number, name, key, writer_from, node_before, counter_form, above_counter, vector, greatest_count, no_state, forget, body_form, tag_of, bytes_or_none, value, entry, above_entry, object, is_bare, has_value, node, nodes, digest, digests, place, prefix_row, prefix_of, lowest, prefixes, key_row, key_bytes, keys}
use Rattle.frame_fields.specs.Size.{IsShort, AreFew, IsShortKey}

-- what a number with a rule keeps
pub record IsWithin (low high n : ℕ) : Type 0 where
  pub least : low ≤ n
  pub most : n ≤ high

pub number_within : (w : Width) (low high n : ℕ) → (number w low high).Fits n → IsWithin low high n
number_within w low high n fits = record {
  least = leb-true low n (first_so (leb low n) (leb n high) fits.1);
  most = leb-true n high (second_so (leb low n) (leb n high) fits.1);
}

-- a number in its range fits
pub number_fits : (w : Width) (low high n : ℕ) → n < 2 ^ (8 * byte_len w) → low ≤ n → n ≤ high → (number w low high).Fits n
number_fits w low high n lt least most = (lt, (λ i. le-leb low n least i && le-leb n high most i))

-- ---- names

pub name_fits : (low high : ℕ) (bytes : List ℕ) → high < 2 ^ 16 → low ≤ length bytes → length bytes ≤ high → (name low high).Fits bytes
name_fits low high bytes lt least most = (number_fits w16 low high (length bytes) (omega arith) least most, refl)

pub key_fits : (k : Key) → IsKey k → key.Fits k
key_fits k is =
    ((name_fits 1 64 k.prefix.prefix (omega arith) is.0.0.0 is.0.0.1, name_fits 1 64 k.prefix.sub (omega arith) is.0.1.0 is.0.1.1), name_fits 1 256 k.key (omega arith) is.1.0 is.1.1)

-- ---- values

body_in_range : (body : Option (List ℕ)) → (body_form (tag_of body)).Fits (bytes_or_none body) → IsBody body
body_in_range None fits = tt
body_in_range (Some bytes) fits = (number_within w16 0 1024 (length bytes) fits.0).most

body_fits : (body : Option (List ℕ)) → IsBody body → (body_form (tag_of body)).Fits (bytes_or_none body)
body_fits None is = refl
body_fits (Some bytes) is = name_fits 0 1024 bytes (omega arith) (omega arith) is

tag_fits : (body : Option (List ℕ)) → (number w8 0 1).Fits (tag_of body)
tag_fits None = number_fits w8 0 1 0 (omega arith) (omega arith) (omega arith)
tag_fits (Some bytes) = number_fits w8 0 1 1 (omega arith) (omega arith) (omega arith)

pub value_in_range : (v : ValueParts) → value.Fits v → IsValue v
value_in_range v fits = (fits.1.0, body_in_range v.body fits.1.1)

pub value_fits : (v : ValueParts) → IsValue v → value.Fits v
value_fits v is = (tag_fits v.body, (is.0, body_fits v.body is.1))

values_in_range : (vs : List ValueParts) → EachFits (λ (_ : ℕ). value) forget no_state vs → All IsValue vs
values_in_range [] fits = All-nil IsValue
values_in_range (v ∷ vs) fits = All-cons IsValue v vs (value_in_range v fits.0) (values_in_range vs fits.1)

values_fit : (vs : List ValueParts) → All IsValue vs → EachFits (λ (_ : ℕ). value) forget no_state vs
values_fit [] all = tt
values_fit (v ∷ vs) all = (value_fits v (All-head IsValue v vs all), values_fit vs (All-tail IsValue v vs all))

-- ---- writers

pub writer_again : (w : ℕ) → writer_number (node_of_writer w) (incarnation_of_writer w) ≡ w
writer_again w = omega arith

-- what a writer that has a spelling keeps
pub record IsWriterFrom (low w : ℕ) : Type 0 where
  pub least : low ≤ w
  pub writer : IsWriter w

pub writer_within : (low w : ℕ) → (writer_from low).Fits w → IsWriterFrom low w
writer_within low w fits =
    let node = number_within w16 (node_before low) 15 (node_of_writer w) fits.0 in
    record {
      least = subst (λ n. low ≤ n) (writer_again w) (leb-true low (writer_number (node_of_writer w) (incarnation_of_writer w)) fits.1.1);
      writer = omega (arith, node.most);
    }

pub writer_fits : (low w : ℕ) → low ≤ w → IsWriter w → (writer_from low).Fits w
writer_fits low w least is = (
  number_fits w16 (node_before low) 15 (node_of_writer w) (omega (arith, is)) (omega (arith, least)) (omega (arith, is)),
  (omega arith, le-leb low (writer_number (node_of_writer w) (incarnation_of_writer w)) (omega (arith, least))),
)

-- ---- vectors

count_in_range : (n : ℕ) → (number w64 1 greatest_count).Fits n → IsCount n
count_in_range n fits = let within = number_within w64 1 greatest_count n fits in record { least = within.least; most = omega (arith, within.most) }

count_fits : (n : ℕ) → IsCount n → (number w64 1 greatest_count).Fits n
count_fits n is = number_fits w64 1 greatest_count n is.most is.least (omega (arith, is.most))

counter_in_range : (low : ℕ) (c : Counter) → (counter_form low).Fits c → IsCounter c
counter_in_range low c fits = record { writer = (writer_within low c.id fits.0).writer; counted = count_in_range c.count fits.1 }

counters_rise : (low : ℕ) (cs : List Counter) → EachFits counter_form above_counter low cs → RisesFrom low (ids_counted cs)
counters_rise low [] fits = tt
counters_rise low (c ∷ cs) fits = ((writer_within low c.id fits.0.0).least, counters_rise (c.id + 1) cs fits.1)

counters_in_range : (low : ℕ) (cs : List Counter) → EachFits counter_form above_counter low cs → All IsCounter cs
counters_in_range low [] fits = All-nil IsCounter
counters_in_range low (c ∷ cs) fits = All-cons IsCounter c cs (counter_in_range low c fits.0) (counters_in_range (c.id + 1) cs fits.1)

pub vector_in_range : (cs : List Counter) → vector.Fits cs → IsVector cs
vector_in_range cs fits = record { rising = counters_rise 0 cs fits.1.1; counters = counters_in_range 0 cs fits.1.1 }

pub few_counters : (cs : List Counter) → vector.Fits cs → AreFew cs
few_counters cs fits = let few = number_within w16 1 65535 (length cs) fits.0 in omega (arith, few.most)

counters_fit : (low : ℕ) (cs : List Counter) → RisesFrom low (ids_counted cs) → All IsCounter cs → EachFits counter_form above_counter low cs
counters_fit low [] rises all = tt
counters_fit low (c ∷ cs) rises all =
    let one = All-head IsCounter c cs all in
    ((writer_fits low c.id rises.0 one.writer, count_fits c.count one.counted), counters_fit (c.id + 1) cs rises.1 (All-tail IsCounter c cs all))

pub vector_fits : (cs : List Counter) → IsVector cs → AreFew cs → 1 ≤ length cs → vector.Fits cs
vector_fits cs is few least = (number_fits w16 1 65535 (length cs) few least (omega (arith, few)), (refl, counters_fit 0 cs is.rising is.counters))

-- a count of counters tells whether they are a vector that has a spelling
pub counted_vector : (cs counters : List Counter) (is_count : Bool) → counters ≡ cs → IsVector cs → (is_count ≡ true) ↔ ((1 ≤ length counters) × (length counters < 2 ^ 16)) → (is_count ≡ true) ↔ vector.Fits cs
counted_vector cs counters is_count same is tells = (
  (λ yes. let count = subst (λ xs. (1 ≤ length xs) × (length xs < 2 ^ 16)) same (tells.0 yes) in vector_fits cs is count.1 count.0),
  (λ fits. tells.1 (subst (λ xs. (1 ≤ length xs) × (length xs < 2 ^ 16)) (sym same) ((number_within w16 1 65535 (length cs) fits.0).least, few_counters cs fits))),
)

counters_size : (low : ℕ) (cs : List Counter) → length (spell_each counter_form above_counter low cs) ≡ 14 * length cs
counters_size low [] = refl
counters_size low (c ∷ cs) = let rest : length (spell_each counter_form above_counter (c.id + 1) cs) ≡ 14 * length cs = counters_size (c.id + 1) cs in omega arith

pub vector_size : (cs : List Counter) → 2 + 14 * length cs ≡ length (vector.spell cs)
vector_size cs = let n : length (spell_each counter_form above_counter 0 cs) ≡ 14 * length cs = counters_size 0 cs in omega arith

-- ---- objects

entry_in_range : (low : ℕ) (e : Entry) → (entry low).Fits e → IsEntry e
entry_in_range low e fits =
    let many = number_within w16 0 e.count (length e.values) fits.1.1.0 in
    record { writer = (writer_within low e.id fits.0).writer; counted = count_in_range e.count fits.1.0; within = many.most; written = values_in_range e.values fits.1.1.1.1 }

pub entries_rise : (low : ℕ) (es : List Entry) → EachFits entry above_entry low es → RisesFrom low (ids_of es)
entries_rise low [] fits = tt
entries_rise low (e ∷ es) fits = ((writer_within low e.id fits.0.0).least, entries_rise (e.id + 1) es fits.1)

pub entries_in_range : (low : ℕ) (es : List Entry) → EachFits entry above_entry low es → All IsEntry es
entries_in_range low [] fits = All-nil IsEntry
entries_in_range low (e ∷ es) fits = All-cons IsEntry e es (entry_in_range low e fits.0) (entries_in_range (e.id + 1) es fits.1)

short_entry : (low : ℕ) (e : Entry) → (entry low).Fits e → IsShort e
short_entry low e fits = fits.1.1.0.0

short_entries : (low : ℕ) (es : List Entry) → EachFits entry above_entry low es → All IsShort es
short_entries low [] fits = All-nil IsShort
short_entries low (e ∷ es) fits = All-cons IsShort e es (short_entry low e fits.0) (short_entries (e.id + 1) es fits.1)

entries_fit : (low : ℕ) (es : List Entry) → RisesFrom low (ids_of es) → All IsEntry es → All IsShort es → EachFits entry above_entry low es
entries_fit low [] rises all short = tt
entries_fit low (e ∷ es) rises all short =
    let one = All-head IsEntry e es all in
    let few : length e.values < 2 ^ 16 = All-head IsShort e es short in (
      (
        writer_fits low e.id rises.0 one.writer,
        (count_fits e.count one.counted, (number_fits w16 0 e.count (length e.values) few (omega arith) one.within, (refl, values_fit e.values one.written))),
      ),
      entries_fit (e.id + 1) es rises.1 (All-tail IsEntry e es all) (All-tail IsShort e es short),
    )

-- what an object that has a spelling keeps beside its own rule
pub record HasSpelling (es : List Entry) : Type 0 where
  pub object : IsObject es
  pub few : AreFew es
  pub short : All IsShort es
  pub shows : has_value es ≡ true

pub spelled_object : (es : List Entry) → object.Fits es → HasSpelling es
spelled_object es fits =
    let few = number_within w16 1 65535 (length es) fits.0.0 in
    record {
      object = record { rising = entries_rise 0 es fits.0.1.1; entries = entries_in_range 0 es fits.0.1.1 };
      few = omega (arith, few.most);
      short = short_entries 0 es fits.0.1.1;
      shows = fits.1;
    }

one_at_least : (es : List Entry) → has_value es ≡ true → 1 ≤ length es
one_at_least [] shows = cc
one_at_least (e ∷ es) shows = omega arith

pub object_fits : (es : List Entry) → IsObject es → AreFew es → All IsShort es → has_value es ≡ true → object.Fits es
object_fits es is few short shows =
    ((number_fits w16 1 65535 (length es) few (one_at_least es shows) (omega (arith, few)), (refl, entries_fit 0 es is.rising is.entries short)), shows)

-- ---- one after another: what is spelled depends on nothing but the values

spell_any : {S A : Type 0} (form : S → Form A) (next : A → S) (spell : A → List ℕ) → ((s : S) (x : A) → (form s).spell x ≡ spell x) → (s : S) (xs : List A) → spell_each form next s xs ≡ flat_map spell xs
spell_any form next spell same s [] = refl
spell_any form next spell same s (x ∷ xs) =
    (λ i. same s x i ++ spell_each form next (next x) xs) ∙ ap (λ bytes. spell x ++ bytes) (spell_any form next spell same (next x) xs) ∙ sym (flat_map-cons spell x xs)

pub spell_plain : {A : Type 0} (form : Form A) (xs : List A) → spell_each (λ (_ : ℕ). form) forget no_state xs ≡ flat_map form.spell xs
spell_plain form xs = spell_any (λ (_ : ℕ). form) forget form.spell (λ s x. refl) no_state xs

pub spell_counters : (low : ℕ) (cs : List Counter) → spell_each counter_form above_counter low cs ≡ flat_map (counter_form 0).spell cs
spell_counters low cs = spell_any counter_form above_counter (counter_form 0).spell (λ s x. refl) low cs

pub spell_entries : (low : ℕ) (es : List Entry) → spell_each entry above_entry low es ≡ flat_map (entry 0).spell es
spell_entries low es = spell_any entry above_entry (entry 0).spell (λ s x. refl) low es

pub spell_prefixes : (low : Prefix) (rows : List PrefixDigest) → spell_each prefix_row prefix_of low rows ≡ flat_map (prefix_row lowest).spell rows
spell_prefixes low rows = spell_any prefix_row prefix_of (prefix_row lowest).spell (λ s x. refl) low rows

pub spell_keys : (low : List ℕ) (rows : List KeyDigest) → spell_each key_row key_bytes low rows ≡ flat_map (key_row []).spell rows
spell_keys low rows = spell_any key_row key_bytes (key_row []).spell (λ s x. refl) low rows

-- ---- nodes, digests and rows

nodes_size : (ns : List ℕ) → length (spell_each (λ (_ : ℕ). node) forget no_state ns) ≡ 2 * length ns
nodes_size [] = refl
nodes_size (n ∷ ns) = let rest : length (spell_each (λ (_ : ℕ). node) forget no_state ns) ≡ 2 * length ns = nodes_size ns in omega arith

pub all_nodes_size : (ns : List ℕ) → 2 + 2 * length ns ≡ length (nodes.spell ns)
all_nodes_size ns = let n : length (spell_each (λ (_ : ℕ). node) forget no_state ns) ≡ 2 * length ns = nodes_size ns in omega arith

digests_size : (ds : List (List ℕ)) → EachFits (λ (_ : ℕ). digest) forget no_state ds → length (spell_each (λ (_ : ℕ). digest) forget no_state ds) ≡ 32 * length ds
digests_size [] fits = refl
digests_size (d ∷ ds) fits =
    let rest : length (spell_each (λ (_ : ℕ). digest) forget no_state ds) ≡ 32 * length ds = digests_size ds fits.1 in
    let one : length d ≡ 32 = fits.0 in
    omega (arith, length-append d (spell_each (λ (_ : ℕ). digest) forget no_state ds))

pub sixteen_size : (ds : List (List ℕ)) → digests.Fits ds → 512 ≡ length (digests.spell ds)
sixteen_size ds fits =
    let n : length (spell_each (λ (_ : ℕ). digest) forget no_state ds) ≡ 32 * length ds = digests_size ds fits.1 in
    let many : length ds ≡ 16 = fits.0 in
    omega arith

short_rows : (low : List ℕ) (rows : List KeyDigest) → EachFits key_row key_bytes low rows → All IsShortKey rows
short_rows low [] fits = All-nil IsShortKey
short_rows low (row ∷ rows) fits =
    All-cons IsShortKey row rows (number_within w16 1 256 (length row.key) fits.0.0.0).most (short_rows row.key rows fits.1)

pub short_keys : (rows : List KeyDigest) → keys.Fits rows → All IsShortKey rows
short_keys rows fits = short_rows [] rows fits.1.1

pub few_keys : (rows : List KeyDigest) → keys.Fits rows → length rows ≤ 8192
few_keys rows fits = (number_within w16 0 8192 (length rows) fits.0).most

pub few_prefixes : (rows : List PrefixDigest) → prefixes.Fits rows → length rows ≤ 8192
few_prefixes rows fits = (number_within w16 0 8192 (length rows) fits.0).most

pub place_fits : (n : ℕ) → n < 16 → place.Fits n
place_fits n lt = number_fits w8 0 15 n (omega arith) (omega arith) (omega arith)

-- ---- what the tests of an object answer

pub shown_object : (es entries : List Entry) (bare : Bool) → entries ≡ es → IsObject es → AreFew entries → All IsShort entries → bare ≡ list_all is_bare entries → (not bare ≡ true) ↔ object.Fits es
shown_object es entries bare same is few short bare_is =
    let shows : has_value es ≡ not bare = (λ i. not (list_all is_bare (sym same i))) ∙ ap not (sym bare_is) in
    ((λ h. object_fits es is (subst AreFew same few) (subst (λ xs. All IsShort xs) same short) (shows ∙ h)), (λ fits. sym shows ∙ (spelled_object es fits).shows))

pub long_object : (es entries : List Entry) (short : Bool) → entries ≡ es → (short ≡ true) ↔ All IsShort entries → short ≡ false → (short ≡ true) ↔ object.Fits es
long_object es entries short same tells is_false =
    ((λ h. cc), (λ fits. tells.1 (subst (λ xs. All IsShort xs) (sym same) (spelled_object es fits).short)))
