-- A message that a node may send has a spelling, which is no longer than a frame may be.
use Rattle.std.proofs.Common.{◌≡◌, ℕ, suc, ◌+◌, ◌*◌, ◌^◌, ◌<◌, ◌≤◌, leb, true, List, [], ◌∷◌, ◌++◌, length, refl, arith}
use Rattle.std.specs.Int.{w8, w16, w32, to_be_bytes}
use Rattle.std.proofs.lemmas.Bool.{leb-true}
use Rattle.std.proofs.lemmas.List.{length-append}
use Rattle.dvvset.specs.Object.{Entry, Counter}
use Rattle.frame_fields.specs.declared.keys.KeyDigest.{KeyDigest}
use Rattle.frame_fields.specs.declared.neighbor.NeighborAnswer.{NeighborAnswer}
use Rattle.frame_fields.specs.declared.neighbor.NeighborAnswer.TheVariants.{No, Yes}
use Rattle.frame_fields.specs.declared.neighbor.Priority.{Priority}
use Rattle.frame_fields.specs.declared.neighbor.Priority.TheVariants.{Low, High}
use Rattle.frame_fields.specs.declared.prefixes.PrefixDigest.{PrefixDigest}
use Rattle.frame_fields.specs.Form.{EachFits, spell_each}
use Rattle.frame_fields.specs.Field.{answer, digests, key, key_bytes, key_row, keys, life, lowest, name, node, number, nodes, object, prefix, prefix_of, prefix_row, prefixes, priority, vector}
use Rattle.frame_fields.proofs.Spellable.{all_nodes_size, few_counters, few_keys, few_prefixes, key_fits, name_fits, number_fits, number_within, sixteen_size, vector_size}
use Rattle.meta_frame.specs.declared.message.Frame.{Frame}
use Rattle.meta_frame.specs.declared.message.Message.{Message}
use Rattle.meta_frame.specs.declared.message.Message.TheVariants.{Gossip, IHave, Graft, Prune, Join, ForwardJoin, Disconnect, Neighbor, NeighborReply, Shuffle, ShuffleReply, XRoot, XPrefixes, XInner, XLeaves, XBucket, XObject, XWant, Hello, Bye}
use Rattle.meta_frame.specs.Frame.{IsMessage, body, header, limit, spelling}
use Rattle.meta_store.specs.Table.{IsHeld, most_merged}
use Rattle.meta_store.proofs.Sizes.{held_fits, small_parts}
use Rattle.meta_types.specs.Name.{IsFullPrefix, Key, Prefix}
use Rattle.node_overlay.specs.Outbox.{IsSendable}

-- ---- fields

pub node_fits : (n : ℕ) → n < 16 → node.Fits n
node_fits n lt = number_fits w16 0 15 n (omega arith) (omega arith) (omega arith)

below_next : (n most : ℕ) → n < suc most → n ≤ most
below_next n most lt = omega arith

pub life_fits : (n : ℕ) → 1 ≤ n → n < 2 ^ 32 → life.Fits n
life_fits n least most = number_fits w32 1 4294967295 n most least (below_next n 4294967295 most)

pub prefix_fits : (p : Prefix) → IsFullPrefix p → prefix.Fits p
prefix_fits p is = (name_fits 1 64 p.prefix (omega arith) is.0.0 is.0.1, name_fits 1 64 p.sub (omega arith) is.1.0 is.1.1)

pub priority_fits : (p : Priority) → priority.Fits p
priority_fits Low = number_fits w8 0 1 0 (omega arith) (omega arith) (omega arith)
priority_fits High = number_fits w8 0 1 1 (omega arith) (omega arith) (omega arith)

pub answer_fits : (a : NeighborAnswer) → answer.Fits a
answer_fits No = number_fits w8 0 1 0 (omega arith) (omega arith) (omega arith)
answer_fits Yes = number_fits w8 0 1 1 (omega arith) (omega arith) (omega arith)

pub ruleset fields = (answer_fits, held_fits, key_fits, life_fits, node_fits, prefix_fits, priority_fits)

-- ---- lengths

-- one after the other
both_short : (a b : List ℕ) (m n most : ℕ) → length a ≤ m → length b ≤ n → leb (m + n) most ≡ true → length (a ++ b) ≤ most
both_short a b m n most first second le = omega (arith, length-append a b, leb-true (m + n) most le)

-- after so many bytes
after : (front bytes : List ℕ) (n most : ℕ) → length bytes ≤ n → leb (length front + n) most ≡ true → length (front ++ bytes) ≤ most
after front bytes n most short le = omega (arith, length-append front bytes, leb-true (length front + n) most le)

-- one more of those that are each at most so long
more_short : (a b : List ℕ) (most n : ℕ) → length a ≤ most → length b ≤ most * n → length (a ++ b) ≤ most * suc n
more_short a b most n one rest = omega (arith, length-append a b)

no_longer : (bytes : List ℕ) (n : ℕ) → length bytes ≡ n → length bytes ≤ n
no_longer bytes n is = omega arith

name_bound : (size most : ℕ) → size ≤ most → suc (suc size) ≤ 2 + most
name_bound size most le = omega arith

name_short : (low high : ℕ) (bytes : List ℕ) → (number w16 low high).Fits (length bytes) → length ((name low high).spell bytes) ≤ 2 + high
name_short low high bytes fits = name_bound (length bytes) high (number_within w16 low high (length bytes) fits).most

prefix_short : (p : Prefix) → (number w16 1 64).Fits (length p.prefix) → (number w16 1 64).Fits (length p.sub) → length (prefix.spell p) ≤ 132
prefix_short p first second =
    both_short ((name 1 64).spell p.prefix) ((name 1 64).spell p.sub) 66 66 132
    (name_short 1 64 p.prefix first) (name_short 1 64 p.sub second) refl

key_short : (k : Key) → key.Fits k → length (key.spell k) ≤ 390
key_short k fits =
    both_short (prefix.spell k.prefix) ((name 1 256).spell k.key) 132 258 390
    (prefix_short k.prefix fits.0.0.0 fits.0.1.0) (name_short 1 256 k.key fits.1.0) refl

vector_bound : (count size : ℕ) → 2 + 14 * count ≡ size → count < 2 ^ 16 → size ≤ 917504
vector_bound count size is few = omega arith

vector_short : (cs : List Counter) → vector.Fits cs → length (vector.spell cs) ≤ 917504
vector_short cs fits = vector_bound (length cs) (length (vector.spell cs)) (vector_size cs) (few_counters cs fits)

held_short : (es : List Entry) → IsHeld es → length (object.spell es) ≤ 16000000
held_short es is = (small_parts most_merged es is.small).short

nodes_bound : (count size : ℕ) → 2 + 2 * count ≡ size → count ≤ 16 → size ≤ 34
nodes_bound count size is few = omega arith

nodes_short : (ns : List ℕ) → nodes.Fits ns → length (nodes.spell ns) ≤ 34
nodes_short ns fits =
    nodes_bound (length ns) (length (nodes.spell ns)) (all_nodes_size ns) (number_within w16 0 16 (length ns) fits.0).most

digests_bound : (size : ℕ) → 512 ≡ size → size ≤ 512
digests_bound size is = omega arith

digests_short : (ds : List (List ℕ)) → digests.Fits ds → length (digests.spell ds) ≤ 512
digests_short ds fits = digests_bound (length (digests.spell ds)) (sixteen_size ds fits)

prefix_row_short : (low : Prefix) (row : PrefixDigest) → (prefix_row low).Fits row → length ((prefix_row low).spell row) ≤ 164
prefix_row_short low row fits =
    both_short (prefix.spell row.prefix) row.digest 132 32 164
    (prefix_short row.prefix fits.0.0.0 fits.0.1.0) (no_longer row.digest 32 fits.1) refl

prefix_rows_short : (low : Prefix) (rows : List PrefixDigest) → EachFits prefix_row prefix_of low rows → length (spell_each prefix_row prefix_of low rows) ≤ 164 * length rows
prefix_rows_short low [] fits = leb-true 0 0 refl
prefix_rows_short low (row ∷ rows) fits =
    more_short ((prefix_row low).spell row) (spell_each prefix_row prefix_of row.prefix rows) 164 (length rows)
    (prefix_row_short low row fits.0) (prefix_rows_short row.prefix rows fits.1)

prefixes_bound : (count size : ℕ) → count ≤ 8192 → size ≤ 164 * count → suc (suc size) ≤ 1343490
prefixes_bound count size few rows = omega arith

prefixes_short : (rows : List PrefixDigest) → prefixes.Fits rows → length (prefixes.spell rows) ≤ 1343490
prefixes_short rows fits =
    prefixes_bound (length rows) (length (spell_each prefix_row prefix_of lowest rows)) (few_prefixes rows fits) (prefix_rows_short lowest rows fits.1.1)

key_row_short : (low : List ℕ) (row : KeyDigest) → (key_row low).Fits row → length ((key_row low).spell row) ≤ 290
key_row_short low row fits =
    both_short ((name 1 256).spell row.key) row.digest 258 32 290
    (name_short 1 256 row.key fits.0.0) (no_longer row.digest 32 fits.1) refl

key_rows_short : (low : List ℕ) (rows : List KeyDigest) → EachFits key_row key_bytes low rows → length (spell_each key_row key_bytes low rows) ≤ 290 * length rows
key_rows_short low [] fits = leb-true 0 0 refl
key_rows_short low (row ∷ rows) fits =
    more_short ((key_row low).spell row) (spell_each key_row key_bytes row.key rows) 290 (length rows)
    (key_row_short low row fits.0) (key_rows_short row.key rows fits.1)

keys_bound : (count size : ℕ) → count ≤ 8192 → size ≤ 290 * count → suc (suc size) ≤ 2375682
keys_bound count size few rows = omega arith

keys_short : (rows : List KeyDigest) → keys.Fits rows → length (keys.spell rows) ≤ 2375682
keys_short rows fits =
    keys_bound (length rows) (length (spell_each key_row key_bytes [] rows)) (few_keys rows fits) (key_rows_short [] rows fits.1.1)

-- ---- messages

-- a frame without its header
abbrev longest : ℕ
longest = 16777196

carried_short : (k : Key) (o : List Entry) → key.Fits k → IsHeld o → length (key.spell k ++ object.spell o) ≤ 16000390
carried_short k o fits is = both_short (key.spell k) (object.spell o) 390 16000000 16000390 (key_short k fits) (held_short o is) refl

announced_short : (k : Key) (cs : List Counter) → key.Fits k → vector.Fits cs → length (key.spell k ++ vector.spell cs) ≤ 917894
announced_short k cs fits is = both_short (key.spell k) (vector.spell cs) 390 917504 917894 (key_short k fits) (vector_short cs is) refl

sendable_short : (m : Message) → IsSendable m → IsMessage m → length (body m) ≤ longest
sendable_short (Gossip round k o) is fits =
    after (to_be_bytes w16 round) (key.spell k ++ object.spell o) 16000390 longest (carried_short k o fits.1.0 is) refl
sendable_short (IHave round k v) is fits =
    after (to_be_bytes w16 round) (key.spell k ++ vector.spell v) 917894 longest (announced_short k v fits.1.0 is) refl
sendable_short (Graft round k v) is fits =
    after (to_be_bytes w16 round) (key.spell k ++ vector.spell v) 917894 longest (announced_short k v fits.1.0 is) refl
sendable_short Prune is fits = leb-true 0 longest refl
sendable_short Join is fits = leb-true 0 longest refl
sendable_short (ForwardJoin n ttl) is fits = leb-true 3 longest refl
sendable_short Disconnect is fits = leb-true 0 longest refl
sendable_short (Neighbor p) is fits = leb-true 1 longest refl
sendable_short (NeighborReply a) is fits = leb-true 1 longest refl
sendable_short (Shuffle origin ttl ns) is fits = after (to_be_bytes w16 origin ++ to_be_bytes w8 ttl) (nodes.spell ns) 34 longest (nodes_short ns fits.1.1) refl
sendable_short (ShuffleReply ns) is fits = after [] (nodes.spell ns) 34 longest (nodes_short ns fits) refl
sendable_short (XRoot d) is fits = after [] d 32 longest (no_longer d 32 fits) refl
sendable_short (XPrefixes rows) is fits = after [] (prefixes.spell rows) 1343490 longest (prefixes_short rows fits) refl
sendable_short (XInner p ds) is fits =
    both_short (prefix.spell p) (digests.spell ds) 132 512 longest
    (prefix_short p fits.0.0.0 fits.0.1.0) (digests_short ds fits.1) refl
sendable_short (XLeaves p inner ds) is fits =
    both_short (prefix.spell p) (to_be_bytes w8 inner ++ digests.spell ds) 132 513 longest
    (prefix_short p fits.0.0.0 fits.0.1.0) (after (to_be_bytes w8 inner) (digests.spell ds) 512 513 (digests_short ds fits.1.1) refl) refl
sendable_short (XBucket p leaf rows) is fits =
    both_short (prefix.spell p) (to_be_bytes w8 leaf ++ keys.spell rows) 132 2375683 longest
    (prefix_short p fits.0.0.0 fits.0.1.0) (after (to_be_bytes w8 leaf) (keys.spell rows) 2375682 2375683 (keys_short rows fits.1.1) refl) refl
sendable_short (XObject k o) is fits =
    after [] (key.spell k ++ object.spell o) 16000390 longest (carried_short k o fits.0 is) refl
sendable_short (XWant k) is fits = after [] (key.spell k) 390 longest (key_short k fits) refl
sendable_short (Hello l) is fits = leb-true 4 longest refl
sendable_short Bye is fits = leb-true 0 longest refl

-- the header has 20 bytes
pub frame_short : (f : Frame) → IsSendable f.message → IsMessage f.message → length (spelling f) ≤ limit
frame_short f is fits = after (header f) (body f.message) longest limit (sendable_short f.message is fits) refl
