-- The messages of an exchange, round by round: what the answers to a round are, and that a round of
-- digests changes nothing.
use Rattle.std.proofs.Common.{◌≡◌, ℕ, ◌+◌, ◌*◌, Bool, true, false, cond, not, nat_le, List, [], ◌∷◌, ◌++◌, map, All, Option, Some, None, unwrap_or, refl, ap, ◌∙◌}
use Rattle.std.proofs.lemmas.List.Elements.{All-append, All-cons, All-head, All-nil, All-tail}
use Rattle.std.specs.FinMap.{find}
use Rattle.meta_types.specs.Name.{Key}
use Rattle.meta_types.specs.Order.{key_cmp}
use Rattle.meta_types.specs.First.{first_that_applies}
use Rattle.dvvset.specs.Object.{Entry, IsEntry, IsObject}
use Rattle.dvvset.specs.Clock.{join}
use Rattle.dvvset.proofs.Writers.{IsObject-sync}
use Rattle.meta_frame.specs.declared.message.Message.{Message}
use Rattle.meta_frame.specs.declared.message.Message.TheVariants.{XRoot, XPrefixes, XInner, XLeaves, XBucket, XObject, XWant}
use Rattle.meta_store.specs.Step.{is_full_for, merge_of, refusal_of_sync}
use Rattle.meta_store.specs.Table.{IsTable, Table, is_stale, object_at, with_object}
use Rattle.meta_store.specs.declared.fault.StoreFault.{StoreFault}
use Rattle.meta_store.specs.declared.fault.StoreFault.TheVariants.{BadEntries, ObjectTooLarge, StoreFull}
use Rattle.meta_store.proofs.Tables.{IsRow, found_row, table_put}
use Rattle.hash_tree.specs.Tree.{Digest, leaf_digests, prefix_roots, rows_of, tree_root}
use Rattle.hash_tree.specs.Hashed.{rows_below}
use Rattle.exchange.specs.Answers.{answer_key, answers_to, bucket_message, inner_message, leaves_message, object_if_held, object_messages, want_if_listed, want_messages}
use Rattle.exchange.specs.Sides.{differing_places, same_digest}
use Rattle.exchange.specs.Whole.{answers_in_turn, answers_to_all, refusal_of_one, table_after, table_after_all}
use Rattle.node_core.proofs.Answering.{All-flat_map, All-mapped}

-- ---- the rounds, by the messages that each of them has

abbrev pub IsRoot : Message → Type 0
IsRoot (XRoot root) = Unit {0}
IsRoot _ = ⊥

abbrev pub IsPrefixes : Message → Type 0
IsPrefixes (XPrefixes theirs) = Unit {0}
IsPrefixes _ = ⊥

abbrev pub IsInner : Message → Type 0
IsInner (XInner p theirs) = Unit {0}
IsInner _ = ⊥

abbrev pub IsLeaves : Message → Type 0
IsLeaves (XLeaves p inner theirs) = Unit {0}
IsLeaves _ = ⊥

abbrev pub IsBucket : Message → Type 0
IsBucket (XBucket p leaf theirs) = Unit {0}
IsBucket _ = ⊥

-- an object as a table holds one, or a want
abbrev pub IsOffer : Message → Type 0
IsOffer (XObject key object) = IsRow key object
IsOffer (XWant key) = Unit {0}
IsOffer _ = ⊥

abbrev pub BringsObject : Message → Type 0
BringsObject (XObject key object) = IsRow key object
BringsObject _ = ⊥

-- any message that has digests
abbrev pub HasDigests : Message → Type 0
HasDigests (XRoot root) = Unit {0}
HasDigests (XPrefixes theirs) = Unit {0}
HasDigests (XInner p theirs) = Unit {0}
HasDigests (XLeaves p inner theirs) = Unit {0}
HasDigests (XBucket p leaf theirs) = Unit {0}
HasDigests _ = ⊥

-- any message of an exchange
abbrev pub IsOfExchange : Message → Type 0
IsOfExchange (XRoot root) = Unit {0}
IsOfExchange (XPrefixes theirs) = Unit {0}
IsOfExchange (XInner p theirs) = Unit {0}
IsOfExchange (XLeaves p inner theirs) = Unit {0}
IsOfExchange (XBucket p leaf theirs) = Unit {0}
IsOfExchange (XObject key object) = IsRow key object
IsOfExchange (XWant key) = Unit {0}
IsOfExchange _ = ⊥

pub roots_are : (m : Message) → IsRoot m → HasDigests m
roots_are (XRoot root) is = tt
roots_are _ is = absurd is

-- each kind of a round of digests has digests
pub prefixes_are : (m : Message) → IsPrefixes m → HasDigests m
prefixes_are (XPrefixes theirs) is = tt
prefixes_are _ is = absurd is

pub inner_are : (m : Message) → IsInner m → HasDigests m
inner_are (XInner p theirs) is = tt
inner_are _ is = absurd is

pub leaves_are : (m : Message) → IsLeaves m → HasDigests m
leaves_are (XLeaves p inner theirs) is = tt
leaves_are _ is = absurd is

pub buckets_are : (m : Message) → IsBucket m → HasDigests m
buckets_are (XBucket p leaf theirs) is = tt
buckets_are _ is = absurd is

-- and each message of a round is of an exchange
pub digests_are : (m : Message) → HasDigests m → IsOfExchange m
digests_are (XRoot root) is = tt
digests_are (XPrefixes theirs) is = tt
digests_are (XInner p theirs) is = tt
digests_are (XLeaves p inner theirs) is = tt
digests_are (XBucket p leaf theirs) is = tt
digests_are _ is = absurd is

pub offers_are : (m : Message) → IsOffer m → IsOfExchange m
offers_are (XObject key object) is = is
offers_are (XWant key) is = tt
offers_are _ is = absurd is

pub objects_are : (m : Message) → BringsObject m → IsOfExchange m
objects_are (XObject key object) is = is
objects_are _ is = absurd is

-- ---- what a message of a round is answered is of the next one

-- a list of one
one : (P : Message → Type 0) (m : Message) → P m → All P (m ∷ [])
one P m p = All-cons P m [] p (All-nil P)

-- a root is answered the roots of full prefixes, or nothing
pub prefixes_answer : (t : Table) → IsTable t → (m : Message) → IsRoot m → All IsPrefixes (answers_to t m)
unfolding answers_to
prefixes_answer t table (XRoot root) is =
    elim (same_digest root (tree_root (rows_of t))) as (λ b. All IsPrefixes (cond b [] (XPrefixes (prefix_roots (rows_of t)) ∷ []))) [
      | true ↦ All-nil IsPrefixes
      | false ↦ one IsPrefixes (XPrefixes (prefix_roots (rows_of t))) tt
    ]
prefixes_answer t table _ is = absurd is

-- those the digests of inner nodes
pub inner_answer : (t : Table) → IsTable t → (m : Message) → IsPrefixes m → All IsInner (answers_to t m)
unfolding answers_to
inner_answer t table (XPrefixes theirs) is = All-mapped IsInner (inner_message t) (λ p. tt) _
inner_answer t table _ is = absurd is

-- those the digests of leaves
pub leaves_answer : (t : Table) → IsTable t → (m : Message) → IsInner m → All IsLeaves (answers_to t m)
unfolding answers_to
leaves_answer t table (XInner p theirs) is = All-mapped IsLeaves (leaves_message t p) (λ n. tt) _
leaves_answer t table _ is = absurd is

-- those buckets
pub buckets_answer : (t : Table) → IsTable t → (m : Message) → IsLeaves m → All IsBucket (answers_to t m)
unfolding answers_to
buckets_answer t table (XLeaves p inner theirs) is =
    let bucket_at = λ (n : ℕ). bucket_message t p (16 * inner + n) in
    let places = differing_places theirs (leaf_digests (rows_below p t) inner) in
    elim (nat_le 16 inner) as (λ b. All IsBucket (cond b [] (map bucket_at places))) [
      | true ↦ All-nil IsBucket
      | false ↦ All-mapped IsBucket bucket_at (λ n. tt) places
    ]
buckets_answer t table _ is = absurd is

-- an object that is held is offered as it is held
object_offered : (t : Table) → IsTable t → (key : Key) (o : Option (List Entry)) → find key_cmp key t ≡ o → All IsOffer (object_messages key o)
object_offered t is key None found = All-nil IsOffer
object_offered t is key (Some object) found = one IsOffer (XObject key object) (found_row key t object is.held is.keys found)

-- a want is an offer
want_offered : (key : Key) (digest : Option Digest) → All IsOffer (want_messages key digest)
want_offered key None = All-nil IsOffer
want_offered key (Some digest) = one IsOffer (XWant key) tt

-- a bucket is answered objects and wants
pub offers_answer : (t : Table) → IsTable t → (m : Message) → IsBucket m → All IsOffer (answers_to t m)
unfolding answers_to
offers_answer t table (XBucket p leaf theirs) is =
    All-flat_map IsOffer (λ bytes. answer_key t theirs (record { prefix = p; key = bytes }))
    (λ bytes.
    let key : Key = record { prefix = p; key = bytes } in
    All-append IsOffer (object_if_held t key) (want_if_listed theirs key)
    (object_offered t table key (find key_cmp key t) refl) (want_offered key _))
    _
offers_answer t table _ is = absurd is

-- an object that is held is sent as it is held
object_answered : (t : Table) → IsTable t → (key : Key) (o : Option (List Entry)) → find key_cmp key t ≡ o → All BringsObject (object_messages key o)
object_answered t is key None found = All-nil BringsObject
object_answered t is key (Some object) found = one BringsObject (XObject key object) (found_row key t object is.held is.keys found)

-- of these a want is answered its object, if it is held, and an object nothing
pub objects_answer : (t : Table) → IsTable t → (m : Message) → IsOffer m → All BringsObject (answers_to t m)
unfolding answers_to
objects_answer t table (XWant key) is = object_answered t table key (find key_cmp key t) refl
objects_answer t table (XObject key object) is = All-nil BringsObject
objects_answer t table _ is = absurd is

-- an object has no answer
pub none_answers : (t : Table) (m : Message) → BringsObject m → answers_to t m ≡ []
unfolding answers_to
none_answers t (XObject key object) is = refl
none_answers t _ is = absurd is

-- ---- whole rounds

-- what is held after each message is a table
abbrev pub AreTables : Table → List Message → Type 0
AreTables t [] = Unit {0}
AreTables t (m ∷ ms) = IsTable (table_after t m) × AreTables (table_after t m) ms

-- what a round is answered is of the next one
pub turns_answer : (P Q : Message → Type 0) → ((t : Table) → IsTable t → (m : Message) → P m → All Q (answers_to t m))
    → (ms : List Message) (t : Table) → AreTables t ms → All P ms → All Q (answers_in_turn t ms)
turns_answer P Q each [] t tables all = All-nil Q
turns_answer P Q each (m ∷ ms) t tables all =
    All-append Q (answers_to (table_after t m) m) (answers_in_turn (table_after t m) ms)
    (each (table_after t m) tables.0 m (All-head P m ms all)) (turns_answer P Q each ms (table_after t m) tables.1 (All-tail P m ms all))

-- digests change nothing
quiet : (t : Table) (m : Message) → HasDigests m → table_after t m ≡ t
unfolding table_after
quiet t (XRoot root) is = refl
quiet t (XPrefixes theirs) is = refl
quiet t (XInner p theirs) is = refl
quiet t (XLeaves p inner theirs) is = refl
quiet t (XBucket p leaf theirs) is = refl
quiet t _ is = absurd is

-- so a round of digests changes nothing
pub quiet_all : (ms : List Message) (t : Table) → All HasDigests ms → table_after_all t ms ≡ t
quiet_all [] t all = refl
quiet_all (m ∷ ms) t all = ap (λ u. table_after_all u ms) (quiet t m (All-head HasDigests m ms all)) ∙ quiet_all ms t (All-tail HasDigests m ms all)

-- so each is answered from the table as it was
pub quiet_turns : (ms : List Message) (t : Table) → All HasDigests ms → answers_in_turn t ms ≡ answers_to_all t ms
quiet_turns [] t all = refl
quiet_turns (m ∷ ms) t all =
    let same : table_after t m ≡ t = quiet t m (All-head HasDigests m ms all) in
    (λ i. answers_to (same i) m ++ answers_in_turn (same i) ms)
    ∙ ap (λ rest. answers_to t m ++ rest) (quiet_turns ms t (All-tail HasDigests m ms all))

-- objects have no answer
pub no_turns : (ms : List Message) (t : Table) → All BringsObject ms → answers_in_turn t ms ≡ []
no_turns [] t all = refl
no_turns (m ∷ ms) t all =
    ap (λ front. front ++ answers_in_turn (table_after t m) ms) (none_answers (table_after t m) m (All-head BringsObject m ms all))
    ∙ no_turns ms (table_after t m) (All-tail BringsObject m ms all)

-- ---- a merge that isn't refused leaves a table

-- if none of three refusals applies, none of their tests holds
none_applies : (a b c : Bool) (x y z : StoreFault) → first_that_applies ((a, x) ∷ (b, y) ∷ (c, z) ∷ []) ≡ None → (a ≡ false) × ((b ≡ false) × (c ≡ false))
none_applies false false false x y z none = (refl, (refl, refl))
none_applies true b c x y z none = cc
none_applies false true c x y z none = cc
none_applies false false true x y z none = cc

-- what is not false is true
negated : (b : Bool) → not b ≡ false → b ≡ true
negated true e = refl
negated false e = cc

-- what is held under a key is lawful, also the absent object
found_lawful : (t : Table) → IsTable t → (key : Key) (o : Option (List Entry)) → find key_cmp key t ≡ o → IsObject (unwrap_or o [])
found_lawful t is key None e = record { rising = tt; entries = All-nil IsEntry }
found_lawful t is key (Some o) e = (found_row key t o is.held is.keys e).held.lawful

-- a table with a merge that may be held is a table
with_merge : (t : Table) → IsTable t → (key : Key) (came : List Entry) → IsRow key came → refusal_of_sync (object_at t key) came (is_full_for t key) ≡ None
    → IsTable (with_object key (merge_of t key came) t)
with_merge t is key came row none =
    let passed = none_applies _ _ _ BadEntries StoreFull ObjectTooLarge none in
    table_put key (merge_of t key came) t is row.key
    (record {
      lawful = IsObject-sync (object_at t key) came (found_lawful t is key (find key_cmp key t) refl) row.held.lawful;
      shows = negated _ passed.0;
      small = negated _ passed.1.1;
    })
    passed.1.0

-- and so it is if what came was stale
merge_kept : (t : Table) → IsTable t → (key : Key) (came : List Entry) → IsRow key came → (stale : Bool)
    → cond stale None (refusal_of_sync (object_at t key) came (is_full_for t key)) ≡ None
    → IsTable (cond stale t (with_object key (merge_of t key came) t))
merge_kept t is key came row true none = is
merge_kept t is key came row false none = with_merge t is key came row none

-- a message that isn't refused leaves a table
pub stays_table : (t : Table) (m : Message) → IsOfExchange m → IsTable t → refusal_of_one t m ≡ None → IsTable (table_after t m)
unfolding table_after refusal_of_one
stays_table t (XRoot root) of is none = is
stays_table t (XPrefixes theirs) of is none = is
stays_table t (XInner p theirs) of is none = is
stays_table t (XLeaves p inner theirs) of is none = is
stays_table t (XBucket p leaf theirs) of is none = is
stays_table t (XWant key) of is none = is
stays_table t (XObject key came) of is none = merge_kept t is key came of (is_stale t key (join came)) none
stays_table t _ of is none = absurd of
