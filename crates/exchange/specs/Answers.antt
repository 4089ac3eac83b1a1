-- What each message of an exchange is answered, from what is held at that time: an exchange has no
-- session. One definition for each row of the table, in its order. The rule is our own.
use Rattle.std.specs.Prelude.{ℕ, ◌+◌, ◌*◌, nat_le, List, [], ◌∷◌, ◌++◌, map, if◌then◌else◌, Option, Some, None}
use Rattle.std.specs.List.{flat_map}
use Rattle.std.specs.FinMap.{find}
use Rattle.meta_types.specs.Name.{Prefix, Key}
use Rattle.meta_types.specs.Order.{bytes_cmp, key_cmp, prefix_cmp}
use Rattle.dvvset.specs.Object.{Entry}
use Rattle.frame_fields.specs.Field.{key_row_parts, prefix_row_parts}
use Rattle.frame_fields.specs.declared.keys.KeyDigest.{KeyDigest}
use Rattle.frame_fields.specs.declared.prefixes.PrefixDigest.{PrefixDigest}
use Rattle.meta_frame.specs.declared.message.Message.{Message}
use Rattle.meta_frame.specs.declared.message.Message.TheVariants.{XRoot, XPrefixes, XInner, XLeaves, XBucket, XObject, XWant}
use Rattle.meta_store.specs.Table.{Table}
use Rattle.hash_tree.specs.Tree.{Digest, bucket, inner_digests, leaf_digests, prefix_roots, rows_of, tree_root, fan}
use Rattle.hash_tree.specs.Hashed.{rows_below}
use Rattle.exchange.specs.Sides.{differing_keys, differing_places, same_digest}

-- ---- XROOT: all own full prefixes with their roots, if the roots differ

abbrev pub answer_root : Table → Digest → List Message
answer_root table theirs =
    if same_digest theirs (tree_root (rows_of table))
    then []
    else XPrefixes (prefix_roots (rows_of table)) ∷ []

-- ---- XPREFIXES: for each full prefix of either side that differs or stands on one side, in order,
-- XINNER with the own digests

abbrev pub inner_message : Table → Prefix → Message
inner_message table p = XInner p (inner_digests (rows_below p table))

abbrev pub answer_prefixes : Table → List PrefixDigest → List Message
answer_prefixes table theirs =
    map (inner_message table) (differing_keys prefix_cmp (map prefix_row_parts theirs)
    (map prefix_row_parts (prefix_roots (rows_of table))))

-- ---- XINNER: for each inner node that differs, in order, XLEAVES with the own digests

abbrev pub leaves_message : Table → Prefix → ℕ → Message
leaves_message table p inner = XLeaves p inner (leaf_digests (rows_below p table) inner)

abbrev pub answer_inner : Table → Prefix → List Digest → List Message
answer_inner table p theirs =
    map (leaves_message table p) (differing_places theirs (inner_digests (rows_below p table)))

-- ---- XLEAVES: for each leaf that differs, in order, XBUCKET with the own keys; there may be none

abbrev pub bucket_message : Table → Prefix → ℕ → Message
bucket_message table p leaf = XBucket p leaf (bucket (rows_below p table) leaf)

-- there are sixteen inner nodes, and no frame carries the leaves of another one: under another
-- number no leaf stands, so none differs
abbrev pub answer_leaves : Table → Prefix → ℕ → List Digest → List Message
answer_leaves table p inner theirs =
    if nat_le fan inner
    then []
    else map (λ place. bucket_message table p (fan * inner + place))
    (differing_places theirs (leaf_digests (rows_below p table) inner))

-- ---- XBUCKET: for each key of either side that differs or stands on one side, in order, XOBJECT
-- if it is held, then XWANT if the other side listed it

abbrev pub object_messages : Key → Option (List Entry) → List Message
object_messages key None = []
object_messages key (Some object) = XObject key object ∷ []

abbrev pub object_if_held : Table → Key → List Message
object_if_held table key = object_messages key (find key_cmp key table)

abbrev pub want_messages : Key → Option Digest → List Message
want_messages key None = []
want_messages key (Some digest) = XWant key ∷ []

abbrev pub want_if_listed : List KeyDigest → Key → List Message
want_if_listed theirs key =
    want_messages key (find bytes_cmp key.key (map key_row_parts theirs))

abbrev pub answer_key : Table → List KeyDigest → Key → List Message
answer_key table theirs key = object_if_held table key ++ want_if_listed theirs key

abbrev pub answer_bucket : Table → Prefix → ℕ → List KeyDigest → List Message
answer_bucket table p leaf theirs =
    flat_map (λ bytes. answer_key table theirs (record { prefix = p; key = bytes }))
    (differing_keys bytes_cmp (map key_row_parts theirs)
    (map key_row_parts (bucket (rows_below p table) leaf)))

-- ---- all messages: XWANT is answered by XOBJECT if it is held; XOBJECT, and what belongs to no
-- exchange, has no answer

unfoldable pub answers_to : Table → Message → List Message
answers_to table (XRoot root) = answer_root table root
answers_to table (XPrefixes theirs) = answer_prefixes table theirs
answers_to table (XInner p theirs) = answer_inner table p theirs
answers_to table (XLeaves p inner theirs) = answer_leaves table p inner theirs
answers_to table (XBucket p leaf theirs) = answer_bucket table p leaf theirs
answers_to table (XWant key) = object_if_held table key
answers_to table (XObject key object) = []
answers_to table _ = []
