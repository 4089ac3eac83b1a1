-- Frames: a header of 20 bytes, and a body for each kind of message.
use Rattle.std.specs.Prelude.{◌≡◌, ℕ, ◌+◌, ◌-◌, ◌<◌, ◌≤◌, ◌^◌, ◌==◌, ◌≢◌, nat_lt, nat_le, ◌⊎◌, List, [], ◌∷◌, ◌++◌, length, take, drop, Bool, not, ◌&&◌, ◌||◌, MatchOption, codes}
use Rattle.std.specs.Int.{Width, byte_len, w8, w16, w32, w64, to_be_bytes, from_be_bytes}
use Rattle.meta_types.specs.Node.{most_nodes}
use Rattle.meta_frame.specs.declared.message.Message.{Message}
use Rattle.meta_frame.specs.declared.message.Message.TheVariants.{Gossip, IHave, Graft, Prune, Join, ForwardJoin, Disconnect, Neighbor, NeighborReply, Shuffle, ShuffleReply, XRoot, XPrefixes, XInner, XLeaves, XBucket, XObject, XWant, Hello, Bye}
use Rattle.meta_frame.specs.declared.message.Frame.{Frame}
use Rattle.meta_frame.specs.declared.fault.FrameFault.{FrameFault}
use Rattle.meta_frame.specs.declared.fault.FrameFault.TheVariants.{Short, BadMagic, BadVersion, BadKind, TooLong, BadBody, LeftOver}
use Rattle.frame_fields.specs.declared.keys.KeyDigest.{KeyDigest}
use Rattle.frame_fields.specs.Form.{Form, any_number, no_bytes, then_form}
use Rattle.frame_fields.specs.Field.{node, nodes, priority, answer, digest, digests, place, prefix, prefixes, keys, key, vector, object, life}
use Rattle.meta_types.specs.Name.{Prefix, Key}
use Rattle.meta_types.specs.First.{first_that_applies}
use Rattle.dvvset.specs.Object.{Entry, Counter}

-- ---- the forms of bodies

-- a body without fields
abbrev pub no_fields : Form (Unit {0})
no_fields = no_bytes tt

-- a round, a key and an object
abbrev pub gossip : Form (ℕ × (Key × List Entry))
gossip = then_form (any_number w16) (λ _. then_form key (λ _. object))

-- a round, a key and a vector
abbrev pub announcement : Form (ℕ × (Key × List Counter))
announcement = then_form (any_number w16) (λ _. then_form key (λ _. vector))

-- a node and a ttl
abbrev pub forward_join : Form (ℕ × ℕ)
forward_join = then_form node (λ _. any_number w8)

-- the node where a walk began, a ttl, and nodes
abbrev pub shuffle : Form (ℕ × (ℕ × List ℕ))
shuffle = then_form node (λ _. then_form (any_number w8) (λ _. nodes))

-- a prefix, and the digests of its sixteen inner nodes
abbrev pub inner_digests : Form (Prefix × List (List ℕ))
inner_digests = then_form prefix (λ _. digests)

-- a prefix, the number of an inner node, and the digests of its sixteen leaves
abbrev pub leaf_digests : Form (Prefix × (ℕ × List (List ℕ)))
leaf_digests = then_form prefix (λ _. then_form place (λ _. digests))

-- a prefix, the number of a leaf, and its keys with their digests
abbrev pub bucket : Form (Prefix × (ℕ × List KeyDigest))
bucket = then_form prefix (λ _. then_form (any_number w8) (λ _. keys))

-- a key and an object
abbrev pub key_and_object : Form (Key × List Entry)
key_and_object = then_form key (λ _. object)

-- ---- the table of kinds

-- what a message is by its kind: the kind's number and name, the bytes of its body, whether its
-- fields have a spelling, and which bytes are at fault in a body of the kind
pub record Row : Type 1 where
  pub number : ℕ
  pub name : List ℕ
  pub body : List ℕ
  pub Fits : Type 0
  pub Bad : List ℕ → ℕ → Type 0

-- a row by the number of the kind, its name, the form of its body, and the parts of a body
abbrev pub kind : {A : Type 0} → ℕ → List ℕ → Form A → A → Row
kind number name form parts =
    record {
      number = number;
      name = name;
      body = form.spell parts;
      Fits = form.Fits parts;
      Bad = form.Bad;
    }

abbrev pub row_of : Message → Row
row_of (Gossip round k o) = kind 1 (codes "GOSSIP") gossip (round, (k, o))
row_of (IHave round k v) = kind 2 (codes "IHAVE") announcement (round, (k, v))
row_of (Graft round k v) = kind 3 (codes "GRAFT") announcement (round, (k, v))
row_of Prune = kind 4 (codes "PRUNE") no_fields tt
row_of Join = kind 5 (codes "JOIN") no_fields tt
row_of (ForwardJoin n ttl) = kind 6 (codes "FORWARDJOIN") forward_join (n, ttl)
row_of Disconnect = kind 7 (codes "DISCONNECT") no_fields tt
row_of (Neighbor p) = kind 8 (codes "NEIGHBOR") priority p
row_of (NeighborReply a) = kind 9 (codes "NEIGHBORREPLY") answer a
row_of (Shuffle origin ttl ns) = kind 10 (codes "SHUFFLE") shuffle (origin, (ttl, ns))
row_of (ShuffleReply ns) = kind 11 (codes "SHUFFLEREPLY") nodes ns
row_of (XRoot d) = kind 12 (codes "XROOT") digest d
row_of (XPrefixes rs) = kind 13 (codes "XPREFIXES") prefixes rs
row_of (XInner p ds) = kind 14 (codes "XINNER") inner_digests (p, ds)
row_of (XLeaves p i ds) = kind 15 (codes "XLEAVES") leaf_digests (p, (i, ds))
row_of (XBucket p leaf rs) = kind 16 (codes "XBUCKET") bucket (p, (leaf, rs))
row_of (XObject k o) = kind 17 (codes "XOBJECT") key_and_object (k, o)
row_of (XWant k) = kind 18 (codes "XWANT") key k
row_of (Hello l) = kind 19 (codes "HELLO") life l
row_of Bye = kind 20 (codes "BYE") no_fields tt

-- the kinds are the numbers from 1 to this one
abbrev pub last_kind : ℕ
last_kind = 20

abbrev pub is_kind : ℕ → Bool
is_kind number = nat_le 1 number && nat_le number last_kind

abbrev pub kind_of : Message → ℕ
kind_of m = (row_of m).number

abbrev pub name_of : Message → List ℕ
name_of m = (row_of m).name

abbrev pub body : Message → List ℕ
body m = (row_of m).body

-- the fields of the message have a spelling
abbrev pub IsMessage : Message → Type 0
IsMessage m = (row_of m).Fits

-- a field of a body of this kind is at fault; the messages of a kind have one form, so any of them
-- serves
pub record BadFields (number : ℕ) (bytes : List ℕ) (left : ℕ) : Type 0 where
  pub message : Message
  pub kind_is : number ≡ kind_of message
  pub bad : (row_of message).Bad bytes left

-- ---- frames

-- the most bytes of a frame
abbrev pub limit : ℕ
limit = 16777216

-- 50 54 (hexadecimal), version 2, kind, sender, addressee, number, length of the body
abbrev pub header : Frame → List ℕ
header f =
    to_be_bytes w16 20564 ++ to_be_bytes w8 2 ++ to_be_bytes w8 (kind_of f.message)
    ++ to_be_bytes w16 f.from ++ to_be_bytes w16 f.to ++ to_be_bytes w64 f.number
    ++ to_be_bytes w32 (length (body f.message))

abbrev pub spelling : Frame → List ℕ
spelling f = header f ++ body f.message

-- the fields of the frame have a spelling, whatever its length
pub record IsLawful (f : Frame) : Type 0 where
  pub from : f.from < most_nodes
  pub to : f.to < most_nodes
  pub apart : f.from ≢ f.to
  pub number : f.number < 2 ^ 64
  pub message : IsMessage f.message

-- the bytes are the spelling of the frame
pub record Spells (f : Frame) (bytes : List ℕ) : Type 0 where
  pub lawful : IsLawful f
  pub spelled : bytes ≡ spelling f
  pub short : length bytes ≤ limit

-- ---- which refusal comes first

-- the number of a width at an offset, asked only if there are enough bytes
abbrev pub number_in : Width → ℕ → List ℕ → ℕ
number_in w at bytes = from_be_bytes w (take (byte_len w) (drop at bytes))

abbrev pub kind_in : List ℕ → ℕ
kind_in bytes = number_in w8 3 bytes

abbrev pub from_in : List ℕ → ℕ
from_in bytes = number_in w16 4 bytes

abbrev pub to_in : List ℕ → ℕ
to_in bytes = number_in w16 6 bytes

-- the length of the body that the header names
abbrev pub len_in : List ℕ → ℕ
len_in bytes = number_in w32 16 bytes

-- the tests of a header, in their order
abbrev pub header_tests : List ℕ → List (Bool × FrameFault)
header_tests bytes =
    (nat_lt (length bytes) 20, Short)
    ∷ (not (number_in w16 0 bytes == 20564), BadMagic)
    ∷ (not (number_in w8 2 bytes == 2), BadVersion)
    ∷ (not (is_kind (kind_in bytes)), BadKind)
    ∷ (nat_lt limit (20 + len_in bytes), TooLong)
    ∷ (nat_lt (length bytes) (20 + len_in bytes), Short)
    ∷ (nat_lt (20 + len_in bytes) (length bytes), LeftOver)
    ∷ (not (nat_lt (from_in bytes) most_nodes), BadBody 4)
    ∷ (not (nat_lt (to_in bytes) most_nodes) || (to_in bytes == from_in bytes), BadBody 6)
    ∷ []

-- bytes are left over after the last field
pub record IsLeftOver (number : ℕ) (bytes : List ℕ) (left : ℕ) : Type 0 where
  pub message : Message
  pub rest : List ℕ
  pub kind_is : number ≡ kind_of message
  pub fits : IsMessage message
  pub spelled : bytes ≡ body message ++ rest
  pub more : 0 < length rest
  pub left_is : left ≡ length rest

-- the first fault of a body, `at` bytes after the front of the frame
pub record BadAt (bytes : List ℕ) (at : ℕ) : Type 0 where
  pub left : ℕ
  pub offset : at ≡ length bytes - left
  pub bad : BadFields (kind_in bytes) (drop 20 bytes) left
      ⊎ IsLeftOver (kind_in bytes) (drop 20 bytes) left

abbrev pub IsBodyFault : List ℕ → FrameFault → Type 0
IsBodyFault bytes (BadBody at) = BadAt bytes at
IsBodyFault bytes fault = ⊥

-- this refusal is the first that applies: of the tests of the header, and otherwise of the body
abbrev pub RefusesBytes : List ℕ → FrameFault → Type 0
RefusesBytes bytes fault =
    MatchOption (first_that_applies (header_tests bytes)) (IsBodyFault bytes fault)
    (λ first. fault ≡ first)
