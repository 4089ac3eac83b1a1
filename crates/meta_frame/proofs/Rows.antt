-- The table of kinds: a row for each, with the laws of its reader.
use Rattle.std.proofs.Common.{◌≡◌, ◌≢◌, ℕ, ◌+◌, ◌^◌, ◌<◌, ◌≤◌, true, false, cond, eqb, leb, List, [], ◌∷◌, ◌++◌, length, Ok, Err, refl, sym, ap, subst, ◌∙◌, arith, inl, inr}
use Rattle.std.specs.Int.{w8, w16, w32}
use Rattle.std.proofs.lemmas.Bool.{eqb-true, eqb-false, leb-true, and_parts}
use Rattle.meta_frame.specs.declared.message.Message.{Message}
use Rattle.meta_frame.specs.declared.message.Message.TheVariants.{Gossip, IHave, Graft, Prune, Join, ForwardJoin, Disconnect, Neighbor, NeighborReply, Shuffle, ShuffleReply, XRoot, XPrefixes, XInner, XLeaves, XBucket, XObject, XWant, Hello, Bye}
use Rattle.frame_fields.specs.Form.{Form, any_number, then_form}
use Rattle.frame_fields.specs.Field.{node, nodes, priority, answer, digest, digests, place, prefix, prefixes, keys, key, vector, object, life}
use Rattle.meta_types.specs.Name.{Prefix, Key}
use Rattle.frame_fields.specs.declared.neighbor.Priority.TheVariants.{Low}
use Rattle.frame_fields.specs.declared.neighbor.NeighborAnswer.TheVariants.{No}
use Rattle.meta_frame.specs.Frame.{row_of, kind_of, gossip, announcement, forward_join, shuffle, inner_digests, leaf_digests, bucket, key_and_object, body, IsMessage, BadFields, last_kind, is_kind}
use Rattle.frame_readers.specs.Reader.{Reader, ◌>>=◌, number_reader, then_reader, made_reader, within_reader, node_reader, nodes_reader, priority_reader, answer_reader, digest_reader, digests_reader, prefix_reader, prefixes_reader, keys_reader, key_reader, vector_reader, object_reader}
use Rattle.meta_frame.specs.Reading.{gossip_reader, announced_reader, forwarded_reader, shuffle_reader, inner_reader, leaves_reader, bucket_reader, carried_reader, life_reader, message_reader}
use Rattle.frame_readers.proofs.Readers.{IsBytes, Reads, wide8, wide16, wide32, number_reads, then_reads, bind_ok, bind_err, ok_is, done}
use Rattle.frame_readers.proofs.Listed.{nodes_reads, digest_reads, digests_reads, prefixes_reads, keys_reads}
use Rattle.frame_readers.proofs.Fields.{within_reads, prefix_reads, node_reads, priority_reads, answer_reads, key_reads, vector_reads, object_reads}

-- what reading a body of one kind took
pub record Took (number : ℕ) (bytes : List ℕ) (m : Message) (rest : List ℕ) : Type 0 where
  pub kind_is : number ≡ kind_of m
  pub fits : IsMessage m
  pub spelled : bytes ≡ body m ++ rest

abbrev TookBoth : ℕ → List ℕ → Message × List ℕ → Type 0
TookBoth number bytes p = Took number bytes p.0 p.1

-- the laws of the reader of one kind, which is that of `some`
record ReadsKind (some : Message) (read : Reader Message) : Type 0 where
  pub takes : (bytes : List ℕ) (p : Message × List ℕ) → IsBytes bytes → read bytes ≡ Ok p → TookBoth (kind_of some) bytes p
  pub faulty : (bytes : List ℕ) (left : ℕ) → IsBytes bytes → read bytes ≡ Err left → (row_of some).Bad bytes left
  pub refuses : (bytes : List ℕ) (left : ℕ) → (row_of some).Bad bytes left → read bytes ≡ Err left

-- messages made of what a form spells, all of the kind of `some`
record IsMade {A : Type 0} (some : Message) (form : Form A) (make : A → Message) : Type 0 where
  pub kind_is : (x : A) → kind_of (make x) ≡ kind_of some
  pub fits : (x : A) → form.Fits x → IsMessage (make x)
  pub spelled : (x : A) → body (make x) ≡ form.spell x
  pub bad : (bytes : List ℕ) (left : ℕ) → form.Bad bytes left → (row_of some).Bad bytes left
  pub bad_back : (bytes : List ℕ) (left : ℕ) → (row_of some).Bad bytes left → form.Bad bytes left

kind_reads : {A : Type 0} (some : Message) (form : Form A) (read : Reader A) (make : A → Message) → Reads form read → IsMade some form make → ReadsKind some (made_reader read make)
kind_reads some form read make reads made = record {
  takes = λ bytes p is e.
      let b = bind_ok (read bytes) (λ x. Ok (make x.0, x.1)) p e in
      let t = reads.takes bytes b.0.0 b.0.1 is b.1.0 in
      subst (TookBoth (kind_of some) bytes) (ok_is (make b.0.0, b.0.1) p b.1.1)
      (record { kind_is = sym (made.kind_is b.0.0); fits = made.fits b.0.0 t.0; spelled = t.1 ∙ ap (λ bs. bs ++ b.0.1) (sym (made.spelled b.0.0)) });
  faulty = λ bytes left is e.
      elim (bind_err (read bytes) (λ x. Ok (make x.0, x.1)) left e) [
        | inl bad ↦ made.bad bytes left (reads.faulty bytes left is bad)
        | inr b ↦ absurd (let no : done (make b.0.0, b.0.1) ≡ Err left = b.1.1 in cc)
      ];
  refuses = λ bytes left bad. ap (λ r. r >>= λ x. Ok (make x.0, x.1)) (reads.refuses bytes left (made.bad_back bytes left bad));
}

-- a kind without fields, of which there is one message
record IsBare (m : Message) : Type 0 where
  pub fits : IsMessage m
  pub spelled : body m ≡ []
  pub bad : (bytes : List ℕ) (left : ℕ) → (row_of m).Bad bytes left → ⊥

bare_reads : (m : Message) → IsBare m → ReadsKind m (λ bytes. Ok (m, bytes))
bare_reads m bare = record {
  takes = λ bytes p is e. subst (TookBoth (kind_of m) bytes) (ok_is (m, bytes) p e) (record { kind_is = refl; fits = bare.fits; spelled = ap (λ bs. bs ++ bytes) (sym bare.spelled) });
  faulty = λ bytes left is e. absurd (let no : done (m, bytes) ≡ Err left = e in cc);
  refuses = λ bytes left bad. absurd (bare.bad bytes left bad);
}

some_prefix : Prefix
some_prefix = record { prefix = []; sub = [] }

some_key : Key
some_key = record { prefix = some_prefix; key = [] }

-- ---- one law for each row

gossip_reads : Reads gossip (then_reader (number_reader w16) (λ _. then_reader key_reader (λ _. object_reader)))
gossip_reads =
    then_reads (any_number w16) (λ _. then_form key (λ _. object)) (number_reader w16) (λ _. then_reader key_reader (λ _. object_reader)) (number_reads w16 wide16)
    (λ _. then_reads key (λ _. object) key_reader (λ _. object_reader) key_reads (λ _. object_reads))

announced_reads : Reads announcement (then_reader (number_reader w16) (λ _. then_reader key_reader (λ _. vector_reader)))
announced_reads =
    then_reads (any_number w16) (λ _. then_form key (λ _. vector)) (number_reader w16) (λ _. then_reader key_reader (λ _. vector_reader)) (number_reads w16 wide16)
    (λ _. then_reads key (λ _. vector) key_reader (λ _. vector_reader) key_reads (λ _. vector_reads))

carried_reads : Reads key_and_object (then_reader key_reader (λ _. object_reader))
carried_reads = then_reads key (λ _. object) key_reader (λ _. object_reader) key_reads (λ _. object_reads)

gossip_kind : ReadsKind (Gossip 0 some_key []) gossip_reader
unfolding gossip_reader
gossip_kind =
    kind_reads (Gossip 0 some_key []) gossip (then_reader (number_reader w16) (λ _. then_reader key_reader (λ _. object_reader))) (λ p. Gossip p.0 p.1.0 p.1.1) gossip_reads
    (record { kind_is = λ x. refl; fits = λ x fits. fits; spelled = λ x. refl; bad = λ bytes left bad. bad; bad_back = λ bytes left bad. bad })

ihave_kind : ReadsKind (IHave 0 some_key []) (announced_reader IHave)
unfolding announced_reader
ihave_kind =
    kind_reads (IHave 0 some_key []) announcement (then_reader (number_reader w16) (λ _. then_reader key_reader (λ _. vector_reader))) (λ p. IHave p.0 p.1.0 p.1.1) announced_reads
    (record { kind_is = λ x. refl; fits = λ x fits. fits; spelled = λ x. refl; bad = λ bytes left bad. bad; bad_back = λ bytes left bad. bad })

graft_kind : ReadsKind (Graft 0 some_key []) (announced_reader Graft)
unfolding announced_reader
graft_kind =
    kind_reads (Graft 0 some_key []) announcement (then_reader (number_reader w16) (λ _. then_reader key_reader (λ _. vector_reader))) (λ p. Graft p.0 p.1.0 p.1.1) announced_reads
    (record { kind_is = λ x. refl; fits = λ x fits. fits; spelled = λ x. refl; bad = λ bytes left bad. bad; bad_back = λ bytes left bad. bad })

prune_kind : ReadsKind Prune (λ bytes. Ok (Prune, bytes))
prune_kind = bare_reads Prune (record { fits = refl; spelled = refl; bad = λ bytes left bad. bad })

join_kind : ReadsKind Join (λ bytes. Ok (Join, bytes))
join_kind = bare_reads Join (record { fits = refl; spelled = refl; bad = λ bytes left bad. bad })

bye_kind : ReadsKind Bye (λ bytes. Ok (Bye, bytes))
bye_kind = bare_reads Bye (record { fits = refl; spelled = refl; bad = λ bytes left bad. bad })

disconnect_kind : ReadsKind Disconnect (λ bytes. Ok (Disconnect, bytes))
disconnect_kind = bare_reads Disconnect (record { fits = refl; spelled = refl; bad = λ bytes left bad. bad })

forwarded_reads : Reads forward_join (then_reader node_reader (λ _. number_reader w8))
forwarded_reads = then_reads node (λ _. any_number w8) node_reader (λ _. number_reader w8) node_reads (λ _. number_reads w8 wide8)

forward_join_kind : ReadsKind (ForwardJoin 0 0) forwarded_reader
unfolding forwarded_reader
forward_join_kind =
    kind_reads (ForwardJoin 0 0) forward_join (then_reader node_reader (λ _. number_reader w8)) (λ p. ForwardJoin p.0 p.1) forwarded_reads
    (record { kind_is = λ x. refl; fits = λ x fits. fits; spelled = λ x. refl; bad = λ bytes left bad. bad; bad_back = λ bytes left bad. bad })

neighbor_kind : ReadsKind (Neighbor Low) (made_reader priority_reader (λ p. Neighbor p))
neighbor_kind = kind_reads (Neighbor Low) priority priority_reader (λ p. Neighbor p) priority_reads (record { kind_is = λ x. refl; fits = λ x fits. fits; spelled = λ x. refl; bad = λ bytes left bad. bad; bad_back = λ bytes left bad. bad })

neighbor_reply_kind : ReadsKind (NeighborReply No) (made_reader answer_reader (λ a. NeighborReply a))
neighbor_reply_kind = kind_reads (NeighborReply No) answer answer_reader (λ a. NeighborReply a) answer_reads (record { kind_is = λ x. refl; fits = λ x fits. fits; spelled = λ x. refl; bad = λ bytes left bad. bad; bad_back = λ bytes left bad. bad })

shuffle_reads : Reads shuffle (then_reader node_reader (λ _. then_reader (number_reader w8) (λ _. nodes_reader)))
shuffle_reads =
    then_reads node (λ _. then_form (any_number w8) (λ _. nodes)) node_reader (λ _. then_reader (number_reader w8) (λ _. nodes_reader)) node_reads
    (λ _. then_reads (any_number w8) (λ _. nodes) (number_reader w8) (λ _. nodes_reader) (number_reads w8 wide8) (λ _. nodes_reads))

inner_reads : Reads inner_digests (then_reader prefix_reader (λ _. digests_reader))
inner_reads = then_reads prefix (λ _. digests) prefix_reader (λ _. digests_reader) prefix_reads (λ _. digests_reads)

leaves_reads : Reads leaf_digests (then_reader prefix_reader (λ _. then_reader (within_reader w8 0 15) (λ _. digests_reader)))
leaves_reads =
    then_reads prefix (λ _. then_form place (λ _. digests)) prefix_reader (λ _. then_reader (within_reader w8 0 15) (λ _. digests_reader)) prefix_reads
    (λ _. then_reads place (λ _. digests) (within_reader w8 0 15) (λ _. digests_reader) (within_reads w8 wide8 0 15) (λ _. digests_reads))

bucket_reads : Reads bucket (then_reader prefix_reader (λ _. then_reader (number_reader w8) (λ _. keys_reader)))
bucket_reads =
    then_reads prefix (λ _. then_form (any_number w8) (λ _. keys)) prefix_reader (λ _. then_reader (number_reader w8) (λ _. keys_reader)) prefix_reads
    (λ _. then_reads (any_number w8) (λ _. keys) (number_reader w8) (λ _. keys_reader) (number_reads w8 wide8) (λ _. keys_reads))

shuffle_kind : ReadsKind (Shuffle 0 0 []) shuffle_reader
unfolding shuffle_reader
shuffle_kind =
    kind_reads (Shuffle 0 0 []) shuffle (then_reader node_reader (λ _. then_reader (number_reader w8) (λ _. nodes_reader))) (λ p. Shuffle p.0 p.1.0 p.1.1) shuffle_reads
    (record { kind_is = λ x. refl; fits = λ x fits. fits; spelled = λ x. refl; bad = λ bytes left bad. bad; bad_back = λ bytes left bad. bad })

shuffle_reply_kind : ReadsKind (ShuffleReply []) (made_reader nodes_reader (λ ns. ShuffleReply ns))
shuffle_reply_kind = kind_reads (ShuffleReply []) nodes nodes_reader (λ ns. ShuffleReply ns) nodes_reads (record { kind_is = λ x. refl; fits = λ x fits. fits; spelled = λ x. refl; bad = λ bytes left bad. bad; bad_back = λ bytes left bad. bad })

xroot_kind : ReadsKind (XRoot []) (made_reader digest_reader (λ d. XRoot d))
xroot_kind = kind_reads (XRoot []) digest digest_reader (λ d. XRoot d) digest_reads (record { kind_is = λ x. refl; fits = λ x fits. fits; spelled = λ x. refl; bad = λ bytes left bad. bad; bad_back = λ bytes left bad. bad })

xprefixes_kind : ReadsKind (XPrefixes []) (made_reader prefixes_reader (λ rows. XPrefixes rows))
xprefixes_kind = kind_reads (XPrefixes []) prefixes prefixes_reader (λ rows. XPrefixes rows) prefixes_reads (record { kind_is = λ x. refl; fits = λ x fits. fits; spelled = λ x. refl; bad = λ bytes left bad. bad; bad_back = λ bytes left bad. bad })

xinner_kind : ReadsKind (XInner some_prefix []) inner_reader
unfolding inner_reader
xinner_kind =
    kind_reads (XInner some_prefix []) inner_digests (then_reader prefix_reader (λ _. digests_reader)) (λ p. XInner p.0 p.1) inner_reads
    (record { kind_is = λ x. refl; fits = λ x fits. fits; spelled = λ x. refl; bad = λ bytes left bad. bad; bad_back = λ bytes left bad. bad })

xleaves_kind : ReadsKind (XLeaves some_prefix 0 []) leaves_reader
unfolding leaves_reader
xleaves_kind =
    kind_reads (XLeaves some_prefix 0 []) leaf_digests (then_reader prefix_reader (λ _. then_reader (within_reader w8 0 15) (λ _. digests_reader))) (λ p. XLeaves p.0 p.1.0 p.1.1) leaves_reads
    (record { kind_is = λ x. refl; fits = λ x fits. fits; spelled = λ x. refl; bad = λ bytes left bad. bad; bad_back = λ bytes left bad. bad })

xbucket_kind : ReadsKind (XBucket some_prefix 0 []) bucket_reader
unfolding bucket_reader
xbucket_kind =
    kind_reads (XBucket some_prefix 0 []) bucket (then_reader prefix_reader (λ _. then_reader (number_reader w8) (λ _. keys_reader))) (λ p. XBucket p.0 p.1.0 p.1.1) bucket_reads
    (record { kind_is = λ x. refl; fits = λ x fits. fits; spelled = λ x. refl; bad = λ bytes left bad. bad; bad_back = λ bytes left bad. bad })

xobject_kind : ReadsKind (XObject some_key []) carried_reader
unfolding carried_reader
xobject_kind =
    kind_reads (XObject some_key []) key_and_object (then_reader key_reader (λ _. object_reader)) (λ p. XObject p.0 p.1) carried_reads
    (record { kind_is = λ x. refl; fits = λ x fits. fits; spelled = λ x. refl; bad = λ bytes left bad. bad; bad_back = λ bytes left bad. bad })

xwant_kind : ReadsKind (XWant some_key) (made_reader key_reader (λ k. XWant k))
xwant_kind = kind_reads (XWant some_key) key key_reader (λ k. XWant k) key_reads (record { kind_is = λ x. refl; fits = λ x fits. fits; spelled = λ x. refl; bad = λ bytes left bad. bad; bad_back = λ bytes left bad. bad })

life_reads : Reads life life_reader
life_reads = within_reads w32 wide32 1 4294967295

hello_kind : ReadsKind (Hello 1) (made_reader life_reader (λ l. Hello l))
hello_kind = kind_reads (Hello 1) life life_reader (λ l. Hello l) life_reads (record { kind_is = λ x. refl; fits = λ x fits. fits; spelled = λ x. refl; bad = λ bytes left bad. bad; bad_back = λ bytes left bad. bad })

pub message_again : (m : Message) (rest : List ℕ) → IsMessage m → message_reader (kind_of m) (body m ++ rest) ≡ Ok (m, rest)
unfolding message_reader gossip_reader announced_reader carried_reader forwarded_reader shuffle_reader inner_reader leaves_reader bucket_reader
message_again (Gossip round k o) rest fits = rw (gossip_reads.again (round, (k, o)) rest fits) refl
message_again (IHave round k v) rest fits = rw (announced_reads.again (round, (k, v)) rest fits) refl
message_again (Graft round k v) rest fits = rw (announced_reads.again (round, (k, v)) rest fits) refl
message_again Prune rest fits = refl
message_again Join rest fits = refl
message_again (ForwardJoin n ttl) rest fits = rw (forwarded_reads.again (n, ttl) rest fits) refl
message_again Disconnect rest fits = refl
message_again (Neighbor p) rest fits = rw (priority_reads.again p rest fits) refl
message_again (NeighborReply a) rest fits = rw (answer_reads.again a rest fits) refl
message_again (Shuffle origin ttl ns) rest fits = rw (shuffle_reads.again (origin, (ttl, ns)) rest fits) refl
message_again (ShuffleReply ns) rest fits = rw (nodes_reads.again ns rest fits) refl
message_again (XRoot d) rest fits = rw (digest_reads.again d rest fits) refl
message_again (XPrefixes rs) rest fits = rw (prefixes_reads.again rs rest fits) refl
message_again (XInner p ds) rest fits = rw (inner_reads.again (p, ds) rest fits) refl
message_again (XLeaves p i ds) rest fits = rw (leaves_reads.again (p, (i, ds)) rest fits) refl
message_again (XBucket p leaf rs) rest fits = rw (bucket_reads.again (p, (leaf, rs)) rest fits) refl
message_again (XObject k o) rest fits = rw (carried_reads.again (k, o) rest fits) refl
message_again (XWant k) rest fits = rw (key_reads.again k rest fits) refl
message_again (Hello l) rest fits = rw (life_reads.again l rest fits) refl
message_again Bye rest fits = refl

pub kind_is_known : (m : Message) → is_kind (kind_of m) ≡ true
kind_is_known (Gossip round k o) = refl
kind_is_known (IHave round k v) = refl
kind_is_known (Graft round k v) = refl
kind_is_known Prune = refl
kind_is_known Join = refl
kind_is_known (ForwardJoin n ttl) = refl
kind_is_known Disconnect = refl
kind_is_known (Neighbor p) = refl
kind_is_known (NeighborReply a) = refl
kind_is_known (Shuffle origin ttl ns) = refl
kind_is_known (ShuffleReply ns) = refl
kind_is_known (XRoot d) = refl
kind_is_known (XPrefixes rs) = refl
kind_is_known (XInner p ds) = refl
kind_is_known (XLeaves p i ds) = refl
kind_is_known (XBucket p leaf rs) = refl
kind_is_known (XObject k o) = refl
kind_is_known (XWant k) = refl
kind_is_known (Hello l) = refl
kind_is_known Bye = refl

pub small_kind : (m : Message) → kind_of m < 2 ^ 8
small_kind (Gossip round k o) = omega arith
small_kind (IHave round k v) = omega arith
small_kind (Graft round k v) = omega arith
small_kind Prune = omega arith
small_kind Join = omega arith
small_kind (ForwardJoin n ttl) = omega arith
small_kind Disconnect = omega arith
small_kind (Neighbor p) = omega arith
small_kind (NeighborReply a) = omega arith
small_kind (Shuffle origin ttl ns) = omega arith
small_kind (ShuffleReply ns) = omega arith
small_kind (XRoot d) = omega arith
small_kind (XPrefixes rs) = omega arith
small_kind (XInner p ds) = omega arith
small_kind (XLeaves p i ds) = omega arith
small_kind (XBucket p leaf rs) = omega arith
small_kind (XObject k o) = omega arith
small_kind (XWant k) = omega arith
small_kind (Hello l) = omega arith
small_kind Bye = omega arith

-- ---- any kind

-- a message of each kind, and the reader of the kind
record Line : Type 0 where
  pub some : Message
  pub read : Reader Message
  pub reads : ReadsKind some read

abbrev lines : List Line
lines =
    (record { some = Gossip 0 some_key []; read = gossip_reader; reads = gossip_kind })
    ∷ (record { some = IHave 0 some_key []; read = announced_reader IHave; reads = ihave_kind })
    ∷ (record { some = Graft 0 some_key []; read = announced_reader Graft; reads = graft_kind })
    ∷ (record { some = Prune; read = λ bytes. Ok (Prune, bytes); reads = prune_kind })
    ∷ (record { some = Join; read = λ bytes. Ok (Join, bytes); reads = join_kind })
    ∷ (record { some = ForwardJoin 0 0; read = forwarded_reader; reads = forward_join_kind })
    ∷ (record { some = Disconnect; read = λ bytes. Ok (Disconnect, bytes); reads = disconnect_kind })
    ∷ (record { some = Neighbor Low; read = made_reader priority_reader (λ p. Neighbor p); reads = neighbor_kind })
    ∷ (record { some = NeighborReply No; read = made_reader answer_reader (λ a. NeighborReply a); reads = neighbor_reply_kind })
    ∷ (record { some = Shuffle 0 0 []; read = shuffle_reader; reads = shuffle_kind })
    ∷ (record { some = ShuffleReply []; read = made_reader nodes_reader (λ ns. ShuffleReply ns); reads = shuffle_reply_kind })
    ∷ (record { some = XRoot []; read = made_reader digest_reader (λ d. XRoot d); reads = xroot_kind })
    ∷ (record { some = XPrefixes []; read = made_reader prefixes_reader (λ rows. XPrefixes rows); reads = xprefixes_kind })
    ∷ (record { some = XInner some_prefix []; read = inner_reader; reads = xinner_kind })
    ∷ (record { some = XLeaves some_prefix 0 []; read = leaves_reader; reads = xleaves_kind })
    ∷ (record { some = XBucket some_prefix 0 []; read = bucket_reader; reads = xbucket_kind })
    ∷ (record { some = XObject some_key []; read = carried_reader; reads = xobject_kind })
    ∷ (record { some = XWant some_key; read = made_reader key_reader (λ k. XWant k); reads = xwant_kind })
    ∷ (record { some = Hello 1; read = made_reader life_reader (λ l. Hello l); reads = hello_kind })
    ∷ (record { some = Bye; read = λ bytes. Ok (Bye, bytes); reads = bye_kind })
    ∷ []

-- the reader of these lines
abbrev read_by : List Line → ℕ → Reader Message
read_by [] number bytes = Err (length bytes)
read_by (l ∷ ls) number bytes = cond (eqb number (kind_of l.some)) (l.read bytes) (read_by ls number bytes)

by_lines : (number : ℕ) (bytes : List ℕ) → message_reader number bytes ≡ read_by lines number bytes
unfolding message_reader
by_lines number bytes = refl

as_kind : (number n : ℕ) (bytes : List ℕ) (p : Message × List ℕ) → eqb number n ≡ true → TookBoth n bytes p → TookBoth number bytes p
as_kind number n bytes p e t = record { kind_is = eqb-true number n e ∙ t.kind_is; fits = t.fits; spelled = t.spelled }

takes_by : (ls : List Line) (number : ℕ) (bytes : List ℕ) (p : Message × List ℕ) → IsBytes bytes → read_by ls number bytes ≡ Ok p → TookBoth number bytes p
takes_by [] number bytes p is e = absurd cc
takes_by (l ∷ ls) number bytes p is e =
    elim (eqb number (kind_of l.some)) as (λ b. eqb number (kind_of l.some) ≡ b → cond b (l.read bytes) (read_by ls number bytes) ≡ Ok p → TookBoth number bytes p) [
      | true ↦ λ same read. as_kind number (kind_of l.some) bytes p same (l.reads.takes bytes p is read)
      | false ↦ λ other read. takes_by ls number bytes p is read
    ] refl e

-- the kinds of the lines are this number and those that follow it
abbrev AreFrom : ℕ → List Line → Type 0
AreFrom n [] = Unit {0}
AreFrom n (l ∷ ls) = (kind_of l.some ≡ n) × AreFrom (n + 1) ls

faulty_by : (ls : List Line) (n number : ℕ) (bytes : List ℕ) (left : ℕ) → IsBytes bytes → AreFrom n ls → n ≤ number → number < n + length ls → read_by ls number bytes ≡ Err left → BadFields number bytes left
faulty_by [] n number bytes left is from low high e = absurd (omega (arith, low, high))
faulty_by (l ∷ ls) n number bytes left is from low high e =
    elim (eqb number (kind_of l.some)) as (λ b. eqb number (kind_of l.some) ≡ b → cond b (l.read bytes) (read_by ls number bytes) ≡ Err left → BadFields number bytes left) [
      | true ↦ λ same read. record { message = l.some; kind_is = eqb-true number (kind_of l.some) same; bad = l.reads.faulty bytes left is read }
      | false ↦ λ other read.
          let apart : number ≢ n = λ same. eqb-false number (kind_of l.some) other (same ∙ sym from.0) in
          faulty_by ls (n + 1) number bytes left is from.1 (omega (arith, low, apart)) (omega (arith, high)) read
    ] refl e

from_one : AreFrom 1 lines
from_one = (refl, (refl, (refl, (refl, (refl, (refl, (refl, (refl, (refl, (refl, (refl, (refl, (refl, (refl, (refl, (refl, (refl, (refl, (refl, (refl, tt))))))))))))))))))))

-- each kind refuses what is at fault in its bodies
refuses_message : (m : Message) (bytes : List ℕ) (left : ℕ) → (row_of m).Bad bytes left → message_reader (kind_of m) bytes ≡ Err left
unfolding message_reader
refuses_message (Gossip round k o) bytes left bad = gossip_kind.refuses bytes left bad
refuses_message (IHave round k v) bytes left bad = ihave_kind.refuses bytes left bad
refuses_message (Graft round k v) bytes left bad = graft_kind.refuses bytes left bad
refuses_message Prune bytes left bad = prune_kind.refuses bytes left bad
refuses_message Join bytes left bad = join_kind.refuses bytes left bad
refuses_message (ForwardJoin n ttl) bytes left bad = forward_join_kind.refuses bytes left bad
refuses_message Disconnect bytes left bad = disconnect_kind.refuses bytes left bad
refuses_message (Neighbor p) bytes left bad = neighbor_kind.refuses bytes left bad
refuses_message (NeighborReply a) bytes left bad = neighbor_reply_kind.refuses bytes left bad
refuses_message (Shuffle origin ttl ns) bytes left bad = shuffle_kind.refuses bytes left bad
refuses_message (ShuffleReply ns) bytes left bad = shuffle_reply_kind.refuses bytes left bad
refuses_message (XRoot d) bytes left bad = xroot_kind.refuses bytes left bad
refuses_message (XPrefixes rs) bytes left bad = xprefixes_kind.refuses bytes left bad
refuses_message (XInner p ds) bytes left bad = xinner_kind.refuses bytes left bad
refuses_message (XLeaves p i ds) bytes left bad = xleaves_kind.refuses bytes left bad
refuses_message (XBucket p leaf rs) bytes left bad = xbucket_kind.refuses bytes left bad
refuses_message (XObject k o) bytes left bad = xobject_kind.refuses bytes left bad
refuses_message (XWant k) bytes left bad = xwant_kind.refuses bytes left bad
refuses_message (Hello l) bytes left bad = hello_kind.refuses bytes left bad
refuses_message Bye bytes left bad = bye_kind.refuses bytes left bad

pub message_takes : (number : ℕ) (bytes : List ℕ) (p : Message × List ℕ) → IsBytes bytes → message_reader number bytes ≡ Ok p → TookBoth number bytes p
message_takes number bytes p is e = takes_by lines number bytes p is (sym (by_lines number bytes) ∙ e)

pub message_faulty : (number : ℕ) (bytes : List ℕ) (left : ℕ) → IsBytes bytes → is_kind number ≡ true → message_reader number bytes ≡ Err left → BadFields number bytes left
message_faulty number bytes left is known e =
    let range = and_parts (leb 1 number) (leb number last_kind) known in
    let high : number ≤ last_kind = leb-true number last_kind range.1 in
    faulty_by lines 1 number bytes left is from_one (leb-true 1 number range.0) (omega (arith, high)) (sym (by_lines number bytes) ∙ e)

pub message_refuses : (number : ℕ) (bytes : List ℕ) (left : ℕ) → BadFields number bytes left → message_reader number bytes ≡ Err left
message_refuses number bytes left bad = ap (λ k. message_reader k bytes) bad.kind_is ∙ refuses_message bad.message bytes left bad.bad
