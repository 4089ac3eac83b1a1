-- Events, and replies, are equal if their kinds and all their parts are.
use Rattle.std.specs.Prelude.{◌≡◌, nat_eq, Bool, true, false, ◌&&◌, Option, Some, None, refl}
use Rattle.std.specs.Ordering.{on, eq_of_both}
use Rattle.std.specs.Option.{option_eq}
use Rattle.std.specs.Bool.{Decides}
use Rattle.std.specs.Cmp.{IsEquivalence, decided, unsigned_Decides}
use Rattle.std.specs.Cmp.Lexicographic.{pointwise, bytes_decides}
use Rattle.meta_types.specs.Ties.{both_decide}
use Rattle.dvvset.specs.Equal.{counters_eq, counters_eq-Decides, value_eq, value_eq-Decides, values_eq, values_eq-Decides}
use Rattle.meta_store.specs.Context.{Reading}
use Rattle.meta_store.specs.declared.source.Source.{Source}
use Rattle.meta_types.specs.Equal.{key_eq, keys_decide, prefix_parts_eq, prefixes_decide}
use Rattle.node_events.specs.Equal.{changes_eq, changes_eq-Decides}
use Rattle.node_events.specs.declared.event.NodeEvent.{NodeEvent}
use Rattle.node_events.specs.declared.event.NodeEvent.TheVariants.{Read, Write, PutOver, Take, Tick, Join, PeerDown, Exchange, Keep, Watch, Changes, Hello, Leave}
use Rattle.node_events.specs.declared.reply.Reply.{Reply}
use Rattle.node_events.specs.declared.reply.Reply.TheVariants.{Looked, Wrote, Took, TookFresh, TookStale, Done, Watching, Changed}

abbrev pub source_eq : Source → Source → Bool
source_eq = eq_of_both (on (λ s. s.actor) nat_eq) (on (λ s. s.step) nat_eq)

-- what a read handed out
abbrev pub reading_eq : Reading → Reading → Bool
reading_eq = eq_of_both (on (λ r. r.key) key_eq)
    (eq_of_both (on (λ r. r.vector) counters_eq) (on (λ r. r.source) source_eq))

abbrev pub event_eq : NodeEvent → NodeEvent → Bool
event_eq (Read k) (Read l) = key_eq k l
event_eq (Write k v c) (Write l w d) = key_eq k l && (value_eq v w && option_eq reading_eq c d)
event_eq (PutOver k v) (PutOver l w) = key_eq k l && value_eq v w
event_eq (Take f n) (Take g m) = pointwise nat_eq f g && nat_eq n m
event_eq (Tick n) (Tick m) = nat_eq n m
event_eq (Join p n) (Join q m) = nat_eq p q && nat_eq n m
event_eq (PeerDown p n) (PeerDown q m) = nat_eq p q && nat_eq n m
event_eq (Exchange p) (Exchange q) = nat_eq p q
event_eq (Keep k) (Keep l) = key_eq k l
event_eq (Watch p n) (Watch q m) = prefix_parts_eq p q && nat_eq n m
event_eq (Changes n) (Changes m) = nat_eq n m
event_eq (Hello p) (Hello q) = nat_eq p q
event_eq Leave Leave = true
event_eq _ _ = false

abbrev pub reply_eq : Reply → Reply → Bool
reply_eq (Looked v c) (Looked w d) = values_eq v w && reading_eq c d
reply_eq (Wrote v) (Wrote w) = counters_eq v w
reply_eq Took Took = true
reply_eq TookFresh TookFresh = true
reply_eq TookStale TookStale = true
reply_eq Done Done = true
reply_eq (Watching n) (Watching m) = nat_eq n m
reply_eq (Changed n c) (Changed m d) = nat_eq n m && changes_eq c d
reply_eq _ _ = false

-- Each comparison decides equality of all parts, and so meets the laws of `==`.
part_decides : {P R : Type 0} (s : Bool) → Decides s P → (P → R) → (R → P) → Decides s R
part_decides s d whole part = ((λ h. whole (d.0 h)), (λ r. d.1 (part r)))

pair_decides : {P Q : Type 0} (s t : Bool) → Decides s P → Decides t Q → Decides (s && t) (P × Q)
pair_decides s t d e = both_decide s t d e (λ p q. (p, q)) (λ both. both.0) (λ both. both.1)

three_decide : {P Q S R : Type 0} (s t u : Bool) → Decides s P → Decides t Q → Decides u S
    → (P → Q → S → R) → (R → P) → (R → Q) → (R → S) → Decides (s && (t && u)) R
three_decide s t u d e f whole first second third = both_decide
    s (t && u) d (pair_decides t u e f)
    (λ p both. whole p both.0 both.1) first (λ r. (second r, third r))

source_eq-Decides : (s t : Source) → Decides (source_eq s t) (s ≡ t)
source_eq-Decides s t = both_decide
    (nat_eq s.actor t.actor) (nat_eq s.step t.step)
    (unsigned_Decides s.actor t.actor) (unsigned_Decides s.step t.step)
    (λ actors steps i. record { actor = actors i; step = steps i })
    (λ same i. (same i).actor) (λ same i. (same i).step)

pub reading_eq-Decides : (r s : Reading) → Decides (reading_eq r s) (r ≡ s)
reading_eq-Decides r s = three_decide
    (key_eq r.key s.key) (counters_eq r.vector s.vector) (source_eq r.source s.source)
    (keys_decide r.key s.key) (counters_eq-Decides r.vector s.vector)
    (source_eq-Decides r.source s.source)
    (λ keys vectors sources i. record { key = keys i; vector = vectors i; source = sources i })
    (λ same i. (same i).key) (λ same i. (same i).vector) (λ same i. (same i).source)

option_decides : (c d : Option Reading) → Decides (option_eq reading_eq c d) (c ≡ d)
option_decides None None = ((λ h. refl), (λ h. refl))
option_decides None (Some y) = ((λ h. cc), (λ h. cc))
option_decides (Some x) None = ((λ h. cc), (λ h. cc))
option_decides (Some x) (Some y) =
    part_decides (reading_eq x y) (reading_eq-Decides x y) (λ parts i. Some (parts i)) (λ same. cc)

pub event_eq-Decides : (e f : NodeEvent) → Decides (event_eq e f) (e ≡ f)
event_eq-Decides (Read k) (Read l) =
    part_decides (key_eq k l) (keys_decide k l) (λ keys i. Read (keys i)) (λ same. cc)
event_eq-Decides (Write k v c) (Write l w d) = three_decide
    (key_eq k l) (value_eq v w) (option_eq reading_eq c d)
    (keys_decide k l) (value_eq-Decides v w) (option_decides c d)
    (λ keys values contexts i. Write (keys i) (values i) (contexts i))
    (λ same. cc) (λ same. cc) (λ same. cc)
event_eq-Decides (PutOver k v) (PutOver l w) = both_decide
    (key_eq k l) (value_eq v w) (keys_decide k l) (value_eq-Decides v w)
    (λ keys values i. PutOver (keys i) (values i)) (λ same. cc) (λ same. cc)
event_eq-Decides (Take f n) (Take g m) = both_decide
    (pointwise nat_eq f g) (nat_eq n m) (bytes_decides f g) (unsigned_Decides n m)
    (λ frames words i. Take (frames i) (words i)) (λ same. cc) (λ same. cc)
event_eq-Decides (Tick n) (Tick m) =
    part_decides (nat_eq n m) (unsigned_Decides n m) (λ words i. Tick (words i)) (λ same. cc)
event_eq-Decides (Join p n) (Join q m) = both_decide
    (nat_eq p q) (nat_eq n m) (unsigned_Decides p q) (unsigned_Decides n m)
    (λ peers words i. Join (peers i) (words i)) (λ same. cc) (λ same. cc)
event_eq-Decides (PeerDown p n) (PeerDown q m) = both_decide
    (nat_eq p q) (nat_eq n m) (unsigned_Decides p q) (unsigned_Decides n m)
    (λ peers words i. PeerDown (peers i) (words i)) (λ same. cc) (λ same. cc)
event_eq-Decides (Exchange p) (Exchange q) =
    part_decides (nat_eq p q) (unsigned_Decides p q) (λ peers i. Exchange (peers i)) (λ same. cc)
event_eq-Decides (Keep k) (Keep l) =
    part_decides (key_eq k l) (keys_decide k l) (λ keys i. Keep (keys i)) (λ same. cc)
event_eq-Decides (Watch p n) (Watch q m) = both_decide
    (prefix_parts_eq p q) (nat_eq n m) (prefixes_decide p q) (unsigned_Decides n m)
    (λ prefixes sizes i. Watch (prefixes i) (sizes i)) (λ same. cc) (λ same. cc)
event_eq-Decides (Changes n) (Changes m) =
    part_decides (nat_eq n m) (unsigned_Decides n m) (λ numbers i. Changes (numbers i)) (λ same. cc)
event_eq-Decides (Hello p) (Hello q) =
    part_decides (nat_eq p q) (unsigned_Decides p q) (λ peers i. Hello (peers i)) (λ same. cc)
event_eq-Decides Leave Leave = ((λ h. refl), (λ h. refl))
event_eq-Decides _ _ = ((λ h. absurd (cc)), (λ h. absurd (cc)))

pub reply_eq-Decides : (r s : Reply) → Decides (reply_eq r s) (r ≡ s)
reply_eq-Decides (Looked v c) (Looked w d) = both_decide
    (values_eq v w) (reading_eq c d) (values_eq-Decides v w) (reading_eq-Decides c d)
    (λ values contexts i. Looked (values i) (contexts i)) (λ same. cc) (λ same. cc)
reply_eq-Decides (Wrote v) (Wrote w) =
    part_decides (counters_eq v w) (counters_eq-Decides v w)
    (λ vectors i. Wrote (vectors i)) (λ same. cc)
reply_eq-Decides Took Took = ((λ h. refl), (λ h. refl))
reply_eq-Decides TookFresh TookFresh = ((λ h. refl), (λ h. refl))
reply_eq-Decides TookStale TookStale = ((λ h. refl), (λ h. refl))
reply_eq-Decides Done Done = ((λ h. refl), (λ h. refl))
reply_eq-Decides (Watching n) (Watching m) =
    part_decides (nat_eq n m) (unsigned_Decides n m)
    (λ numbers i. Watching (numbers i)) (λ same. cc)
reply_eq-Decides (Changed n c) (Changed m d) = both_decide
    (nat_eq n m) (changes_eq c d) (unsigned_Decides n m) (changes_eq-Decides c d)
    (λ counts changes i. Changed (counts i) (changes i)) (λ same. cc) (λ same. cc)
reply_eq-Decides _ _ = ((λ h. absurd (cc)), (λ h. absurd (cc)))

pub event_equivalence : IsEquivalence event_eq
event_equivalence = decided event_eq event_eq-Decides

pub reply_equivalence : IsEquivalence reply_eq
reply_equivalence = decided reply_eq reply_eq-Decides
