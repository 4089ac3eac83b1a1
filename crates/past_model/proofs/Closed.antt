-- Closed sets hold, of each writer, the oldest writes.
use Rattle.std.proofs.Common.{◌≡◌, ℕ, ◌-◌, ◌≤◌, Bool, true, false, List, [], ◌∷◌, length, take, sym, ap, refl, ◌∙◌, max, ⊎_elim, Option, map, eqb}
use Rattle.std.specs.Prelude.{◌&&◌, ◌||◌, not, filter}
use Rattle.std.proofs.lemmas.Bool.{and_from, and_parts, or_left, or_right, or_cases, eqb-true}
use Rattle.meta_types.specs.Name.{Key}
use Rattle.dvvset.specs.Object.{Entry}
use Rattle.dvvset.proofs.Writers.{sync_at}
use Rattle.past_model.specs.Sets.{Places, union}
use Rattle.meta_types.specs.Equal.{key_eq}
use Rattle.past_model.specs.Past.{Write, In}
use Rattle.past_model.specs.Shown.{IsClosed, was_read, is_sibling, count_in, siblings_by}
use Rattle.past_model.proofs.Orderly.{IsFalling, Orderly}
use Rattle.past_model.proofs.Keys.{key_eq-true, key_eq-self}
use Rattle.past_model.proofs.Older.{IsOlder, filter-le, filter-mono, filter-older, filter-between, filter-union}
use Rattle.past_model.proofs.Members.{any_gives, any_from, filter-cong, filter-filter, older_from, same_place}
use Rattle.past_model.proofs.Rendered.{entry_with, rendered, sync-rendered}

-- the write is in the set, and was read in it
abbrev pub in_set : Places → Write → Bool
in_set S x = S x.place

abbrev pub read_in : List Write → Places → Write → Bool
read_in ws S x = was_read ws S x.place

-- a writer's write under the key, and all of them
abbrev pub is_of : Key → ℕ → Write → Bool
is_of k w x = eqb x.writer w && key_eq x.key k

abbrev pub writes_of : List Write → Key → ℕ → List Write
writes_of ws k w = filter (is_of k w) ws

-- ---- older tests

pub in_set-older : (ws : List Write) (k : Key) (S : Places) (w : ℕ) → IsFalling ws → IsClosed ws k S → IsOlder (in_set S) (writes_of ws k w)
in_set-older ws k S w falling closed =
    older_from (in_set S) (is_of k w) ws falling
    (λ x y m n e f lt r.
    let mine : (eqb x.writer w ≡ true) × (key_eq x.key k ≡ true) = and_parts (eqb x.writer w) (key_eq x.key k) e in
    let theirs : (eqb y.writer w ≡ true) × (key_eq y.key k ≡ true) = and_parts (eqb y.writer w) (key_eq y.key k) f in
    closed.earlier x y m n r (eqb-true y.writer w theirs.0 ∙ sym (eqb-true x.writer w mine.0)) (key_eq-true y.key k theirs.1) lt)

-- a write of a closed set is one under its key
pub key_of : (ws : List Write) (k : Key) (S : Places) (q : Write) → IsFalling ws → IsClosed ws k S → In q ws → S q.place ≡ true → q.key ≡ k
key_of ws k S q falling closed m e =
    let found : (x : Write) × (In x ws × ((x.place ≡ q.place) × (x.key ≡ k))) = closed.of_writes q.place e in
    ap (λ x. x.key) (same_place ws found.0 q falling found.1.0 m found.1.1.0) ∙ found.1.1.1

-- who read what stands at the place
pub reader : (ws : List Write) (S : Places) (p : ℕ) → was_read ws S p ≡ true → (q : Write) × (In q ws × ((S q.place ≡ true) × (q.read p ≡ true)))
reader ws S p e =
    let found : (q : Write) × (In q ws × ((S q.place && q.read p) ≡ true)) = any_gives (λ q. S q.place && q.read p) ws e in
    (found.0, (found.1.0, and_parts (S found.0.place) (found.0.read p) found.1.1))

-- what was read in a closed set is in it
pub was_read-within : (ws : List Write) (k : Key) (S : Places) → IsClosed ws k S → (p : ℕ) → was_read ws S p ≡ true → S p ≡ true
was_read-within ws k S closed p e =
    let q : (q : Write) × (In q ws × ((S q.place ≡ true) × (q.read p ≡ true))) = reader ws S p e in
    closed.reads q.0 q.1.0 q.1.1.0 p q.1.1.1

pub was_read-older : (ws : List Write) (k : Key) (S : Places) (w : ℕ) → Orderly ws → IsClosed ws k S → IsOlder (read_in ws S) (writes_of ws k w)
was_read-older ws k S w orderly closed =
    older_from (read_in ws S) (is_of k w) ws orderly.ordered.falling
    (λ x y m n e f lt r.
    let mine : (eqb x.writer w ≡ true) × (key_eq x.key k ≡ true) = and_parts (eqb x.writer w) (key_eq x.key k) e in
    let theirs : (eqb y.writer w ≡ true) × (key_eq y.key k ≡ true) = and_parts (eqb y.writer w) (key_eq y.key k) f in
    let q : (q : Write) × (In q ws × ((S q.place ≡ true) × (q.read x.place ≡ true))) = reader ws S x.place r in
    let under : q.0.key ≡ k = key_of ws k S q.0 orderly.ordered.falling closed q.1.0 q.1.1.0 in
    let back : q.0.read y.place ≡ true =
    (orderly.closed q.0 q.1.0).earlier x y m n q.1.1.1 (eqb-true y.writer w theirs.0 ∙ sym (eqb-true x.writer w mine.0)) (key_eq-true y.key k theirs.1 ∙ sym under) lt in
    any_from (λ q. S q.place && q.read y.place) ws q.0 q.1.0 (and_from (S q.0.place) (q.0.read y.place) q.1.1.0 back))

-- ---- a writer's entry by two numbers

under_key : (a b c : Bool) → (c ≡ true → b ≡ true) → (a && c) ≡ ((a && b) && c)
under_key true true c keyed = refl
under_key true false true keyed = sym (keyed refl)
under_key true false false keyed = refl
under_key false b c keyed = refl

-- a test that only writes under the key pass may leave the key out
pub filter-own : (ws : List Write) (k : Key) (w : ℕ) (P : Write → Bool) → ((x : Write) → In x ws → P x ≡ true → x.key ≡ k) → filter (λ x. eqb x.writer w && P x) ws ≡ filter P (writes_of ws k w)
filter-own ws k w P keyed =
    filter-cong (λ x. eqb x.writer w && P x) (λ x. is_of k w x && P x) ws
    (λ y m. under_key (eqb y.writer w) (key_eq y.key k) (P y) (λ e. ap (λ l. key_eq l k) (keyed y m e) ∙ key_eq-self k))
    ∙ sym (filter-filter P (is_of k w) ws)

-- how many of a writer's writes are in the set, and were read in it
abbrev pub own_count : List Write → Key → Places → ℕ → ℕ
own_count ws k S w = length (filter (in_set S) (writes_of ws k w))

abbrev pub cover_of : List Write → Key → Places → ℕ → ℕ
cover_of ws k S w = length (filter (read_in ws S) (writes_of ws k w))

pub count_in-own : (ws : List Write) (k : Key) (S : Places) (w : ℕ) → IsFalling ws → IsClosed ws k S → count_in ws S w ≡ own_count ws k S w
count_in-own ws k S w falling closed = ap length (filter-own ws k w (in_set S) (λ x m e. key_of ws k S x falling closed m e))

pub cover-le : (ws : List Write) (k : Key) (S : Places) (w : ℕ) → IsClosed ws k S → cover_of ws k S w ≤ own_count ws k S w
cover-le ws k S w closed = filter-mono (read_in ws S) (in_set S) (λ x. was_read-within ws k S closed x.place) (writes_of ws k w)

-- a writer's entry of the set
abbrev pub entry_in : List Write → Places → ℕ → Option Entry
entry_in ws S w = entry_with w (count_in ws S w) (siblings_by ws S w)

pub entry_in-rendered : (ws : List Write) (k : Key) (S : Places) (w : ℕ) → Orderly ws → IsClosed ws k S → entry_in ws S w ≡ rendered w (writes_of ws k w) (own_count ws k S w) (cover_of ws k S w)
entry_in-rendered ws k S w orderly closed =
    let falling : IsFalling ws = orderly.ordered.falling in
    let own : List Write = writes_of ws k w in
    let p : IsOlder (in_set S) (writes_of ws k w) = in_set-older ws k S w falling closed in
    let q : IsOlder (read_in ws S) (writes_of ws k w) = was_read-older ws k S w orderly closed in
    let shown : filter (λ x. eqb x.writer w && is_sibling ws S x) ws ≡ filter (is_sibling ws S) (writes_of ws k w) =
    filter-own ws k w (is_sibling ws S) (λ x m e. key_of ws k S x falling closed m (and_parts (S x.place) (not (was_read ws S x.place)) e).0) in
    (λ i. entry_with w (count_in-own ws k S w falling closed i) (map (λ x. x.value) (shown i)))
    ∙ ap (λ l. entry_with w (own_count ws k S w) (map (λ x. x.value) l))
    (filter-between (in_set S) (read_in ws S) (λ x. was_read-within ws k S closed x.place) own p q
    ∙ ap (λ l. take (own_count ws k S w - cover_of ws k S w) l) (filter-older (in_set S) own p))

-- ---- two closed sets

or_and : (a b r u v : Bool) → (((a || b) && r) || (u || v)) ≡ (((a && r) || u) || ((b && r) || v))
or_and true true true u v = refl
or_and true true false u v = refl
or_and true false true u v = refl
or_and true false false u v = refl
or_and false true true true v = refl
or_and false true true false v = refl
or_and false true false u v = refl
or_and false false r u v = refl

pub was_read-union : (ws : List Write) (S T : Places) (p : ℕ) → was_read ws (union S T) p ≡ (was_read ws S p || was_read ws T p)
was_read-union [] S T p = refl
was_read-union (q ∷ qs) S T p =
    ap (λ b. ((S q.place || T q.place) && q.read p) || b) (was_read-union qs S T p)
    ∙ or_and (S q.place) (T q.place) (q.read p) (was_read qs S p) (was_read qs T p)

pub IsClosed-union : (ws : List Write) (k : Key) (S T : Places) → IsClosed ws k S → IsClosed ws k T → IsClosed ws k (union S T)
IsClosed-union ws k S T left right = record {
  of_writes = λ p e. ⊎_elim (λ h. left.of_writes p h) (λ h. right.of_writes p h) (or_cases (S p) (T p) e);
  reads = λ x m e p r.
      ⊎_elim (λ h. or_left (S p) (T p) (left.reads x m h p r)) (λ h. or_right (S p) (T p) (right.reads x m h p r)) (or_cases (S x.place) (T x.place) e);
  earlier = λ x y m n e w u lt.
      ⊎_elim (λ h. or_left (S y.place) (T y.place) (left.earlier x y m n h w u lt)) (λ h. or_right (S y.place) (T y.place) (right.earlier x y m n h w u lt))
      (or_cases (S x.place) (T x.place) e);
}

-- a writer's entry of the union is the two entries merged
pub entry_in-union : (ws : List Write) (k : Key) (S T : Places) (w : ℕ) → Orderly ws → IsClosed ws k S → IsClosed ws k T → sync_at (entry_in ws S w) (entry_in ws T w) ≡ entry_in ws (union S T) w
entry_in-union ws k S T w orderly left right =
    let falling : IsFalling ws = orderly.ordered.falling in
    let both : IsClosed ws k (union S T) = IsClosed-union ws k S T left right in
    let counts : own_count ws k (union S T) w ≡ max (own_count ws k S w) (own_count ws k T w) =
    filter-union (in_set S) (in_set T) (writes_of ws k w) (in_set-older ws k S w falling left) (in_set-older ws k T w falling right) in
    let covers : cover_of ws k (union S T) w ≡ max (cover_of ws k S w) (cover_of ws k T w) =
    (λ i. length (filter (λ x. was_read-union ws S T x.place i) (writes_of ws k w)))
    ∙ filter-union (read_in ws S) (read_in ws T) (writes_of ws k w) (was_read-older ws k S w orderly left) (was_read-older ws k T w orderly right) in
    (λ i. sync_at (entry_in-rendered ws k S w orderly left i) (entry_in-rendered ws k T w orderly right i))
    ∙ sync-rendered w (writes_of ws k w) (own_count ws k S w) (cover_of ws k S w) (own_count ws k T w) (cover_of ws k T w) (own_count ws k (union S T) w) (cover_of ws k (union S T) w)
    (cover-le ws k S w left) (cover-le ws k T w right)
    (filter-le (in_set S) (writes_of ws k w)) (filter-le (in_set T) (writes_of ws k w)) counts covers
    ∙ sym (entry_in-rendered ws k (union S T) w orderly both)
