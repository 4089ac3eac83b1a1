-- A write moves the object of a set to that of the set with what the write had read, and the write.
use Rattle.std.proofs.Common.{◌≡◌, ℕ, ◌+◌, ◌-◌, ◌<◌, ◌≤◌, Bool, true, false, cond, zero, suc, List, [], ◌∷◌, length, take, drop, sym, ap, refl, ◌∙◌, arith, max, ⊎_elim, Some, map, eqb}
use Rattle.std.specs.Prelude.{◌&&◌, ◌||◌, not, filter}
use Rattle.std.proofs.lemmas.Bool.{false≢true, and_parts, or_left, or_right, or_cases, eq-eqb, ne_eqb, false_from_ne_true}
use Rattle.meta_types.specs.Value.{ValueParts}
use Rattle.dvvset.specs.Object.{Entry}
use Rattle.dvvset.specs.Clock.{join, blanks, sync, update}
use Rattle.dvvset.specs.Writer.{entry_of}
use Rattle.dvvset.proofs.Writers.{Rises, sync_at, entry_of-sync, Rises-sync, Rises-blanks, Rises-raise}
use Rattle.past_model.specs.Sets.{Places, union, singleton}
use Rattle.past_model.specs.Past.{Write, In}
use Rattle.past_model.specs.Shown.{IsClosed, was_read, is_sibling, IsObjectOf}
use Rattle.past_model.proofs.Orderly.{Below, IsFalling, Orderly}
use Rattle.past_model.proofs.Older.{IsOlder, filter-le, filter-older, filter-between, filter-union, IsOlder-union}
use Rattle.past_model.proofs.Rendered.{entry_with, rendered, sync-rendered}
use Rattle.past_model.proofs.Members.{any-cong, filter-cong}
use Rattle.past_model.proofs.Closed.{in_set, read_in, writes_of, in_set-older, key_of, was_read-within, was_read-older, was_read-union, filter-own, own_count, cover_of, count_in-own, cover-le, IsClosed-union, entry_in, entry_in-rendered}
use Rattle.past_model.proofs.Staying.{not_in}
use Rattle.past_model.proofs.Entries.{HasEntries, entries_of_object, object_from_entries}
use Rattle.past_model.proofs.Raised.{raised, entry_of-raise, blank, entry_of-blanks}

-- the set with what the write had read, and the write
abbrev pub with_write : Places → Write → Places
with_write K x = union K (union x.read (singleton x.place))

-- ---- what that set holds, and has read, of the older writes

abbrev pub held : Places → Write → Write → Bool
held K x y = in_set (union K x.read) y

abbrev pub covered : List Write → Places → Write → ℕ → Bool
covered ws K x p = x.read p || was_read ws K p

abbrev covered_at : List Write → Places → Write → Write → Bool
covered_at ws K x y = covered ws K x y.place

or-none : (a b c : Bool) → c ≡ false → (a || (b || c)) ≡ (a || b)
or-none a b false e = elim a as (λ a. (a || (b || false)) ≡ (a || b)) [ true ↦ refl | false ↦ elim b as (λ b. (b || false) ≡ b) [ true ↦ refl | false ↦ refl ] ]
or-none a b true e = absurd (cc)

held-is : (ws : List Write) (K : Places) (x : Write) → Below x.place ws → (y : Write) → In y ws → with_write K x y.place ≡ held K x y
held-is ws K x below y m =
    let low : y.place < x.place = below.all y m in
    let other : (y.place ≡ x.place → ⊥) = λ e. absurd (omega arith) in
    or-none (K y.place) (x.read y.place) (eqb y.place x.place) (ne_eqb y.place x.place other)

with_write-itself : (K : Places) (x : Write) → with_write K x x.place ≡ true
with_write-itself K x = or_right (K x.place) (x.read x.place || eqb x.place x.place) (or_right (x.read x.place) (eqb x.place x.place) (eq-eqb x.place x.place refl))

-- of two tests within one another the inner adds nothing
or_absorb : (r u v : Bool) → (v ≡ true → r ≡ true) → (r || (u || v)) ≡ (r || u)
or_absorb true u v sub = refl
or_absorb false true v sub = refl
or_absorb false false true sub = sym (sub refl)
or_absorb false false false sub = refl

covered-is : (ws : List Write) (K : Places) (x : Write) → Below x.place ws → IsClosed ws x.key x.read → (p : ℕ) → was_read (x ∷ ws) (with_write K x) p ≡ covered ws K x p
covered-is ws K x below had p =
    (λ i. (with_write-itself K x i && x.read p) || any-cong (λ q. with_write K x q.place && q.read p) (λ q. held K x q && q.read p) ws (λ q m. ap (λ b. b && q.read p) (held-is ws K x below q m)) i)
    ∙ ap (λ b. x.read p || b) (was_read-union ws K x.read p)
    ∙ or_absorb (x.read p) (was_read ws K p) (was_read ws x.read p) (was_read-within ws x.key x.read had p)

covered-within : (ws : List Write) (K : Places) (x : Write) → IsClosed ws x.key K → (p : ℕ) → covered ws K x p ≡ true → union K x.read p ≡ true
covered-within ws K x known p e =
    ⊎_elim (λ h. or_right (K p) (x.read p) h) (λ h. or_left (K p) (x.read p) (was_read-within ws x.key K known p h)) (or_cases (x.read p) (was_read ws K p) e)

-- the write itself is new
fresh : (ws : List Write) (K : Places) (x : Write) → Below x.place ws → IsClosed ws x.key K → IsClosed ws x.key x.read → covered ws K x x.place ≡ false
fresh ws K x below known had =
    false_from_ne_true (covered ws K x x.place)
    (λ e. false≢true (sym (not_in ws x.key (union K x.read) x below (IsClosed-union ws x.key K x.read known had)) ∙ covered-within ws K x known x.place e))

-- ---- a writer's entry of that set

abbrev pub held_count : List Write → Places → Write → ℕ → ℕ
held_count ws K x u = own_count ws x.key (union K x.read) u

abbrev covered_count : List Write → Places → Write → ℕ → ℕ
covered_count ws K x u = length (filter (covered_at ws K x) (writes_of ws x.key u))

-- the values that it shows of the older writes
abbrev older : List Write → Places → Write → ℕ → List ValueParts
older ws K x u = map (λ y. y.value) (take (held_count ws K x u - covered_count ws K x u) (drop (length (writes_of ws x.key u) - held_count ws K x u) (writes_of ws x.key u)))

covered-older : (ws : List Write) (K : Places) (x : Write) (u : ℕ) → Orderly ws → IsClosed ws x.key K → IsClosed ws x.key x.read → IsOlder (covered_at ws K x) (writes_of ws x.key u)
covered-older ws K x u orderly known had =
    IsOlder-union (in_set x.read) (read_in ws K) (writes_of ws x.key u) (in_set-older ws x.key x.read u orderly.ordered.falling had) (was_read-older ws x.key K u orderly known)

-- how many of the older ones the set has
older_count : (ws : List Write) (K : Places) (x : Write) (u : ℕ) → Orderly ws → Below x.place ws → IsClosed ws x.key K → IsClosed ws x.key x.read
    → length (filter (λ y. eqb y.writer u && with_write K x y.place) ws) ≡ held_count ws K x u
older_count ws K x u orderly below known had =
    ap length (filter-cong (λ y. eqb y.writer u && with_write K x y.place) (λ y. eqb y.writer u && held K x y) ws (λ y m. ap (λ b. eqb y.writer u && b) (held-is ws K x below y m)))
    ∙ count_in-own ws x.key (union K x.read) u orderly.ordered.falling (IsClosed-union ws x.key K x.read known had)

-- those that it shows
older_part : (ws : List Write) (K : Places) (x : Write) (u : ℕ) → Orderly ws → Below x.place ws → IsClosed ws x.key K → IsClosed ws x.key x.read
    → map (λ y. y.value) (filter (λ y. eqb y.writer u && is_sibling (x ∷ ws) (with_write K x) y) ws) ≡ older ws K x u
older_part ws K x u orderly below known had =
    let both : IsClosed ws x.key (union K x.read) = IsClosed-union ws x.key K x.read known had in
    let falling : IsFalling ws = orderly.ordered.falling in
    let p : IsOlder (in_set (union K x.read)) (writes_of ws x.key u) = in_set-older ws x.key (union K x.read) u falling both in
    ap (λ l. map (λ y. y.value) l)
    (filter-cong (λ y. eqb y.writer u && is_sibling (x ∷ ws) (with_write K x) y) (λ y. eqb y.writer u && (held K x y && not (covered ws K x y.place))) ws
    (λ y m. λ i. eqb y.writer u && (held-is ws K x below y m i && not (covered-is ws K x below had y.place i)))
    ∙ filter-own ws x.key u (λ y. held K x y && not (covered ws K x y.place))
    (λ y m e. key_of ws x.key (union K x.read) y falling both m (and_parts (held K x y) (not (covered ws K x y.place)) e).0)
    ∙ filter-between (in_set (union K x.read)) (covered_at ws K x) (λ y. covered-within ws K x known y.place) (writes_of ws x.key u) p (covered-older ws K x u orderly known had)
    ∙ ap (λ l. take (held_count ws K x u - covered_count ws K x u) l) (filter-older (in_set (union K x.read)) (writes_of ws x.key u) p))

and-all : (a b : Bool) → b ≡ true → (a && b) ≡ a
and-all true b e = e
and-all false b e = refl

-- a list without length from the start
none_taken : (ws : List Write) (n : ℕ) → map (λ y. y.value) (take (zero - n) ws) ≡ []
none_taken ws n = let e : zero - n ≡ zero = omega arith in ap (λ m. map (λ y. y.value) (take m ws)) e

raised-with : (u : ℕ) (v : ValueParts) (n : ℕ) (values : List ValueParts) → (n ≡ zero → values ≡ []) → raised u v (entry_with u n values) ≡ entry_with u (suc n) (v ∷ values)
raised-with u v zero values none = λ i. Some (record { id = u; count = 1; values = v ∷ sym (none refl) i })
raised-with u v (suc n) values none =
    let e : suc n + 1 ≡ suc (suc n) = omega arith in
    λ i. Some (record { id = u; count = e i; values = v ∷ values })

-- the write's own entry is one longer, and the others' are those of the older writes
entry_in-write : (ws : List Write) (K : Places) (x : Write) (u : ℕ) → Orderly ws → Below x.place ws → IsClosed ws x.key K → IsClosed ws x.key x.read
    → entry_in (x ∷ ws) (with_write K x) u ≡ cond (eqb x.writer u) (raised u x.value (rendered u (writes_of ws x.key u) (held_count ws K x u) (covered_count ws K x u))) (rendered u (writes_of ws x.key u) (held_count ws K x u) (covered_count ws K x u))
entry_in-write ws K x u orderly below known had =
    let here : (eqb x.writer u && with_write K x x.place) ≡ eqb x.writer u = and-all (eqb x.writer u) (with_write K x x.place) (with_write-itself K x) in
    let unread : is_sibling (x ∷ ws) (with_write K x) x ≡ true =
    (λ i. with_write-itself K x i && not ((covered-is ws K x below had x.place ∙ fresh ws K x below known had) i)) in
    let sibling : (eqb x.writer u && is_sibling (x ∷ ws) (with_write K x) x) ≡ eqb x.writer u = and-all (eqb x.writer u) (is_sibling (x ∷ ws) (with_write K x) x) unread in
    let n : length (filter (λ y. eqb y.writer u && with_write K x y.place) ws) ≡ held_count ws K x u = older_count ws K x u orderly below known had in
    let values : map (λ y. y.value) (filter (λ y. eqb y.writer u && is_sibling (x ∷ ws) (with_write K x) y) ws) ≡ older ws K x u = older_part ws K x u orderly below known had in
    (λ i. entry_with u (length (cond (here i) (x ∷ filter (λ y. eqb y.writer u && with_write K x y.place) ws) (filter (λ y. eqb y.writer u && with_write K x y.place) ws)))
    (map (λ y. y.value) (cond (sibling i) (x ∷ filter (λ y. eqb y.writer u && is_sibling (x ∷ ws) (with_write K x) y) ws) (filter (λ y. eqb y.writer u && is_sibling (x ∷ ws) (with_write K x) y) ws))))
    ∙ elim (eqb x.writer u) as (λ b. entry_with u (length (cond b (x ∷ filter (λ y. eqb y.writer u && with_write K x y.place) ws) (filter (λ y. eqb y.writer u && with_write K x y.place) ws)))
    (map (λ y. y.value) (cond b (x ∷ filter (λ y. eqb y.writer u && is_sibling (x ∷ ws) (with_write K x) y) ws) (filter (λ y. eqb y.writer u && is_sibling (x ∷ ws) (with_write K x) y) ws)))
    ≡ cond b (raised u x.value (rendered u (writes_of ws x.key u) (held_count ws K x u) (covered_count ws K x u))) (rendered u (writes_of ws x.key u) (held_count ws K x u) (covered_count ws K x u))) [
      | true ↦
          (λ i. entry_with u (suc (n i)) (x.value ∷ values i))
          ∙ sym (raised-with u x.value (held_count ws K x u) (older ws K x u)
          (λ e. ap (λ m. map (λ y. y.value) (take (m - covered_count ws K x u) (drop (length (writes_of ws x.key u) - held_count ws K x u) (writes_of ws x.key u)))) e
          ∙ none_taken (drop (length (writes_of ws x.key u) - held_count ws K x u) (writes_of ws x.key u)) (covered_count ws K x u)))
      | false ↦ λ i. entry_with u (n i) (values i)
    ]

-- ---- what merging with the vector of what was read gives

blank-rendered : (w : ℕ) (own : List Write) (p q : ℕ) → blank (rendered w own p q) ≡ rendered w own p p
blank-rendered w own zero q = refl
blank-rendered w own (suc n) q =
    let e : zero ≡ suc n - suc n = omega arith in
    λ i. Some (record { id = w; count = suc n; values = map (λ y. y.value) (take (e i) (drop (length own - suc n) own)) })

read-rendered : (ws : List Write) (K : Places) (x : Write) (u : ℕ) → Orderly ws → IsClosed ws x.key K → IsClosed ws x.key x.read
    → sync_at (blank (entry_in ws x.read u)) (entry_in ws K u) ≡ rendered u (writes_of ws x.key u) (held_count ws K x u) (covered_count ws K x u)
read-rendered ws K x u orderly known had =
    let falling : IsFalling ws = orderly.ordered.falling in
    let counts : held_count ws K x u ≡ max (own_count ws x.key K u) (own_count ws x.key x.read u) =
    filter-union (in_set K) (in_set x.read) (writes_of ws x.key u) (in_set-older ws x.key K u falling known) (in_set-older ws x.key x.read u falling had) in
    let covers : covered_count ws K x u ≡ max (own_count ws x.key x.read u) (cover_of ws x.key K u) =
    filter-union (in_set x.read) (read_in ws K) (writes_of ws x.key u) (in_set-older ws x.key x.read u falling had) (was_read-older ws x.key K u orderly known) in
    let le : own_count ws x.key x.read u ≤ own_count ws x.key x.read u = omega arith in
    let turned : held_count ws K x u ≡ max (own_count ws x.key x.read u) (own_count ws x.key K u) = omega arith in
    (λ i. sync_at (blank (entry_in-rendered ws x.key x.read u orderly had i)) (entry_in-rendered ws x.key K u orderly known i))
    ∙ ap (λ o. sync_at o (rendered u (writes_of ws x.key u) (own_count ws x.key K u) (cover_of ws x.key K u))) (blank-rendered u (writes_of ws x.key u) (own_count ws x.key x.read u) (cover_of ws x.key x.read u))
    ∙ sync-rendered u (writes_of ws x.key u) (own_count ws x.key x.read u) (own_count ws x.key x.read u) (own_count ws x.key K u) (cover_of ws x.key K u) (held_count ws K x u) (covered_count ws K x u)
    le (cover-le ws x.key K u known) (filter-le (in_set x.read) (writes_of ws x.key u)) (filter-le (in_set K) (writes_of ws x.key u)) turned covers

-- ---- the law of a write

update_entries : (ws : List Write) (K : Places) (x : Write) (a b : List Entry) → Orderly ws → Below x.place ws → IsObjectOf ws x.key K a → IsObjectOf ws x.key x.read b → HasEntries (x ∷ ws) (with_write K x) (update (join b) a x.writer x.value)
update_entries ws K x a b orderly below known had =
    let left : HasEntries ws K a = entries_of_object ws x.key K a known in
    let right : HasEntries ws x.read b = entries_of_object ws x.key x.read b had in
    let blanked : Rises 0 (blanks (join b)) = Rises-blanks (join b) 0 had.context.rising in
    let rises : Rises 0 (sync (blanks (join b)) a) = Rises-sync (blanks (join b)) a 0 blanked left.rises in
    let synced : (u : ℕ) → entry_of (sync (blanks (join b)) a) u ≡ rendered u (writes_of ws x.key u) (held_count ws K x u) (covered_count ws K x u) = λ u.
    entry_of-sync (blanks (join b)) a 0 u blanked left.rises
    ∙ (λ i. sync_at ((entry_of-blanks b u ∙ ap blank (right.entries u)) i) (left.entries u i))
    ∙ read-rendered ws K x u orderly known.closed had.closed in
    record {
      rises = Rises-raise x.writer x.value (sync (blanks (join b)) a) 0 (omega arith) rises;
      entries = λ u.
          entry_of-raise x.writer x.value (sync (blanks (join b)) a) 0 u rises
          ∙ (λ i. cond (eqb x.writer u) (raised u x.value (synced u i)) (synced u i))
          ∙ sym (entry_in-write ws K x u orderly below known.closed had.closed);
    }

pub update_object : (ws : List Write) (K : Places) (x : Write) (a b : List Entry) → Orderly ws → Below x.place ws → IsClosed (x ∷ ws) x.key (with_write K x) → IsObjectOf ws x.key K a → IsObjectOf ws x.key x.read b → IsObjectOf (x ∷ ws) x.key (with_write K x) (update (join b) a x.writer x.value)
update_object ws K x a b orderly below closed known had =
    object_from_entries (x ∷ ws) x.key (with_write K x) (update (join b) a x.writer x.value) closed (update_entries ws K x a b orderly below known had)
