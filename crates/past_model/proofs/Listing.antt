-- Lists by writer and by place: siblings, counters, and the places of a set.
use Rattle.std.proofs.Common.{◌≡◌, ℕ, ◌+◌, ◌*◌, ◌<◌, ◌≤◌, Bool, true, false, cond, zero, suc, List, [], ◌∷◌, ◌++◌, length, map, take, get_or, All, sym, ap, refl, subst, ◌∙◌, arith, ⊎_elim, inl, inr, eqb, Some, add-one, append_assoc}
use Rattle.std.specs.Prelude.{slice_get, ◌&&◌, ◌||◌, not, filter}
use Rattle.std.specs.List.{list_any}
use Rattle.std.proofs.Math.Bool.{or-false, and-false, and-true}
use Rattle.std.proofs.Math.Seq.{take-length}
use Rattle.std.proofs.lemmas.Bool.{cases_eq, cases_lt, eqb-true, eq-eqb, ne_eqb, and_parts, and_from}
use Rattle.std.proofs.lemmas.List.{append-nil, map-append}
use Rattle.std.proofs.lemmas.List.Elements.{All-nil, All-cons, All-head, All-tail, All-append, All-push, All-weaker, filter-append}
use Rattle.std.proofs.lemmas.List.Folds.{list_any-append}
use Rattle.meta_types.specs.Node.{IsNode}
use Rattle.meta_types.specs.Actor.{IsWriter, incarnations, writer_number}
use Rattle.meta_types.specs.Value.{ValueParts}
use Rattle.dvvset.specs.Object.{Counter, RisesFrom, ids_counted, IsCounter, IsVector}
use Rattle.dvvset.specs.Clock.{count_for}
use Rattle.dvvset.proofs.Objects.{vector_from_rest}
use Rattle.past_model.specs.declared.happening.Happening.{Happening}
use Rattle.past_model.specs.declared.happening.Happening.TheVariants.{Wrote, Looked, Sent, Got, Kept, Restarted}
use Rattle.past_model.specs.Sets.{Places}
use Rattle.past_model.specs.Past.{Past, Write, In, start, happens, run, past, writer_of, writes}
use Rattle.past_model.specs.History.{IsHistory, most_restarts}
use Rattle.past_model.specs.Shown.{ArePlaces, was_read, is_sibling, InOrder, Shows, count_in, IsContext, siblings_by}
use Rattle.past_model.specs.Moment.{writes_of_happening, node_of}
use Rattle.past_model.proofs.Orderly.{IsFalling}
use Rattle.past_model.proofs.Placed.{written, ordered}
use Rattle.past_model.proofs.Lives.{IsLifeOfNode, more-restarted}
use Rattle.past_model.proofs.Sound.{sound_past}
use Rattle.past_model.proofs.Members.{in_filter, of_filter}
use Rattle.past_model.proofs.Showing.{in_append, append_left, append_right, order_append, order_filter}
use Rattle.past_model.proofs.Counting.{writes_next, writes_made}
use Rattle.past_model.proofs.Told.{next_at}

-- ---- the siblings of one writer, from the last place down

-- a writer's siblings
abbrev pub by_writer : List Write → Places → ℕ → List Write
by_writer ws S w = filter (λ x. eqb x.writer w && is_sibling ws S x) ws

-- the values of those at the first places
abbrev pub below_place : List Happening → Places → ℕ → ℕ → List ValueParts
below_place hs S w i = map (λ x. x.value) (filter (λ x. eqb x.writer w && is_sibling (writes hs) S x) (writes (take i hs)))

-- what is listed, and what is still to come, are the writer's siblings
pub record Listed (hs : List Happening) (S : Places) (w : ℕ) (old values : List ValueParts) (i : ℕ) : Type 0 where
  pub whole : values ++ below_place hs S w i ≡ old ++ siblings_by (writes hs) S w

one_kept : (a b : Bool) (x : Write) → cond (a && b) (x ∷ []) [] ≡ cond b (cond a (x ∷ []) []) []
one_kept true true x = refl
one_kept true false x = refl
one_kept false true x = refl
one_kept false false x = refl

none_kept : (b : Bool) → ◌≡◌ {A = List Write} [] (cond b [] [])
none_kept true = refl
none_kept false = refl

-- the write that a happening makes is kept if its place is a sibling's
filter_made : (s : Past) (h : Happening) (ws : List Write) (S : Places) (w : ℕ) (b : Bool) → (S s.next && not (was_read ws S s.next)) ≡ b → filter (λ x. eqb x.writer w && is_sibling ws S x) (writes_of_happening s h) ≡ cond b (filter (λ x. eqb x.writer w) (writes_of_happening s h)) []
filter_made s (Wrote n k v r) ws S w b e =
    ap (λ t. cond (eqb (writer_of s n) w && t) (written s n k v r ∷ []) []) e ∙ one_kept (eqb (writer_of s n) w) b (written s n k v r)
filter_made s (Looked n k) ws S w b e = none_kept b
filter_made s (Sent n k) ws S w b e = none_kept b
filter_made s (Got n i) ws S w b e = none_kept b
filter_made s (Kept n k) ws S w b e = none_kept b
filter_made s (Restarted n j) ws S w b e = none_kept b

below_place-next : (hs : List Happening) (S : Places) (w i : ℕ) (h : Happening) (b : Bool) → i < length hs → h ≡ get_or hs i h → b ≡ (S i && not (was_read (writes hs) S i)) → below_place hs S w (i + 1) ≡ map (λ x. x.value) (cond b (filter (λ x. eqb x.writer w) (writes_of_happening (past (take i hs)) h)) []) ++ below_place hs S w i
below_place-next hs S w i h b lt is sibling =
    let P : Write → Bool = λ x. eqb x.writer w && is_sibling (writes hs) S x in
    let s : Past = past (take i hs) in
    let at : (S s.next && not (was_read (writes hs) S s.next)) ≡ b = ap (λ p. S p && not (was_read (writes hs) S p)) (next_at hs i (omega arith)) ∙ sym sibling in
    ap (λ ws. map (λ x. x.value) (filter P ws)) (writes_next hs i h lt is)
    ∙ ap (λ ws. map (λ x. x.value) ws) (filter-append P (writes_of_happening s h) (writes (take i hs)))
    ∙ map-append (λ x. x.value) (filter P (writes_of_happening s h)) (filter P (writes (take i hs)))
    ∙ ap (λ l. map (λ x. x.value) l ++ below_place hs S w i) (filter_made s h (writes hs) S w b at)

pub Listed-sibling : (hs : List Happening) (S : Places) (w : ℕ) (old values more : List ValueParts) (i j : ℕ) (h : Happening) → i < length hs → h ≡ get_or hs i h → j ≡ i + 1 → true ≡ (S i && not (was_read (writes hs) S i)) → more ≡ values ++ map (λ x. x.value) (filter (λ x. eqb x.writer w) (writes_of_happening (past (take i hs)) h)) → Listed hs S w old values j → Listed hs S w old more i
Listed-sibling hs S w old values more i j h lt is next sibling pushed l =
    let new : List ValueParts = map (λ x. x.value) (filter (λ x. eqb x.writer w) (writes_of_happening (past (take i hs)) h)) in
    record {
      whole =
          ap (λ vs. vs ++ below_place hs S w i) pushed
          ∙ append_assoc values new (below_place hs S w i)
          ∙ sym (ap (λ vs. values ++ vs) (below_place-next hs S w i h true lt is sibling))
          ∙ sym (ap (λ n. values ++ below_place hs S w n) next)
          ∙ l.whole;
    }

pub Listed-other : (hs : List Happening) (S : Places) (w : ℕ) (old values : List ValueParts) (i j : ℕ) (h : Happening) → i < length hs → h ≡ get_or hs i h → j ≡ i + 1 → false ≡ (S i && not (was_read (writes hs) S i)) → Listed hs S w old values j → Listed hs S w old values i
Listed-other hs S w old values i j h lt is next sibling l =
    record {
      whole =
          sym (ap (λ vs. values ++ vs) (below_place-next hs S w i h false lt is sibling))
          ∙ sym (ap (λ n. values ++ below_place hs S w n) next)
          ∙ l.whole;
    }

-- ---- the siblings of the first writers

abbrev pub by_writers : List Write → Places → ℕ → List Write
by_writers ws S zero = []
by_writers ws S (suc n) = by_writers ws S n ++ by_writer ws S n

pub by_writers-next : (ws : List Write) (S : Places) (n : ℕ) → map (λ x. x.value) (by_writers ws S (n + 1)) ≡ map (λ x. x.value) (by_writers ws S n) ++ siblings_by ws S n
by_writers-next ws S n =
    ap (λ m. map (λ x. x.value) (by_writers ws S m)) (add-one n) ∙ map-append (λ x. x.value) (by_writers ws S n) (by_writer ws S n)

-- of one writer
pub record IsBy (ws : List Write) (S : Places) (x : Write) (w : ℕ) : Type 0 where
  pub member : In x ws
  pub writer : x.writer ≡ w
  pub sibling : is_sibling ws S x ≡ true

of_writer : (ws : List Write) (S : Places) (w : ℕ) (x : Write) → In x (by_writer ws S w) → IsBy ws S x w
of_writer ws S w x m =
    let found : In x ws × ((eqb x.writer w && is_sibling ws S x) ≡ true) = of_filter (λ x. eqb x.writer w && is_sibling ws S x) ws x m in
    let parts : (eqb x.writer w ≡ true) × (is_sibling ws S x ≡ true) = and_parts (eqb x.writer w) (is_sibling ws S x) found.1 in
    record { member = found.0; writer = eqb-true x.writer w parts.0; sibling = parts.1 }

-- of one of the first writers
pub record IsBelow (ws : List Write) (S : Places) (x : Write) (n : ℕ) : Type 0 where
  pub member : In x ws
  pub writer : x.writer < n
  pub sibling : is_sibling ws S x ≡ true

of_writers : (ws : List Write) (S : Places) (n : ℕ) (x : Write) → In x (by_writers ws S n) → IsBelow ws S x n
of_writers ws S zero x m = absurd m
of_writers ws S (suc n) x m =
    ⊎_elim
    (λ h. let one : IsBelow ws S x n = of_writers ws S n x h in record { member = one.member; writer = let lt : x.writer < n = one.writer in omega arith; sibling = one.sibling })
    (λ h. let one : IsBy ws S x n = of_writer ws S n x h in record { member = one.member; writer = let e : x.writer ≡ n = one.writer in omega arith; sibling = one.sibling })
    (in_append (by_writers ws S n) (by_writer ws S n) x m)

in_writers : (ws : List Write) (S : Places) (n : ℕ) (x : Write) → In x ws → x.writer < n → is_sibling ws S x ≡ true → In x (by_writers ws S n)
in_writers ws S zero x m lt e = absurd (omega arith)
in_writers ws S (suc n) x m lt e =
    ⊎_elim
    (λ (same : x.writer ≡ n).
    append_right (by_writers ws S n) (by_writer ws S n) x
    (in_filter (λ x. eqb x.writer n && is_sibling ws S x) ws x m (and_from (eqb x.writer n) (is_sibling ws S x) (eq-eqb x.writer n same) e)))
    (λ ne. append_left (by_writers ws S n) (by_writer ws S n) x (in_writers ws S n x m (omega arith) e))
    (cases_eq x.writer n)

writers_ordered : (ws : List Write) (S : Places) (n : ℕ) → IsFalling ws → InOrder (by_writers ws S n)
writers_ordered ws S zero falling = tt
writers_ordered ws S (suc n) falling =
    order_append (by_writers ws S n) (by_writer ws S n) (writers_ordered ws S n falling) (order_filter n (is_sibling ws S) ws falling)
    (λ x y m l.
    let before : x.writer < n = (of_writers ws S n x m).writer in
    let here : y.writer ≡ n = (of_writer ws S n y l).writer in
    let lt : x.writer < y.writer = omega arith in
    inl lt)

-- ---- all writers are nodes

made_by : (s : Past) (h : Happening) (x : Write) → In x (writes_of_happening s h) → x.writer ≡ writer_of s (node_of h)
made_by s (Wrote n k v r) x m = ⊎_elim (λ here. ap (λ z. z.writer) here) (λ later. absurd later) m
made_by s (Looked n k) x m = absurd m
made_by s (Sent n k) x m = absurd m
made_by s (Got n i) x m = absurd m
made_by s (Kept n k) x m = absurd m
made_by s (Restarted n j) x m = absurd m

-- one more than the greatest number of a writer
abbrev pub writers : ℕ
writers = 16 * incarnations

-- each writer is that of a node in a life that has begun
pub record Writers (s : Past) : Type 0 where
  pub below : (x : Write) → In x s.writes → IsLifeOfNode s.restarts x.writer

writers_more : (s : Past) (h : Happening) (w : ℕ) → IsLifeOfNode s.restarts w → IsLifeOfNode (happens s h).restarts w
writers_more s (Wrote n k v r) w is = is
writers_more s (Looked n k) w is = is
writers_more s (Sent n k) w is = is
writers_more s (Got n i) w is = is
writers_more s (Kept n k) w is = is
writers_more s (Restarted n j) w is =
    let begun : is.life ≤ s.restarts is.node + 1 = is.begun in
    record { node = is.node; life = is.life; writer = is.writer; in_range = is.in_range; least = is.least; begun = omega (arith, begun, more-restarted s n is.node) }

writers_run : (s : Past) (hs : List Happening) → ((p : ℕ) (h : Happening) → slice_get hs p ≡ Some h → IsNode (node_of h)) → Writers s → Writers (run s hs)
writers_run s [] nodes w = w
writers_run s (h ∷ hs) nodes w =
    writers_run (happens s h) hs (λ p g at. nodes (suc p) g at)
    (record {
      below = λ x m. ⊎_elim
          (λ new. writers_more s h x.writer
          (record { node = node_of h; life = s.restarts (node_of h) + 1; writer = made_by s h x new; in_range = nodes 0 h refl; least = omega arith; begun = omega arith }))
          (λ old. writers_more s h x.writer (w.below x old))
          (in_append (writes_of_happening s h) s.writes x (subst (λ ws. In x ws) (writes_made s h) m));
    })

pub writers_of_nodes : (hs : List Happening) → ((p : ℕ) (h : Happening) → slice_get hs p ≡ Some h → IsNode (node_of h)) → Writers (past hs)
writers_of_nodes hs nodes = writers_run start hs nodes (record { below = λ x m. absurd m })

pub writers_below : (hs : List Happening) → IsHistory hs → ((p : ℕ) (h : Happening) → slice_get hs p ≡ Some h → IsNode (node_of h)) → (x : Write) → In x (writes hs) → x.writer < writers
writers_below hs history nodes x m =
    let of = (writers_of_nodes hs nodes).below x m in
    let few : (past hs).restarts of.node ≤ most_restarts = (sound_past hs history).lives.few of.node in
    let in_range : of.node < 16 = of.in_range in
    let begun : of.life ≤ (past hs).restarts of.node + 1 = of.begun in
    let is : x.writer ≡ writer_number of.node of.life = of.writer in
    omega (arith, few, in_range, begun, is)

pub all_shown : (hs : List Happening) (S : Places) (values : List ValueParts) → IsHistory hs → ((p : ℕ) (h : Happening) → slice_get hs p ≡ Some h → IsNode (node_of h)) → values ≡ map (λ x. x.value) (by_writers (writes hs) S writers) → Shows (writes hs) S values
all_shown hs S values history nodes is =
    let ws : List Write = writes hs in
    record {
      siblings = by_writers ws S writers;
      are = record {
        members = λ x. (
          λ m. let one : IsBelow ws S x writers = of_writers ws S writers x m in (one.member, one.sibling),
          λ m. in_writers ws S writers x m.0 (writers_below hs history nodes x m.0) m.1,
        );
        ordered = writers_ordered ws S writers (ordered hs).falling;
      };
      of_siblings = is;
    }

-- ---- numbers that rise

rises_snoc : (ns : List ℕ) (low n : ℕ) → low ≤ n → RisesFrom low ns → All (λ k. k < n) ns → RisesFrom low (ns ++ n ∷ [])
rises_snoc [] low n le rises all = (le, tt)
rises_snoc (m ∷ ns) low n le rises all =
    let lt : m < n = All-head (λ k. k < n) m ns all in
    (rises.0, rises_snoc ns (m + 1) n (omega arith) rises.1 (All-tail (λ k. k < n) m ns all))

-- numbers that rise, all below one
pub record Rise (n : ℕ) (ns : List ℕ) : Type 0 where
  pub rising : RisesFrom 0 ns
  pub below : All (λ k. k < n) ns

pub rise_none : Rise 0 []
rise_none = record { rising = tt; below = All-nil (λ k. k < 0) }

pub rise_below : (n m : ℕ) (ns : List ℕ) → n ≤ m → Rise n ns → Rise m ns
rise_below n m ns le r = record { rising = r.rising; below = All-weaker (λ k. k < n) (λ k. k < m) (λ k lt. omega (arith, lt, le)) ns r.below }

rise_same : (n : ℕ) (ns : List ℕ) → Rise n ns → Rise (suc n) ns
rise_same n ns r = rise_below n (suc n) ns (omega arith) r

-- one more number, and all stay below
pub rise_on : (n w m : ℕ) (ns : List ℕ) → n ≤ w → w < m → Rise n ns → Rise m (ns ++ w ∷ [])
rise_on n w m ns le lt r =
    let below : All (λ k. k < w) ns = All-weaker (λ k. k < n) (λ k. k < w) (λ k less. omega (arith, less, le)) ns r.below in
    record {
      rising = rises_snoc ns 0 w (omega arith) r.rising below;
      below = All-push (λ k. k < m) ns w (All-weaker (λ k. k < w) (λ k. k < m) (λ k less. omega (arith, less, lt)) ns below) lt;
    }

rise_more : (n : ℕ) (ns : List ℕ) → Rise n ns → Rise (suc n) (ns ++ n ∷ [])
rise_more n ns r = rise_on n n (suc n) ns (omega arith) (omega arith) r

-- ---- the places of a set

abbrev pub places_to : Places → ℕ → List ℕ
places_to S zero = []
places_to S (suc n) = places_to S n ++ cond (S n) (n ∷ []) []

places_rise : (S : Places) (n : ℕ) → Rise n (places_to S n)
places_rise S zero = rise_none
places_rise S (suc n) =
    elim (S n) as (λ b. Rise (suc n) (places_to S n ++ cond b (n ∷ []) [])) [
      | true ↦ rise_more n (places_to S n) (places_rise S n)
      | false ↦ subst (Rise (suc n)) (sym (append-nil (places_to S n))) (rise_same n (places_to S n) (places_rise S n))
    ]

-- whether the place is the next one of the set
last_place : (S : Places) (n p : ℕ) → list_any (λ q. eqb q p) (places_to S (suc n)) ≡ (list_any (λ q. eqb q p) (places_to S n) || (S n && eqb n p))
last_place S n p =
    list_any-append (λ q. eqb q p) (places_to S n) (cond (S n) (n ∷ []) [])
    ∙ ap (λ b. list_any (λ q. eqb q p) (places_to S n) || b)
    (elim (S n) as (λ b. list_any (λ q. eqb q p) (cond b (n ∷ []) []) ≡ (b && eqb n p)) [
      | true ↦ or-false (eqb n p)
      | false ↦ refl
    ])

places_past : (S : Places) (n p : ℕ) → n ≤ p → list_any (λ q. eqb q p) (places_to S n) ≡ false
places_past S zero p le = refl
places_past S (suc n) p le =
    let other : (n ≡ p → ⊥) = λ e. absurd (omega arith) in
    last_place S n p
    ∙ ap (λ b. b || (S n && eqb n p)) (places_past S n p (omega arith))
    ∙ ap (λ b. S n && b) (ne_eqb n p other)
    ∙ and-false (S n)

places_in : (S : Places) (n p : ℕ) → p < n → list_any (λ q. eqb q p) (places_to S n) ≡ S p
places_in S zero p lt = absurd (omega arith)
places_in S (suc n) p lt =
    last_place S n p
    ∙ ⊎_elim
    (λ (same : n ≡ p).
    ap (λ b. b || (S n && eqb n p)) (places_past S n p (omega arith)) ∙ ap (λ b. S n && b) (eq-eqb n p same) ∙ and-true (S n) ∙ ap S same)
    (λ ne.
    ap (λ b. list_any (λ q. eqb q p) (places_to S n) || (S n && b)) (ne_eqb n p ne)
    ∙ ap (λ b. list_any (λ q. eqb q p) (places_to S n) || b) (and-false (S n))
    ∙ or-false (list_any (λ q. eqb q p) (places_to S n))
    ∙ places_in S n p (omega arith))
    (cases_eq n p)

pub all_places : (S : Places) (n : ℕ) (places : List ℕ) → ((p : ℕ) → n ≤ p → S p ≡ false) → places ≡ places_to S n → ArePlaces S places
all_places S n places none is =
    subst (ArePlaces S) (sym is)
    (record {
      all = λ p. ⊎_elim (λ lt. places_in S n p lt) (λ le. places_past S n p le ∙ sym (none p le)) (cases_lt p n);
      rising = (places_rise S n).rising;
    })

-- ---- the counters of the first writers

abbrev pub counter_of : ℕ → ℕ → List Counter
counter_of w n = cond (eqb n 0) [] ((record { id = w; count = n }) ∷ [])

abbrev pub counters_to : List Write → Places → ℕ → List Counter
counters_to ws S zero = []
counters_to ws S (suc n) = counters_to ws S n ++ counter_of n (count_in ws S n)

ids_append : (xs ys : List Counter) → ids_counted (xs ++ ys) ≡ ids_counted xs ++ ids_counted ys
ids_append xs ys = map-append (λ (c : Counter). c.id) xs ys

counters_rise : (ws : List Write) (S : Places) (n : ℕ) → Rise n (ids_counted (counters_to ws S n))
counters_rise ws S zero = rise_none
counters_rise ws S (suc n) =
    subst (Rise (suc n)) (sym (ids_append (counters_to ws S n) (counter_of n (count_in ws S n))))
    (elim (eqb (count_in ws S n) 0) as (λ b. Rise (suc n) (ids_counted (counters_to ws S n) ++ ids_counted (cond b [] ((record { id = n; count = count_in ws S n }) ∷ [])))) [
      | true ↦ subst (Rise (suc n)) (sym (append-nil (ids_counted (counters_to ws S n)))) (rise_same n (ids_counted (counters_to ws S n)) (counters_rise ws S n))
      | false ↦ rise_more n (ids_counted (counters_to ws S n)) (counters_rise ws S n)
    ])

counter_left : (xs ys : List Counter) (w : ℕ) → count_for ys w ≡ 0 → count_for (xs ++ ys) w ≡ count_for xs w
counter_left [] ys w none = none
counter_left (x ∷ xs) ys w none = ap (λ n. cond (eqb x.id w) x.count n) (counter_left xs ys w none)

counter_right : (xs ys : List Counter) (w n : ℕ) → n ≤ w → All (λ k. k < n) (ids_counted xs) → count_for (xs ++ ys) w ≡ count_for ys w
counter_right [] ys w n le below = refl
counter_right (x ∷ xs) ys w n le below =
    let lt : x.id < n = All-head (λ k. k < n) x.id (ids_counted xs) below in
    let other : (x.id ≡ w → ⊥) = λ e. absurd (omega arith) in
    ap (λ b. cond b x.count (count_for (xs ++ ys) w)) (ne_eqb x.id w other) ∙ counter_right xs ys w n le (All-tail (λ k. k < n) x.id (ids_counted xs) below)

some_counter : (w n : ℕ) → counter_of w (suc n) ≡ (record { id = w; count = suc n }) ∷ []
some_counter w n = ap (λ b. cond b [] ((record { id = w; count = suc n }) ∷ [])) (ne_eqb (suc n) 0 (λ e. absurd (omega arith)))

counter_here : (w n : ℕ) → count_for (counter_of w n) w ≡ n
counter_here w zero = refl
counter_here w (suc n) = ap (λ l. count_for l w) (some_counter w n) ∙ ap (λ b. cond b (suc n) 0) (eq-eqb w w refl)

counter_there : (v n w : ℕ) → (v ≡ w → ⊥) → count_for (counter_of v n) w ≡ 0
counter_there v zero w ne = refl
counter_there v (suc n) w ne = ap (λ l. count_for l w) (some_counter v n) ∙ ap (λ b. cond b (suc n) 0) (ne_eqb v w ne)

counters_past : (ws : List Write) (S : Places) (n w : ℕ) → n ≤ w → count_for (counters_to ws S n) w ≡ 0
counters_past ws S zero w le = refl
counters_past ws S (suc n) w le =
    counter_left (counters_to ws S n) (counter_of n (count_in ws S n)) w (counter_there n (count_in ws S n) w (λ e. absurd (omega arith)))
    ∙ counters_past ws S n w (omega arith)

counters_in : (ws : List Write) (S : Places) (n w : ℕ) → w < n → count_for (counters_to ws S n) w ≡ count_in ws S w
counters_in ws S zero w lt = absurd (omega arith)
counters_in ws S (suc n) w lt =
    ⊎_elim
    (λ (same : n ≡ w).
    counter_right (counters_to ws S n) (counter_of n (count_in ws S n)) w n (omega arith) (counters_rise ws S n).below
    ∙ ap (λ m. count_for (counter_of m (count_in ws S m)) w) same
    ∙ counter_here w (count_in ws S w))
    (λ ne.
    counter_left (counters_to ws S n) (counter_of n (count_in ws S n)) w (counter_there n (count_in ws S n) w ne)
    ∙ counters_in ws S n w (omega arith))
    (cases_eq n w)

counter_held : (w n : ℕ) → All (λ c. 1 ≤ c.count) (counter_of w n)
counter_held w zero = All-nil (λ (c : Counter). 1 ≤ c.count)
counter_held w (suc n) =
    subst (All (λ (c : Counter). 1 ≤ c.count)) (sym (some_counter w n)) (All-cons (λ (c : Counter). 1 ≤ c.count) (record { id = w; count = suc n }) [] (omega arith) (All-nil (λ (c : Counter). 1 ≤ c.count)))

counters_held : (ws : List Write) (S : Places) (n : ℕ) → All (λ c. 1 ≤ c.count) (counters_to ws S n)
counters_held ws S zero = All-nil (λ (c : Counter). 1 ≤ c.count)
counters_held ws S (suc n) = All-append (λ (c : Counter). 1 ≤ c.count) (counters_to ws S n) (counter_of n (count_in ws S n)) (counters_held ws S n) (counter_held n (count_in ws S n))

-- a writer that is no node has no write
no_writes : (ws : List Write) (S : Places) (most w : ℕ) → ((x : Write) → In x ws → x.writer < most) → most ≤ w → count_in ws S w ≡ 0
no_writes [] S most w below le = refl
no_writes (x ∷ xs) S most w below le =
    let node : x.writer < most = below x (inl refl) in
    let other : (x.writer ≡ w → ⊥) = λ e. absurd (omega arith) in
    ap (λ b. length (cond (b && S x.place) (x ∷ filter (λ y. eqb y.writer w && S y.place) xs) (filter (λ y. eqb y.writer w && S y.place) xs))) (ne_eqb x.writer w other)
    ∙ no_writes xs S most w (λ y m. below y (inr m)) le

-- the counters so far, and they are lawful
pub record Counters (ws : List Write) (S : Places) (n : ℕ) (cs : List Counter) : Type 0 where
  pub are : cs ≡ counters_to ws S n
  pub lawful : All IsCounter cs

pub Counters-start : (ws : List Write) (S : Places) → Counters ws S 0 []
Counters-start ws S = record { are = refl; lawful = All-nil IsCounter }

lawful_counter : (w n : ℕ) → IsWriter w → n < 18446744073709551616 → All IsCounter (counter_of w n)
lawful_counter w zero node lt = All-nil IsCounter
lawful_counter w (suc n) node lt =
    subst (All IsCounter) (sym (some_counter w n))
    (All-cons IsCounter (record { id = w; count = suc n }) [] (record { writer = node; counted = record { least = omega arith; most = lt } }) (All-nil IsCounter))

pub Counters-next : (ws : List Write) (S : Places) (n m : ℕ) (cs more : List Counter) → IsWriter n → m < 18446744073709551616 → m ≡ count_in ws S n → more ≡ cs ++ counter_of n m → Counters ws S n cs → Counters ws S (n + 1) more
Counters-next ws S n m cs more node lt count pushed c =
    record {
      are = pushed ∙ ap (λ x. cs ++ counter_of n x) count ∙ ap (λ l. l ++ counter_of n (count_in ws S n)) c.are ∙ sym (ap (counters_to ws S) (add-one n));
      lawful = subst (All IsCounter) (sym pushed) (All-append IsCounter cs (counter_of n m) c.lawful (lawful_counter n m node lt));
    }

pub counters_vector : (ws : List Write) (S : Places) (n : ℕ) (cs : List Counter) → Counters ws S n cs → IsVector cs
counters_vector ws S n cs c =
    vector_from_rest cs (record { rising = subst (λ l. RisesFrom 0 (ids_counted l)) (sym c.are) (counters_rise ws S n).rising; lawful = c.lawful })

pub counters_context : (hs : List Happening) (S : Places) (cs : List Counter) → IsHistory hs → ((p : ℕ) (h : Happening) → slice_get hs p ≡ Some h → IsNode (node_of h)) → Counters (writes hs) S writers cs → IsContext (writes hs) S cs
counters_context hs S cs history nodes c =
    let ws : List Write = writes hs in
    subst (IsContext ws S) (sym c.are)
    (record {
      rising = (counters_rise ws S writers).rising;
      counts = λ w. ⊎_elim (λ lt. counters_in ws S writers w lt) (λ le. counters_past ws S writers w le ∙ sym (no_writes ws S writers w (writers_below hs history nodes) le)) (cases_lt w writers);
      held = counters_held ws S writers;
    })
