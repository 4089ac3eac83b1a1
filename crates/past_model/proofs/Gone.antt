-- Going over a list of writers: numbers between them have no writes, and add nothing.
use Rattle.std.proofs.Common.{◌≡◌, ℕ, zero, suc, ◌+◌, ◌-◌, ◌<◌, ◌≤◌, Bool, true, cond, eqb, List, [], ◌∷◌, ◌++◌, length, map, drop, get_or, refl, sym, ap, subst, ◌∙◌, arith, inl, inr, ⊎_elim}
use Rattle.std.specs.Prelude.{◌&&◌, filter}
use Rattle.std.specs.List.{list_any}
use Rattle.std.proofs.lemmas.Bool.{cases_lt, ne_eqb, eqb-true, or_cases}
use Rattle.std.proofs.lemmas.List.{append-nil}
use Rattle.std.proofs.lemmas.List.Elements.{All-get_or}
use Rattle.std.proofs.Math.ListN.{drop_of_length-le}
use Rattle.meta_types.specs.Actor.{IsWriter}
use Rattle.meta_types.specs.Value.{ValueParts}
use Rattle.dvvset.specs.Object.{Counter, RisesFrom}
use Rattle.dvvset.proofs.Rising.{drop_is}
use Rattle.past_model.specs.Sets.{Places}
use Rattle.past_model.specs.Past.{Write, In}
use Rattle.past_model.specs.Shown.{is_sibling, count_in, siblings_by}
use Rattle.past_model.specs.Moment.{AreWriters}
use Rattle.past_model.proofs.Listing.{by_writers, by_writers-next, counter_of, counters_to, Counters, Counters-start, Counters-next}

-- no write is by a writer that is none of the list's
none_by : (ws : List Write) (p : Write → Bool) (w : ℕ) → ((x : Write) → In x ws → x.writer ≡ w → ⊥) → filter (λ x. eqb x.writer w && p x) ws ≡ []
none_by [] p w none = refl
none_by (x ∷ xs) p w none =
    ap (λ b. cond (b && p x) (x ∷ filter (λ y. eqb y.writer w && p y) xs) (filter (λ y. eqb y.writer w && p y) xs)) (ne_eqb x.writer w (none x (inl refl)))
    ∙ none_by xs p w (λ y m. none y (inr m))

-- no write is by a writer from `low` on, `many` of them
abbrev pub NoneFrom : List Write → ℕ → ℕ → Type 0
NoneFrom ws low many = (x : Write) → In x ws → low ≤ x.writer → x.writer < low + many → ⊥

less_from : (ws : List Write) (low many : ℕ) → NoneFrom ws low (suc many) → NoneFrom ws low many
less_from ws low many none x m least lt = none x m least (omega (arith, lt))

pub siblings_skip : (ws : List Write) (S : Places) (low many : ℕ) → NoneFrom ws low many → by_writers ws S (low + many) ≡ by_writers ws S low
siblings_skip ws S low zero none = let same : low + 0 ≡ low = omega arith in ap (by_writers ws S) same
siblings_skip ws S low (suc many) none =
    let e : low + suc many ≡ suc (low + many) = omega arith in
    ap (by_writers ws S) e
    ∙ ap (λ xs. by_writers ws S (low + many) ++ xs) (none_by ws (is_sibling ws S) (low + many) (λ x m e. none x m (omega (arith, e)) (omega (arith, e))))
    ∙ append-nil (by_writers ws S (low + many)) ∙ siblings_skip ws S low many (less_from ws low many none)

pub counters_skip : (ws : List Write) (S : Places) (low many : ℕ) → NoneFrom ws low many → counters_to ws S (low + many) ≡ counters_to ws S low
counters_skip ws S low zero none = let same : low + 0 ≡ low = omega arith in ap (counters_to ws S) same
counters_skip ws S low (suc many) none =
    let e : low + suc many ≡ suc (low + many) = omega arith in
    let nothing : count_in ws S (low + many) ≡ 0 = ap length (none_by ws (λ x. S x.place) (low + many) (λ x m e. none x m (omega (arith, e)) (omega (arith, e)))) in
    ap (counters_to ws S) e
    ∙ ap (λ n. counters_to ws S (low + many) ++ cond (eqb n 0) [] ((record { id = low + many; count = n }) ∷ [])) nothing
    ∙ append-nil (counters_to ws S (low + many)) ∙ counters_skip ws S low many (less_from ws low many none)

-- the writers that are left of the list rise from n on, and a writer of the list below n was gone over
pub record GoneOver (among : List ℕ) (i n : ℕ) : Type 0 where
  pub rest : RisesFrom n (drop i among)
  pub left : (v : ℕ) → list_any (λ w. eqb w v) among ≡ true → n ≤ v → list_any (λ w. eqb w v) (drop i among) ≡ true

-- what is left of a rising list has nothing below its first
below_rest : (ns : List ℕ) (low v : ℕ) → RisesFrom low ns → v < low → list_any (λ w. eqb w v) ns ≡ true → ⊥
below_rest [] low v rises lt is = cc is
below_rest (n ∷ ns) low v rises lt is =
    ⊎_elim
    (λ here. let same : n ≡ v = eqb-true n v here in absurd (omega (arith, rises.0, lt, same)))
    (λ later. below_rest ns (n + 1) v rises.1 (omega (arith, rises.0, lt)) later)
    (or_cases (eqb n v) (list_any (λ w. eqb w v) ns) is)

-- the next writer of the list
pub gone_next : (among : List ℕ) (i n w : ℕ) → GoneOver among i n → i < length among → w ≡ get_or among i w → GoneOver among (i + 1) (w + 1)
gone_next among i n w gone lt is =
    let e = drop_is among i w lt is in
    let rest : RisesFrom n (w ∷ drop (i + 1) among) = subst (RisesFrom n) e gone.rest in
    record {
      rest = rest.1;
      left = λ v there le.
          ⊎_elim
          (λ here. let same : w ≡ v = eqb-true w v here in absurd (omega (arith, same, le)))
          (λ later. later)
          (or_cases (eqb w v) (list_any (λ x. eqb x v) (drop (i + 1) among))
          (subst (λ xs. list_any (λ x. eqb x v) xs ≡ true) e (gone.left v there (omega (arith, rest.0, le)))));
    }

-- none of the writes is by a writer between those that were gone over and the next
pub gone_between : (ws : List Write) (among : List ℕ) (i n w : ℕ) → AreWriters ws among → GoneOver among i n → i < length among → w ≡ get_or among i w
    → (n ≤ w) × ((x : Write) → In x ws → n ≤ x.writer → x.writer < w → ⊥)
gone_between ws among i n w are gone lt is =
    let e = drop_is among i w lt is in
    let rest : RisesFrom n (w ∷ drop (i + 1) among) = subst (RisesFrom n) e gone.rest in (
      rest.0,
      λ x m least below. below_rest (w ∷ drop (i + 1) among) w x.writer (omega arith, rest.1) below
          (subst (λ xs. list_any (λ y. eqb y x.writer) xs ≡ true) e (gone.left x.writer (are.all x m) least)),
    )

-- none is left at the end
pub gone_over : (ws : List Write) (among : List ℕ) (i n : ℕ) → AreWriters ws among → GoneOver among i n → length among ≤ i → (x : Write) → In x ws → n ≤ x.writer → ⊥
gone_over ws among i n are gone le x m least =
    let there : list_any (λ y. eqb y x.writer) (drop i among) ≡ true = gone.left x.writer (are.all x m) least in
    cc (sym there ∙ ap (list_any (λ y. eqb y x.writer)) (drop_of_length-le among le))

-- the numbers from where the list has been gone over to the next writer have no writes
skip_to : (ws : List Write) (n w : ℕ) → n ≤ w → ((x : Write) → In x ws → n ≤ x.writer → x.writer < w → ⊥) → NoneFrom ws n (w - n)
skip_to ws n w le none x m least lt = none x m least (omega (arith, le, lt))

siblings_to : (ws : List Write) (S : Places) (n w : ℕ) → n ≤ w → ((x : Write) → In x ws → n ≤ x.writer → x.writer < w → ⊥) → by_writers ws S w ≡ by_writers ws S n
siblings_to ws S n w le none =
    let e : w ≡ n + (w - n) = omega (arith, le) in
    ap (by_writers ws S) e ∙ siblings_skip ws S n (w - n) (skip_to ws n w le none)

counters_up_to : (ws : List Write) (S : Places) (n w : ℕ) → n ≤ w → ((x : Write) → In x ws → n ≤ x.writer → x.writer < w → ⊥) → counters_to ws S w ≡ counters_to ws S n
counters_up_to ws S n w le none =
    let e : w ≡ n + (w - n) = omega (arith, le) in
    ap (counters_to ws S) e ∙ counters_skip ws S n (w - n) (skip_to ws n w le none)

-- ---- the siblings of the writers so far

pub record SiblingsSoFar (ws : List Write) (S : Places) (among : List ℕ) (i : ℕ) (values : List ValueParts) : Type 0 where
  pub below : ℕ
  pub gone : GoneOver among i below
  pub are : values ≡ map (λ x. x.value) (by_writers ws S below)

pub siblings_next : (ws : List Write) (S : Places) (among : List ℕ) (i w : ℕ) (values more : List ValueParts) → AreWriters ws among → i < length among → w ≡ get_or among i w → more ≡ values ++ siblings_by ws S w → SiblingsSoFar ws S among i values → SiblingsSoFar ws S among (i + 1) more
siblings_next ws S among i w values more are lt is pushed far =
    let between = gone_between ws among i far.below w are far.gone lt is in
    record {
      below = w + 1;
      gone = gone_next among i far.below w far.gone lt is;
      are =
          pushed
          ∙ ap (λ l. l ++ siblings_by ws S w) (far.are ∙ ap (map (λ x. x.value)) (sym (siblings_to ws S far.below w between.0 between.1)))
          ∙ sym (by_writers-next ws S w);
    }

pub siblings_end : (ws : List Write) (S : Places) (among : List ℕ) (i most : ℕ) (values : List ValueParts) → AreWriters ws among → length among ≤ i → ((x : Write) → In x ws → x.writer < most) → SiblingsSoFar ws S among i values → values ≡ map (λ x. x.value) (by_writers ws S most)
siblings_end ws S among i most values are le below far =
    far.are ∙ ap (map (λ x. x.value))
    (⊎_elim
    (λ lt. sym (siblings_to ws S far.below most (omega arith) (λ x m least less. gone_over ws among i far.below are far.gone le x m least)))
    (λ ge. siblings_to ws S most far.below ge (λ x m least less. let in_range : x.writer < most = below x m in absurd (omega (arith, in_range, least))))
    (cases_lt far.below most))

-- ---- the counters of the writers so far

pub record CountersSoFar (ws : List Write) (S : Places) (among : List ℕ) (i : ℕ) (counters : List Counter) : Type 0 where
  pub below : ℕ
  pub gone : GoneOver among i below
  pub are : Counters ws S below counters

counters_at : (ws : List Write) (S : Places) (n m : ℕ) (cs : List Counter) → counters_to ws S m ≡ counters_to ws S n → Counters ws S n cs → Counters ws S m cs
counters_at ws S n m cs same c = record { are = c.are ∙ sym same; lawful = c.lawful }

pub counters_next : (ws : List Write) (S : Places) (among : List ℕ) (i w count : ℕ) (cs more : List Counter) → AreWriters ws among → i < length among → w ≡ get_or among i w → count < 18446744073709551616 → count ≡ count_in ws S w → more ≡ cs ++ counter_of w count → CountersSoFar ws S among i cs → CountersSoFar ws S among (i + 1) more
counters_next ws S among i w count cs more are lt is few counted pushed far =
    let between = gone_between ws among i far.below w are far.gone lt is in
    let lawful : IsWriter w = subst IsWriter (sym is) (All-get_or IsWriter among i w lt are.lawful) in
    record {
      below = w + 1;
      gone = gone_next among i far.below w far.gone lt is;
      are = Counters-next ws S w count cs more lawful few counted pushed
          (counters_at ws S far.below w cs (counters_up_to ws S far.below w between.0 between.1) far.are);
    }

pub counters_end : (ws : List Write) (S : Places) (among : List ℕ) (i most : ℕ) (cs : List Counter) → AreWriters ws among → length among ≤ i → ((x : Write) → In x ws → x.writer < most) → CountersSoFar ws S among i cs → Counters ws S most cs
counters_end ws S among i most cs are le below far =
    counters_at ws S far.below most cs
    (⊎_elim
    (λ lt. counters_up_to ws S far.below most (omega arith) (λ x m least less. gone_over ws among i far.below are far.gone le x m least))
    (λ ge. sym (counters_up_to ws S most far.below ge (λ x m least less. let in_range : x.writer < most = below x m in absurd (omega (arith, in_range, least)))))
    (cases_lt far.below most))
    far.are
