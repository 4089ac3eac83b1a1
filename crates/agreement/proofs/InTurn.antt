-- Rounds of exchanges in a world, one after the other.
use Rattle.std.proofs.Common.{◌≡◌, ℕ, ◌<◌, Bool, true, false, cond, eqb, List, [], ◌∷◌, ◌++◌, length, All, inl, inr, ⊎_elim, refl, sym, ap, subst, ◌∙◌}
use Rattle.std.specs.Prelude.{◌⊎◌, ◌||◌}
use Rattle.std.proofs.lemmas.Bool.{eq-eqb, eqb-true, or_cases, or_left, or_right}
use Rattle.std.proofs.lemmas.List.Elements.{All-cons, All-head, All-nil, All-tail, All-weaker}
use Rattle.meta_types.specs.Name.{Key}
use Rattle.meta_store.specs.Table.{IsTable}
use Rattle.exchange.specs.Whole.{Holds, Reconciled}
use Rattle.past_model.specs.declared.happening.Happening.{Happening}
use Rattle.past_model.specs.History.{IsHistory}
use Rattle.past_model.specs.Past.{known}
use Rattle.past_model.specs.Sets.{Knowledge, union_by_key}
use Rattle.world_core.specs.declared.answer.Accepted.{Accepted}
use Rattle.world_core.specs.Knowledge.{OfAllTold, ShowWhatTheyKnow}
use Rattle.world_core.specs.Refusal.{node_at, table_at}
use Rattle.world_core.specs.Tells.{Tells, Told}
use Rattle.world_core.specs.World.{HasLived, World}
use Rattle.world_core.proofs.Telling.{one_told}
use Rattle.agreement.specs.Rounds.{AreOfFirst, AreRounds, Exchange, IsRound, Known, KnowAll, after_all, after_one, exchanges_of, is_busy, own, takes_part}
use Rattle.agreement.specs.Tree.{IsTree, in_and_out, is_in, outwards}
use Rattle.agreement.specs.World.{AllShowTheSame, BothHoldAll, CollidesAlong, CollidesIn, CollidesInOne, CollidesInRounds, Exchanges, ExchangesAtOnce, IsIdle, IsWholeExchange, KnowAfterAll, KnowWhatRootKnew, RoundsInTurn, RunsAlong, ShowTheSame, ShowTheSameInTree, events_of_two}
use Rattle.agreement.proofs.Along.{both_know, outwards_know, tree_agrees}
use Rattle.agreement.proofs.Delivering.{Finished, finished, one_part, other_part}
use Rattle.agreement.proofs.Doubling.{after_all-append}
use Rattle.agreement.proofs.Exchanged.{each_holds, known_by, reconciled, same_shown}
use Rattle.agreement.proofs.Longer.{Grown, grown, grown_none, grown_on, idle_node, shows_end, told_later}
use Rattle.agreement.proofs.Meetings.{Spread, Spread-one, Spread-own, same_bool}
use Rattle.agreement.proofs.Moving.{Stands}
use Rattle.agreement.proofs.Together.{idle_stays, part_knows}

-- ---- sets of knowledge

-- what spreads, whatever each node knew at first
spread_all : (base : ℕ → ℕ → Bool) (K : Known) (now : ℕ → ℕ → Bool) (es : List Exchange) → Spread base K now → Spread base (after_all K es) (after_all now es)
spread_all base K now [] spread = spread
spread_all base K now (e ∷ es) spread =
    spread_all base (after_one K e) (after_one now e) es (Spread-one base K e now (after_one now e) spread (λ n p. refl))

-- exchanges among such nodes
abbrev AreAmong : (ℕ → Type 0) → List Exchange → Type 0
AreAmong P [] = Unit {0}
AreAmong P (e ∷ es) = P e.one × P e.other × AreAmong P es

among_append : (P : ℕ → Type 0) (xs ys : List Exchange) → AreAmong P xs → AreAmong P ys → AreAmong P (xs ++ ys)
among_append P [] ys one other = other
among_append P (x ∷ xs) ys one other = (one.0, one.1, among_append P xs ys one.2 other)

among_more : (P Q : ℕ → Type 0) → ((n : ℕ) → P n → Q n) → (es : List Exchange) → AreAmong P es → AreAmong Q es
among_more P Q more [] among = tt
among_more P Q more (e ∷ es) among = (more e.one among.0, more e.other among.1, among_more P Q more es among.2)

-- the first nodes
of_first : (many : ℕ) (es : List Exchange) → AreOfFirst many es → AreAmong (λ n. n < many) es
of_first many [] first = tt
of_first many (e ∷ es) first = (first.0, first.1, of_first many es first.2)

-- the nodes of a tree
of_tree : (root : ℕ) (es : List Exchange) → IsTree root es → AreAmong (λ n. is_in root es n ≡ true) (in_and_out es)
of_tree root [] tree = tt
of_tree root (e ∷ []) tree = (
  or_right (eqb e.one e.other) (is_in root [] e.one) tree.0,
  or_left (eqb e.other e.other) (is_in root [] e.other) (eq-eqb e.other e.other refl),
  tt,
)
of_tree root (e ∷ f ∷ es) tree =
    let one : is_in root (e ∷ f ∷ es) e.one ≡ true = or_right (eqb e.one e.other) (is_in root (f ∷ es) e.one) tree.0 in
    let other : is_in root (e ∷ f ∷ es) e.other ≡ true = or_left (eqb e.other e.other) (is_in root (f ∷ es) e.other) (eq-eqb e.other e.other refl) in
    let inner : AreAmong (λ n. is_in root (e ∷ f ∷ es) n ≡ true) (in_and_out (f ∷ es)) =
    among_more (λ n. is_in root (f ∷ es) n ≡ true) (λ n. is_in root (e ∷ f ∷ es) n ≡ true) (λ n there. or_right (eqb n e.other) (is_in root (f ∷ es) n) there)
    (in_and_out (f ∷ es)) (of_tree root (f ∷ es) tree.2) in
    (one, other, among_append (λ n. is_in root (e ∷ f ∷ es) n ≡ true) (in_and_out (f ∷ es)) (e ∷ []) inner (one, other, tt))

-- among them only what one of them knew is learnt
only_among : (P : ℕ → Type 0) (es : List Exchange) → AreAmong P es → (K : Known) → ((n m : ℕ) → P n → K n m ≡ true → P m)
    → (n m : ℕ) → P n → after_all K es n m ≡ true → P m
only_among P [] among K low n m less knows = low n m less knows
only_among P (e ∷ es) among K low n m less knows =
    only_among P es among.2 (after_one K e)
    (λ i j small.
    elim (takes_part e i) as (λ b. cond b (K e.one j || K e.other j) (K i j) ≡ true → P j) [
      | true ↦ λ either. ⊎_elim (λ one. low e.one j among.0 one) (λ other. low e.other j among.1 other) (or_cases (K e.one j) (K e.other j) either)
      | false ↦ λ same. low i j small same
    ])
    n m less knows

-- where all of them know all, all know the same
all_the_same : (P : ℕ → Type 0) (es : List Exchange) → AreAmong P es → ((n m : ℕ) → P n → P m → after_all own es n m ≡ true) → (base : ℕ → ℕ → Bool) (m n : ℕ) → P m → P n
    → (p : ℕ) → after_all base es m p ≡ after_all base es n p
all_the_same P es among all base m n low high p =
    let spread : Spread base (after_all own es) (after_all base es) = spread_all base own base es (Spread-own base) in
    let to : (x y : ℕ) → P x → P y → after_all base es x p ≡ true → after_all base es y p ≡ true =
    λ x y small less is.
    let found = spread.from x p is in
    let within : P found.0 = only_among P es among own (λ i j low same. subst P (eqb-true i j same) low) x found.0 small found.1.0 in
    spread.has y found.0 p (all y found.0 less within) found.1.1 in
    same_bool (after_all base es m p) (after_all base es n p) (to m n low high) (to n m high low)

-- what each node knows after exchanges
abbrev afters : (ℕ → Knowledge) → List Exchange → ℕ → Knowledge
afters K es n k p = after_all (λ m q. K m k q) es n p

-- ---- the exchanges of a round

-- the exchange that a node takes part in
record Found (P : Exchange → Type 0) (es : List Exchange) (n : ℕ) : Type 0 where
  e : Exchange
  front : List Exchange
  back : List Exchange
  is : es ≡ front ++ e ∷ back
  part : takes_part e n ≡ true
  holds : P e

found : (P : Exchange → Type 0) (es : List Exchange) (n : ℕ) → All P es → is_busy es n ≡ true → Found P es n
found P [] n all busy = absurd (cc)
found P (e ∷ es) n all busy =
    elim (takes_part e n) as (λ b. takes_part e n ≡ b → (b || is_busy es n) ≡ true → Found P (e ∷ es) n) [
      | true ↦ λ part _. record { e = e; front = []; back = es; is = refl; part = part; holds = All-head P e es all }
      | false ↦ λ _ later.
          let f = found P es n (All-tail P e es all) later in
          record { e = f.e; front = e ∷ f.front; back = f.back; is = ap (λ l. e ∷ l) f.is; part = f.part; holds = f.holds }
    ] refl busy

-- all exchanges succeed, or one collides
all_or_one : (P : Exchange → Type 0) (w : World) (es : List Exchange) → All (λ e. P e ⊎ CollidesIn w e) es → All P es ⊎ CollidesInOne w es
all_or_one P w [] all = inl (All-nil P)
all_or_one P w (e ∷ es) all =
    ⊎_elim
    (λ p. ⊎_elim (λ rest. inl (All-cons P e es p rest)) (λ c. inr (inr c)) (all_or_one P w es (All-tail (λ e. P e ⊎ CollidesIn w e) e es all)))
    (λ c. inr (inl c))
    (All-head (λ e. P e ⊎ CollidesIn w e) e es all)

-- ---- a world from which exchanges begin

-- it grew out of another world by a run; its nodes are these many, each is the one of its number
-- and holds a table; and they show what they know
pub record Standing (first : World) (count : ℕ) (w : World) : Type 0 where
  pub run : List Accepted
  pub grown : Grown first run w
  pub many : length w.nodes ≡ count
  pub numbers : (n : ℕ) → n < count → (node_at w n).state.node ≡ n
  pub tables : (n : ℕ) → n < count → IsTable (table_at w n)
  pub shows : ShowWhatTheyKnow w

-- so it stands for the two of each exchange
stands_for : (first : World) (count : ℕ) (w : World) → Standing first count w → (e : Exchange) → Stands e count w
stands_for first count w s e = record { many = s.many; numbers = λ n part low. s.numbers n low; tables = λ n part low. s.tables n low }

-- what it tells is a history, and its nodes show what they know by it
pub record Begun (w : World) : Type 0 where
  pub told : Told
  pub tells : Tells w.accepted w.frames told
  pub is_history : IsHistory told.history
  pub standing : Standing w (length w.nodes) w

-- from what every world keeps to
pub begun_world : (w : World) → (t : Told) × (Tells w.accepted w.frames t × IsHistory t.history)
    → ((n : ℕ) → n < length w.nodes → HasLived w n (node_at w n)) → ShowWhatTheyKnow w → Begun w
begun_world w history lived shows = record {
  told = history.0;
  tells = history.1.0;
  is_history = history.1.1;
  standing = record {
    run = [];
    grown = grown_none w;
    many = refl;
    numbers = λ n low. (lived n low).number;
    tables = λ n low. (lived n low).held;
    shows = shows;
  };
}

-- each node holds, under each key, the object of these writes
abbrev AllHold : List Happening → ℕ → (ℕ → Knowledge) → World → Type 0
AllHold hs count K w = (n : ℕ) → n < count → Holds hs (K n) (table_at w n)

-- ---- a round

module _ (first : World) (count : ℕ) (old : World) (s : Standing first count old) (es : List Exchange) (new : World) (ran : ExchangesAtOnce old es new) where
  -- each of its exchanges is a whole one
  abbrev exchange : (e : Exchange) → IsWholeExchange e (events_of_two e ran.accepted) → Exchanges old e new
  exchange e whole = record { accepted = ran.accepted; whole = whole; accepts = ran.accepts }

  ends : (e : Exchange) → IsWholeExchange e (events_of_two e ran.accepted) → Finished e count new old
  ends e whole = finished e count old new (stands_for first count old s e) (exchange e whole)

  -- a node that takes part stands as its exchange left it, and any other as it was
  at_each : (P : ℕ → Type 0) → ((n : ℕ) (e : Exchange) → takes_part e n ≡ true → IsWholeExchange e (events_of_two e ran.accepted) → P n)
      → ((n : ℕ) → node_at new n ≡ node_at old n → P n) → (n : ℕ) → P n
  at_each P part idle n =
      elim (is_busy es n) as (λ b. is_busy es n ≡ b → P n) [
        | true ↦ λ busy.
            let f = found (λ e. IsWholeExchange e (events_of_two e ran.accepted)) es n ran.whole busy in
            part n f.e f.part f.holds
        | false ↦ λ rests. idle n (idle_node n old ran.accepted new ran.accepts (ran.others n rests))
      ] refl

  stands_on : Standing first count new
  stands_on =
      let g : Grown old ran.accepted new = grown old ran.accepted new ran.accepts in
      record {
        run = s.run ++ ran.accepted;
        grown = grown_on first old new s.run ran.accepted s.grown g;
        many = g.many ∙ s.many;
        numbers = at_each (λ n. n < count → (node_at new n).state.node ≡ n) (λ n e part whole low. (ends e whole).ended.stands.numbers n part low)
            (λ n same low. ap (λ m. m.state.node) same ∙ s.numbers n low);
        tables = at_each (λ n. n < count → IsTable (table_at new n)) (λ n e part whole low. (ends e whole).ended.stands.tables n part low)
            (λ n same low. subst (λ m. IsTable m.state.table) (sym same) (s.tables n low));
        shows = shows_end old ran.accepted new s.shows ran.accepts;
      }

  -- its exchanges are of nodes of the world
  of_world : (xs : List Exchange) → All (λ e. IsWholeExchange e (events_of_two e ran.accepted)) xs → AreOfFirst count xs
  of_world [] all = tt
  of_world (e ∷ xs) all =
      let f : Finished e count new old = ends e (All-head (λ e. IsWholeExchange e (events_of_two e ran.accepted)) e xs all) in
      (f.one, f.other, of_world xs (All-tail (λ e. IsWholeExchange e (events_of_two e ran.accepted)) e xs all))

  module _ (hs : List Happening) (history : IsHistory hs) (K : ℕ → Knowledge) (hold : AllHold hs count K old) where
    abbrev IsUnited : Exchange → Type 0
    IsUnited e = Reconciled hs (K e.one) (K e.other) (table_at new e.one) (table_at new e.other)

    -- the two of each exchange hold the union, or those of one collide
    all_united : All (λ e. Reconciled hs (K e.one) (K e.other) (table_at new e.one) (table_at new e.other)) es ⊎ CollidesInOne old es
    all_united =
        all_or_one (λ e. IsUnited e) old es
        (All-weaker (λ e. IsWholeExchange e (events_of_two e ran.accepted)) (λ e. IsUnited e ⊎ CollidesIn old e)
        (λ e whole.
        let f : Finished e count new old = ends e whole in
        reconciled hs history count e old new (stands_for first count old s e) (exchange e whole) (K e.one) (K e.other) (hold e.one f.one) (hold e.other f.other))
        es ran.whole)

    -- and then all nodes hold what they know after the round
    hold_on : IsRound es → All (λ e. Reconciled hs (K e.one) (K e.other) (table_at new e.one) (table_at new e.other)) es → AllHold hs count (afters K es) new
    hold_on round united n low =
        elim (is_busy es n) as (λ b. is_busy es n ≡ b → Holds hs (afters K es n) (table_at new n)) [
          | true ↦ λ busy.
              let f = found (λ e. IsUnited e) es n united busy in
              let same : afters K es n ≡ union_by_key (K f.e.one) (K f.e.other) =
              λ i k p. (ap (λ xs. after_all (λ m q. K m k q) xs n p) f.is ∙ part_knows (λ m q. K m k q) f.front f.back f.e (subst IsRound f.is round) n p f.part) i in
              subst (λ S. Holds hs S (table_at new n)) (sym same) (each_holds hs f.e new (K f.e.one) (K f.e.other) f.holds n f.part)
          | false ↦ λ rests.
              let same : afters K es n ≡ K n = λ i k p. idle_stays (λ m q. K m k q) es n p rests i in
              subst (λ S. Holds hs S (table_at new n)) (sym same)
              (subst (λ m. Holds hs (K n) m.state.table) (sym (idle_node n old ran.accepted new ran.accepts (ran.others n rests))) (hold n low))
        ] refl

-- ---- rounds

module _ (first : World) (count : ℕ) where
  -- the world stands at the end
  stands_last : (rounds : List (List Exchange)) (old : World) → Standing first count old → (new : World) → RoundsInTurn old rounds new → Standing first count new
  stands_last [] old s new ran = subst (Standing first count) (sym ran) s
  stands_last (es ∷ rounds) old s new ran = stands_last rounds ran.0 (stands_on first count old s es ran.0 ran.1.0) new ran.1.1

  first_append : (xs ys : List Exchange) → AreOfFirst count xs → AreOfFirst count ys → AreOfFirst count (xs ++ ys)
  first_append [] ys one other = other
  first_append (x ∷ xs) ys one other = (one.0, one.1, first_append xs ys one.2 other)

  -- all exchanges are of nodes of the world
  all_of_world : (rounds : List (List Exchange)) (old : World) → Standing first count old → (new : World) → RoundsInTurn old rounds new → AreOfFirst count (exchanges_of rounds)
  all_of_world [] old s new ran = tt
  all_of_world (es ∷ rounds) old s new ran =
      first_append es (exchanges_of rounds) (of_world first count old s es ran.0 ran.1.0 es ran.1.0.whole)
      (all_of_world rounds ran.0 (stands_on first count old s es ran.0 ran.1.0) new ran.1.1)

  -- all nodes hold what they know after the rounds, or two of one collide
  hold_last : (hs : List Happening) → IsHistory hs → (rounds : List (List Exchange)) → AreRounds rounds → (old : World) → Standing first count old
      → (K : ℕ → Knowledge) → AllHold hs count K old → (new : World) (ran : RoundsInTurn old rounds new)
      → AllHold hs count (afters K (exchanges_of rounds)) new ⊎ CollidesInRounds old rounds new ran
  hold_last hs history [] are old s K hold new ran = inl (subst (AllHold hs count K) (sym ran) hold)
  hold_last hs history (es ∷ rounds) are old s K hold new ran =
      let mid : World = ran.0 in
      let same : (n : ℕ) → afters (afters K es) (exchanges_of rounds) n ≡ afters K (es ++ exchanges_of rounds) n =
      λ n i k p. sym (after_all-append (λ m q. K m k q) es (exchanges_of rounds)) i n p in
      ⊎_elim
      (λ (united : All (λ e. Reconciled hs (K e.one) (K e.other) (table_at ran.0 e.one) (table_at ran.0 e.other)) es).
      ⊎_elim
      (λ (held : AllHold hs count (afters (afters K es) (exchanges_of rounds)) new). inl (λ n low. subst (λ S. Holds hs S (table_at new n)) (same n) (held n low)))
      (λ later. inr (inr later))
      (hold_last hs history rounds are.1 ran.0 (stands_on first count old s es ran.0 ran.1.0) (afters K es)
      (hold_on first count old s es ran.0 ran.1.0 hs history K hold are.0 united) new ran.1.1))
      (λ c. inr (inl c))
      (all_united first count old s es ran.0 ran.1.0 hs history K hold)

-- ---- the laws

module _ (old : World) (b : Begun old) where
  -- what each node holds by what is told
  own_hold : (t : Told) → Tells old.accepted old.frames t → AllHold t.history (length old.nodes) (known t.history) old
  own_hold t tells n low = record { each = λ k. b.standing.shows t tells n k low }

  -- what is told is that history
  history : (t : Told) → Tells old.accepted old.frames t → IsHistory t.history
  history t tells = subst (λ (t : Told). IsHistory t.history) (one_told old.accepted old.frames b.told t b.tells tells) b.is_history

  module _ (e : Exchange) (new : World) (ran : Exchanges old e new) where
    abbrev its : Stands e (length old.nodes) old
    its = stands_for old (length old.nodes) old b.standing e

    abbrev ended : Finished e (length old.nodes) new old
    ended = finished e (length old.nodes) old new (stands_for old (length old.nodes) old b.standing e) ran

    -- the two take part, so they are nodes of the world
    part_low : (n : ℕ) → takes_part e n ≡ true → n < length new.nodes
    part_low n part =
        let one : n < length old.nodes =
        ⊎_elim (λ at. subst (λ i. i < length old.nodes) (sym (eqb-true n e.one at)) ended.one)
        (λ at. subst (λ i. i < length old.nodes) (sym (eqb-true n e.other at)) ended.other)
        (or_cases _ _ part) in
        subst (λ c. n < c) (sym ended.ended.stands.many) one

    united : (t : Told) → Tells old.accepted old.frames t → IsHistory t.history
        → Reconciled t.history (known t.history e.one) (known t.history e.other) (table_at new e.one) (table_at new e.other) ⊎ CollidesIn old e
    united t tells history =
        reconciled t.history history (length old.nodes) e old new its ran (known t.history e.one) (known t.history e.other)
        (own_hold t tells e.one ended.one) (own_hold t tells e.other ended.other)

    both_hold : (t : Told) → Tells old.accepted old.frames t
        → Reconciled t.history (known t.history e.one) (known t.history e.other) (table_at new e.one) (table_at new e.other) → BothHoldAll t e new
    both_hold t tells r = record {
      hold = r;
      know = λ u also n key p part.
          let later = told_later old ran.accepted new (grown old ran.accepted new ran.accepts) t u tells also in
          known_by t.history later.more new (shows_end old ran.accepted new b.standing.shows ran.accepts) u also later.longer n (part_low n part)
          (union_by_key (known t.history e.one) (known t.history e.other)) (each_holds t.history e new (known t.history e.one) (known t.history e.other) r n part) key p
          ∙ sym (both_know (λ m q. known t.history m key q) e n p part);
    }

    -- both hold the union and know it, or two byte strings collide
    pub one_union : OfAllTold old (λ t. BothHoldAll t e new ⊎ CollidesIn old e)
    one_union = λ t tells. ⊎_elim (λ r. inl (both_hold t tells r)) inr (united t tells (history t tells))

    -- so both show the same
    pub one_agrees : ShowTheSame new e.one e.other ⊎ CollidesIn old e
    one_agrees =
        ⊎_elim
        (λ (r : Reconciled b.told.history (known b.told.history e.one) (known b.told.history e.other) (table_at new e.one) (table_at new e.other)). inl (same_shown b.told.history new e.one e.other
        (ended.ended.stands.tables e.one (one_part e) ended.one) (ended.ended.stands.tables e.other (other_part e) ended.other)
        (union_by_key (known b.told.history e.one) (known b.told.history e.other)) r.here_holds r.there_holds))
        inr (united b.told b.tells b.is_history)

    -- a node of which there is no event is as before
    pub idle_stays_so : (n : ℕ) → IsIdle n ran.accepted → node_at new n ≡ node_at old n
    idle_stays_so n idle = idle_node n old ran.accepted new ran.accepts idle

  module _ (rounds : List (List Exchange)) (are : AreRounds rounds) (new : World) (ran : RoundsInTurn old rounds new) where
    last : Standing old (length old.nodes) new
    last = stands_last old (length old.nodes) rounds old b.standing new ran

    held : (t : Told) → Tells old.accepted old.frames t
        → AllHold t.history (length old.nodes) (afters (known t.history) (exchanges_of rounds)) new ⊎ CollidesInRounds old rounds new ran
    held t tells =
        hold_last old (length old.nodes) t.history (history t tells) rounds are old b.standing (known t.history) (own_hold t tells) new ran

    -- each node then knows what the exchanges of sets leave it
    pub all_known : OfAllTold old (λ t. KnowAfterAll t (exchanges_of rounds) new ⊎ CollidesInRounds old rounds new ran)
    all_known = λ t tells.
        ⊎_elim
        (λ (holds : AllHold t.history (length old.nodes) (afters (known t.history) (exchanges_of rounds)) new). inl (λ u also n key p low.
        let later = told_later old last.run new last.grown t u tells also in
        known_by t.history later.more new last.shows u also later.longer n low (afters (known t.history) (exchanges_of rounds) n)
        (holds n (subst (λ c. n < c) last.many low)) key p))
        inr (held t tells)

    -- nodes that know the same show the same
    shows_same : AllHold b.told.history (length old.nodes) (afters (known b.told.history) (exchanges_of rounds)) new → (m n : ℕ) → m < length new.nodes → n < length new.nodes
        → ((k : Key) (p : ℕ) → after_all (λ j q. known b.told.history j k q) (exchanges_of rounds) m p ≡ after_all (λ j q. known b.told.history j k q) (exchanges_of rounds) n p) → ShowTheSame new m n
    shows_same holds m n less lower alike =
        let low : m < length old.nodes = subst (λ c. m < c) last.many less in
        let high : n < length old.nodes = subst (λ c. n < c) last.many lower in
        let K : ℕ → Knowledge = afters (known b.told.history) (exchanges_of rounds) in
        let same : afters (known b.told.history) (exchanges_of rounds) m ≡ afters (known b.told.history) (exchanges_of rounds) n = λ i k p. alike k p i in
        same_shown b.told.history new m n (last.tables m low) (last.tables n high) (K n)
        (subst (λ S. Holds b.told.history S (table_at new m)) same (holds m low)) (holds n high)

    -- where all know all, all show the same
    pub all_agree : KnowAll (length old.nodes) (after_all own (exchanges_of rounds)) → AllShowTheSame new ⊎ CollidesInRounds old rounds new ran
    all_agree all =
        let count : ℕ = length old.nodes in
        let among : AreAmong (λ n. n < length old.nodes) (exchanges_of rounds) =
        of_first count (exchanges_of rounds) (all_of_world old (length old.nodes) rounds old b.standing new ran) in
        ⊎_elim
        (λ (holds : AllHold b.told.history (length old.nodes) (afters (known b.told.history) (exchanges_of rounds)) new). inl (λ m n less lower.
        shows_same holds m n less lower (λ k.
        all_the_same (λ n. n < length old.nodes) (exchanges_of rounds) among all (λ j q. known b.told.history j k q) m n (subst (λ c. m < c) last.many less) (subst (λ c. n < c) last.many lower))))
        inr (held b.told b.tells)

  -- rounds along a tree, inwards and outwards, make all its nodes show the same
  pub all_along : (run : RunsAlong in_and_out old) → ShowTheSameInTree run.root run.edges run.new ⊎ CollidesAlong run
  all_along run =
      let among : AreAmong (λ n. is_in run.root run.edges n ≡ true) (exchanges_of run.rounds) =
      subst (AreAmong (λ n. is_in run.root run.edges n ≡ true)) (sym run.along) (of_tree run.root run.edges run.tree) in
      let all : (n m : ℕ) → is_in run.root run.edges n ≡ true → is_in run.root run.edges m ≡ true → after_all own (exchanges_of run.rounds) n m ≡ true =
      λ n m one other. ap (λ es. after_all own es n m) run.along ∙ tree_agrees run.root run.edges run.tree n m one other in
      ⊎_elim
      (λ (holds : AllHold b.told.history (length old.nodes) (afters (known b.told.history) (exchanges_of run.rounds)) run.new). inl (λ m n less lower one other.
      shows_same run.rounds run.are run.new run.ran holds m n less lower (λ k.
      all_the_same (λ n. is_in run.root run.edges n ≡ true) (exchanges_of run.rounds) among all (λ j q. known b.told.history j k q) m n one other)))
      inr (held run.rounds run.are run.new run.ran b.told b.tells)

  -- and outwards alone, know what the root knew
  pub all_repaired : (run : RunsAlong outwards old) → OfAllTold old (λ t. KnowWhatRootKnew t run.root run.edges run.new ⊎ CollidesAlong run)
  all_repaired run = λ t tells.
      ⊎_elim
      (λ is. inl (λ u also n key p low place knew.
      is u also n key p low
      ∙ ap (λ es. after_all (λ m q. known t.history m key q) es n p) run.along
      ∙ outwards_know run.root run.edges run.tree (λ m q. known t.history m key q) n p place knew))
      inr (all_known run.rounds run.are run.new run.ran t tells)
