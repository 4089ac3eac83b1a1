-- A whole exchange of two nodes of a world, frame by frame, exchanges of a round at once, and what
-- nodes then have. The rule is our own.
use Rattle.std.specs.Prelude.{◌≡◌, ℕ, ◌<◌, ◌⊎◌, ◌==◌, true, false, List, [], ◌∷◌, ◌++◌, length, map, All, Ok}
use Rattle.std.specs.List.{filter, list_any, range_with_len}
use Rattle.meta_types.specs.Name.{Key}
use Rattle.meta_store.specs.Table.{object_at}
use Rattle.past_model.specs.Past.{known}
use Rattle.hash_tree.specs.Tree.{rows_of, tree_root}
use Rattle.hash_tree.specs.Hashed.{Collides}
use Rattle.exchange.specs.Whole.{Reconciled}
use Rattle.node_events.specs.declared.event.NodeEvent.TheVariants.{Exchange as BeginExchange}
use Rattle.world_core.specs.declared.answer.Accepted.{Accepted}
use Rattle.world_core.specs.declared.answer.FrameNumbers.{FrameNumbers}
use Rattle.world_core.specs.declared.event.Event.{Event}
use Rattle.world_core.specs.declared.event.Event.TheVariants as events
use Rattle.world_core.specs.Events.{node_of_event}
use Rattle.world_core.specs.Knowledge.{OfAllTold}
use Rattle.world_core.specs.Outcome.{Outcomes}
use Rattle.world_core.specs.Refusal.{table_at}
use Rattle.world_core.specs.Tells.{Told}
use Rattle.world_core.specs.World.{World}
use Rattle.agreement.specs.Rounds.{AreRounds, Exchange, after_all, exchanges_of, is_busy, takes_part}
use Rattle.agreement.specs.Tree.{IsTree, is_in}

-- ---- the schedule of one exchange

-- the numbers of the frames that an event sent, in the order in which they were sent
abbrev pub numbers_of : FrameNumbers → List ℕ
numbers_of sent = range_with_len sent.first sent.count

-- the event delivers the frame of this number; only the node that the frame names accepts it
abbrev pub IsDeliveryOf : ℕ → Event → Type 0
IsDeliveryOf number (events.Deliver frame n word) = frame ≡ number
IsDeliveryOf number event = ⊥

-- the accepted events deliver the frames that are pending, oldest first; what a delivery sends is
-- pending behind the others; and in the end nothing is pending
abbrev pub DeliverAll : List ℕ → List Accepted → Type 0
DeliverAll [] [] = Unit {0}
DeliverAll [] (a ∷ later) = ⊥
DeliverAll (number ∷ pending) [] = ⊥
DeliverAll (number ∷ pending) (a ∷ later) =
    IsDeliveryOf number a.event × DeliverAll (pending ++ numbers_of a.answer.sent) later

-- one of the two begins an exchange with the other; then what that sends is delivered, and all that
-- the deliveries send
abbrev pub IsWholeExchange : Exchange → List Accepted → Type 0
IsWholeExchange e [] = ⊥
IsWholeExchange e (first ∷ later) =
    (first.event ≡ events.Step e.one (BeginExchange e.other))
    × DeliverAll (numbers_of first.answer.sent) later

-- the events of the two nodes
abbrev pub events_of_two : Exchange → List Accepted → List Accepted
events_of_two e accepted = filter (λ a. takes_part e (node_of_event a.event)) accepted

-- ---- in a world

-- the world accepts these events one after another, with these answers, and with nothing between
abbrev pub AcceptsAll : World → List Accepted → World → Type 0
AcceptsAll old accepted new =
    Outcomes old (map (λ a. a.event) accepted) (map (λ a. Ok a.answer) accepted) new

-- all that happens at the two nodes is a whole exchange; other nodes do meanwhile what they like
pub record Exchanges (old : World) (e : Exchange) (new : World) : Type 0 where
  pub accepted : List Accepted
  pub whole : IsWholeExchange e (events_of_two e accepted)
  pub accepts : AcceptsAll old accepted new

-- nothing of the node is among these events
abbrev pub IsIdle : ℕ → List Accepted → Type 0
IsIdle n accepted = list_any (λ a. node_of_event a.event == n) accepted ≡ false

-- all exchanges of a round at once: all that happens at the two nodes of each is a whole exchange,
-- and nothing happens at any other node
pub record ExchangesAtOnce (old : World) (es : List Exchange) (new : World) : Type 0 where
  pub accepted : List Accepted
  pub whole : All (λ e. IsWholeExchange e (events_of_two e accepted)) es
  pub others : (n : ℕ) → is_busy es n ≡ false → IsIdle n accepted
  pub accepts : AcceptsAll old accepted new

-- rounds, one after the other
abbrev pub RoundsInTurn : World → List (List Exchange) → World → Type 0
RoundsInTurn old [] new = new ≡ old
RoundsInTurn old (es ∷ rounds) new =
    (mid : World) × (ExchangesAtOnce old es mid × RoundsInTurn mid rounds new)

-- rounds, one after the other, whose exchanges are the edges of a tree in this order
pub record RunsAlong (order : List Exchange → List Exchange) (old : World) : Type 0 where
  pub root : ℕ
  pub edges : List Exchange
  pub tree : IsTree root edges
  pub rounds : List (List Exchange)
  pub are : AreRounds rounds
  pub along : exchanges_of rounds ≡ order edges
  pub new : World
  pub ran : RoundsInTurn old rounds new

-- ---- what nodes then have

-- both hold, under each key, the object of what either knew by the old history, and know that by
-- the new one
pub record BothHoldAll (t : Told) (e : Exchange) (new : World) : Type 0 where
  pub hold : Reconciled t.history (known t.history e.one) (known t.history e.other)
      (table_at new e.one) (table_at new e.other)
  pub know : OfAllTold new (λ u. (n : ℕ) (key : Key) (p : ℕ) → takes_part e n ≡ true
      → known u.history n key p ≡ after_all (λ m q. known t.history m key q) (e ∷ []) n p)

-- by the new history each node knows what exchanges of sets leave it
abbrev pub KnowAfterAll : Told → List Exchange → World → Type 0
KnowAfterAll t es new = OfAllTold new (λ u. (n : ℕ) (key : Key) (p : ℕ) → n < length new.nodes
    → known u.history n key p ≡ after_all (λ m q. known t.history m key q) es n p)

-- each node of the tree knows what its root knew
abbrev pub KnowWhatRootKnew : Told → ℕ → List Exchange → World → Type 0
KnowWhatRootKnew t root edges new = OfAllTold new (λ u. (n : ℕ) (key : Key) (p : ℕ)
    → n < length new.nodes → is_in root edges n ≡ true
    → known t.history root key p ≡ true → known u.history n key p ≡ true)

-- two nodes hold equal objects under each key, and the roots of their trees are equal
pub record ShowTheSame (w : World) (m n : ℕ) : Type 0 where
  pub objects : (key : Key) → object_at (table_at w m) key ≡ object_at (table_at w n) key
  pub roots : tree_root (rows_of (table_at w m)) ≡ tree_root (rows_of (table_at w n))

abbrev pub AllShowTheSame : World → Type 0
AllShowTheSame w = (m n : ℕ) → m < length w.nodes → n < length w.nodes → ShowTheSame w m n

-- so do each two nodes of the tree
abbrev pub ShowTheSameInTree : ℕ → List Exchange → World → Type 0
ShowTheSameInTree root edges w = (m n : ℕ) → m < length w.nodes → n < length w.nodes
    → is_in root edges m ≡ true → is_in root edges n ≡ true → ShowTheSame w m n

-- ---- what may be so instead

-- two unequal byte strings that are hashed for the tables of the two have one digest
abbrev pub CollidesIn : World → Exchange → Type 0
CollidesIn w e = Collides (table_at w e.one) (table_at w e.other)

-- so it is for the two of one of these exchanges
abbrev pub CollidesInOne : World → List Exchange → Type 0
CollidesInOne w [] = ⊥
CollidesInOne w (e ∷ es) = CollidesIn w e ⊎ CollidesInOne w es

-- so it is when one of the rounds begins
abbrev pub CollidesInRounds : (old : World) (rounds : List (List Exchange)) (new : World)
    → RoundsInTurn old rounds new → Type 0
CollidesInRounds old [] new ran = ⊥
CollidesInRounds old (es ∷ rounds) new ran =
    CollidesInOne old es ⊎ CollidesInRounds ran.0 rounds new ran.1.1

-- so it is when one of the rounds along a tree begins
abbrev pub CollidesAlong : {order : List Exchange → List Exchange} {old : World}
    → RunsAlong order old → Type 0
CollidesAlong {order} {old} run = CollidesInRounds old run.rounds run.new run.ran
