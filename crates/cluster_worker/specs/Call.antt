-- What a worker asks of its node, and when it makes no more turns.
use Rattle.std.specs.Prelude.{◌≡◌, ◌≢◌, ◌≤◌, ◌<◌, ◌⊎◌, ◌+◌, ◌%◌, ℕ, zero, suc, Bool, true, false, List, [], ◌∷◌, ◌++◌, length, codes, decimal, Some, None, IfSome, Result, Err, IsOk}
use Rattle.meta_types.specs.Name.{Key, Prefix}
use Rattle.meta_types.specs.Value.{ValueParts}
use Rattle.node_events.specs.declared.event.NodeEvent.{NodeEvent}
use Rattle.node_events.specs.declared.event.NodeEvent.TheVariants as events
use Rattle.node_call.specs.declared.fault.LockFault.{LockFault}
use Rattle.node_call.specs.declared.fault.LockFault.TheVariants as OfNode
use Rattle.cluster_worker.specs.declared.plan.ClusterPlan.{ClusterPlan}
use Rattle.cluster_worker.specs.declared.plan.Workload.{Workload}
use Rattle.cluster_worker.specs.declared.plan.Workload.TheVariants.{Fixed, Mixed}
use Rattle.cluster_worker.specs.declared.turns.Ending.{Ending}
use Rattle.cluster_worker.specs.declared.turns.Ending.TheVariants.{Failed, Stopped}

-- ---- the keys and values of turns

-- the prefix of all keys
abbrev pub turn_prefix : Prefix
turn_prefix = record { prefix = codes "live"; sub = codes "all" }

-- the key of the write of a turn: live/all/k and the digit of the turn modulo 8
abbrev pub turn_key : ℕ → Key
turn_key turn = record { prefix = turn_prefix; key = codes "k" ++ (48 + turn % 8) ∷ [] }

-- its value: the turn in decimal digits, with stamp 0
abbrev pub turn_value : ℕ → ValueParts
turn_value turn = record { stamp = 0; body = Some (decimal turn) }

-- it is the key of some turn: one of live/all/k0 to live/all/k7
abbrev pub IsTurnKey : Key → Type 0
IsTurnKey key = (turn : ℕ) × (key ≡ turn_key turn)

-- the value of a deletion
abbrev pub tombstone : ValueParts
tombstone = record { stamp = 0; body = None }

-- ---- what a turn may ask for

-- in each fourth turn a write, in any other that a frame is taken or time goes on
abbrev pub IsOfFixedTurn : ℕ → NodeEvent → Type 0
IsOfFixedTurn turn (events.PutOver key value) =
    (turn % 4 ≡ 0) × (key ≡ turn_key turn) × (value ≡ turn_value turn)
IsOfFixedTurn turn (events.Take frame word) = turn % 4 ≢ 0
IsOfFixedTurn turn (events.Tick word) = turn % 4 ≢ 0
IsOfFixedTurn turn event = ⊥

-- in a cluster of so many nodes anything that a node can be asked: under one of the eight keys, to
-- write the value of the turn or a tombstone, with a context only of that key; to name one of the
-- nodes; to watch all eight keys
abbrev pub IsOfMixedTurn : (nodes turn : ℕ) → NodeEvent → Type 0
IsOfMixedTurn nodes turn (events.Read key) = IsTurnKey key
IsOfMixedTurn nodes turn (events.Keep key) = IsTurnKey key
IsOfMixedTurn nodes turn (events.Write key value context) = IsTurnKey key
    × ((value ≡ turn_value turn) ⊎ (value ≡ tombstone)) × IfSome context (λ read. read.key ≡ key)
IsOfMixedTurn nodes turn (events.PutOver key value) = IsTurnKey key × (value ≡ turn_value turn)
IsOfMixedTurn nodes turn (events.Take frame word) = Unit {0}
IsOfMixedTurn nodes turn (events.Tick word) = Unit {0}
IsOfMixedTurn nodes turn (events.Join contact word) = contact < nodes
IsOfMixedTurn nodes turn (events.PeerDown peer word) = peer < nodes
IsOfMixedTurn nodes turn (events.Exchange peer) = peer < nodes
IsOfMixedTurn nodes turn (events.Hello peer) = peer < nodes
IsOfMixedTurn nodes turn (events.Watch prefix capacity) = prefix ≡ turn_prefix
IsOfMixedTurn nodes turn (events.Changes number) = Unit {0}
IsOfMixedTurn nodes turn events.Leave = Unit {0}

-- under this workload
abbrev pub IsOfTurnUnder : Workload → (nodes turn : ℕ) → NodeEvent → Type 0
IsOfTurnUnder Fixed nodes turn event = IsOfFixedTurn turn event
IsOfTurnUnder Mixed nodes turn event = IsOfMixedTurn nodes turn event

-- in a run of this plan
abbrev pub IsOfTurn : ClusterPlan → ℕ → NodeEvent → Type 0
IsOfTurn plan turn event = IsOfTurnUnder plan.workload plan.nodes turn event

-- ---- what a worker may ask for

-- that its node joins through node 0
abbrev pub IsFirstJoin : NodeEvent → Type 0
IsFirstJoin (events.Join contact word) = contact ≡ 0
IsFirstJoin event = ⊥

-- that, or what a turn of a run of this plan asks for
abbrev pub IsAsked : ClusterPlan → NodeEvent → Type 0
IsAsked plan event = IsFirstJoin event ⊎ ((turn : ℕ) × IsOfTurn plan turn event)

-- what is asked for before the turns: that the node joins through node 0, if it isn't node 0 itself
abbrev pub JoinsFirst : ℕ → List NodeEvent → Type 0
JoinsFirst zero asked = asked ≡ []
JoinsFirst (suc n) asked = (word : ℕ) × (asked ≡ events.Join 0 word ∷ [])

-- one call of each turn, from this turn on
abbrev pub AreOfTurns : ClusterPlan → ℕ → List NodeEvent → Type 0
AreOfTurns plan turn [] = Unit {0}
AreOfTurns plan turn (event ∷ later) = IsOfTurn plan turn event × AreOfTurns plan (turn + 1) later

-- of so many turns all are made, or, if the node was stopped, no more than that
abbrev pub HasMade : Bool → ℕ → ℕ → Type 0
HasMade false turns made = made ≡ turns
HasMade true turns made = made ≤ turns

-- what a node is asked for in a run of this plan: first its join, and then one call of each turn
-- that it makes
pub record AreAsked (plan : ClusterPlan) (node : ℕ) (is_stopped : Bool) (asked : List NodeEvent)
    : Type 0 where
  pub first : List NodeEvent
  pub joins : JoinsFirst node first
  pub later : List NodeEvent
  pub of_turns : AreOfTurns plan 1 later
  pub made : HasMade is_stopped plan.turns (length later)
  pub all : asked ≡ first ++ later

-- what follows a refusal: 30 and 34 end the turns of the node, 52 and 99 the run; any other costs
-- the turn
abbrev pub IsAfterRefusal : {A : Type 0} → LockFault → Result A Ending → Type 0
IsAfterRefusal OfNode.Device result = result ≡ Err Stopped
IsAfterRefusal OfNode.Stopped result = result ≡ Err Stopped
IsAfterRefusal OfNode.NoSeat result = result ≡ Err (Failed OfNode.NoSeat)
IsAfterRefusal OfNode.Memory result = result ≡ Err (Failed OfNode.Memory)
IsAfterRefusal fault result = IsOk result
