-- Why journals have no order.
use Rattle.std.specs.Prelude.{ℕ, ◌≡◌, ◌+◌, ◌<◌, ◌≤◌, List, [], ◌∷◌, length, slice_get, Some}
use Rattle.node_events.specs.declared.event.NodeEvent.{NodeEvent}
use Rattle.node_journal.specs.declared.entry.Entry.{Entry}
use Rattle.node_journal.specs.Closed.{ClosedNode}
use Rattle.run_record.specs.Giving.{Supplies, Needs}
use Rattle.run_record.specs.Journals.{entry_at}
use Rattle.run_record.specs.Order.{IsOrder}
use Rattle.run_record.specs.declared.order_fault.OrderFault.{OrderFault}
use Rattle.run_record.specs.declared.order_fault.OrderFault.TheVariants.{Unsent, Stuck, Memory}
use Rattle.run_record.specs.declared.order_fault.Place.{Place}
use Rattle.run_record.specs.declared.order.Turn.{Turn}

-- ---- 60: an entry needs what no entry gives

pub record IsUngiven (closed : List ClosedNode) (event : NodeEvent) : Type 0 where
  pub needs : Needs event
  pub none : (m q : ℕ) (e : Entry) → entry_at closed m q ≡ Some e → Supplies e event → ⊥

abbrev pub IsUnsent : List ClosedNode → ℕ → ℕ → Type 0
IsUnsent closed n p = (e : Entry) × ((entry_at closed n p ≡ Some e) × IsUngiven closed e.event)

abbrev pub NoneIsUnsent : List ClosedNode → Type 0
NoneIsUnsent closed = (n p : ℕ) → IsUnsent closed n p → ⊥

-- ---- 61: entries of some nodes wait for one another

-- the place is listed
pub record Lists (places : List Place) (n p : ℕ) : Type 0 where
  pub at : ℕ
  pub there : slice_get places at ≡ Some (record { node = n; place = p })

-- each entry that gives what this one needs stands at the listed place of its node, or after it
pub record IsStuckAt (closed : List ClosedNode) (places : List Place) (at : Place) : Type 0 where
  pub node : at.node < length closed
  pub entry : Entry
  pub there : entry_at closed at.node at.place ≡ Some entry
  pub needs : Needs entry.event
  pub waits : (m q : ℕ) (e : Entry) → entry_at closed m q ≡ Some e → Supplies e entry.event
      → (r : ℕ) × (Lists places m r × (r ≤ q))

-- the nodes of the places rise, so that none has two
abbrev pub RiseFrom : ℕ → List Place → Type 0
RiseFrom low [] = Unit {0}
RiseFrom low (at ∷ later) = (low ≤ at.node) × RiseFrom (at.node + 1) later

pub record IsStuck (closed : List ClosedNode) (places : List Place) : Type 0 where
  pub some : 1 ≤ length places
  pub once : RiseFrom 0 places
  pub each : (n p : ℕ) → Lists places n p
      → IsStuckAt closed places (record { node = n; place = p })

abbrev pub NoneIsStuck : List ClosedNode → Type 0
NoneIsStuck closed = (places : List Place) → IsStuck closed places → ⊥

-- ---- the refusals, the first that applies

abbrev pub RefusesSending : List ClosedNode → OrderFault → Type 0
RefusesSending closed (Unsent at) = IsUnsent closed at.node at.place
RefusesSending closed (Stuck places) = ⊥
RefusesSending closed Memory = Unit {0}

abbrev pub RefusesOrder : List ClosedNode → OrderFault → Type 0
RefusesOrder closed (Unsent at) = ⊥
RefusesOrder closed (Stuck places) = IsStuck closed places.items
RefusesOrder closed Memory = Unit {0}

-- ---- laws

-- if entries wait for one another, no order has each after one that gives what it needs
abbrev pub AStuckRunHasNoOrder : Type 0
AStuckRunHasNoOrder = (closed : List ClosedNode) (places : List Place) (order : List Turn)
    → IsStuck closed places → IsOrder closed order → ⊥
