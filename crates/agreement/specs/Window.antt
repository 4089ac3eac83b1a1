-- A window of time without writes: the drivers of nodes begin exchanges in it, and each of these is
-- delivered whole. The rule is our own.
use Rattle.std.specs.Prelude.{◌≡◌, ◌≢◌, ◌<◌, ◌≤◌, ℕ, false, true, List, length}
use Rattle.peer_lists.specs.Lists.{has}
use Rattle.driver.specs.Duty.{KeepMembers, Leads, PlanChange, partners_in, ticks_in}
use Rattle.driver.specs.Plan.{IsPlaceIn, PlanParts, has_member}
use Rattle.agreement.specs.Rounds.{Exchange, have_met}

-- what becomes of the plan of node n, whose members are all others of so many nodes: as many ticks
-- pass as it has members, and in the end it owes no exchange
pub record Window (many n : ℕ) : Type 0 where
  pub old : PlanParts
  pub new : PlanParts
  pub changes : List PlanChange
  pub leads : Leads old changes new
  pub keeps : KeepMembers changes
  pub place : IsPlaceIn old.members old.partner
  pub members : (m : ℕ) → m < many → m ≢ n → has_member m old.members ≡ true
  pub ticks : length old.members ≤ ticks_in changes
  pub done : new.owes_exchange ≡ false

-- each node has such a window, and with whomever it began an exchange in it, it has met
abbrev pub AllAreDelivered : ℕ → List Exchange → Type 0
AllAreDelivered many es = (n : ℕ) → n < many → (w : Window many n)
    × ((m : ℕ) → has (partners_in w.changes) m ≡ true → have_met es n m ≡ true)
