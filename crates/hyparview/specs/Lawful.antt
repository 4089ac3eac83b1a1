-- What holds of the views after every list of events, and of what a step gives out.
use Rattle.std.specs.Prelude.{ℕ, ◌≡◌, ◌≢◌, ◌≤◌, true, false, List, [], ◌∷◌, ◌++◌, length, nat_eq, All}
use Rattle.std.specs.List.{IsDistinct}
use Rattle.meta_frame.specs.declared.message.Message.{Message}
use Rattle.meta_frame.specs.declared.message.Message.TheVariants.{Join, ForwardJoin, Disconnect, Neighbor, NeighborReply, Shuffle, ShuffleReply, Bye}
use Rattle.hyparview.specs.declared.event.ViewEvent.{ViewEvent}
use Rattle.hyparview.specs.declared.event.ViewEvent.TheVariants.{JoinThrough, Taken, PeerDown, ShuffleDue, Leave}
use Rattle.hyparview.specs.declared.event.ViewOut.{ViewOut}
use Rattle.hyparview.specs.declared.event.ViewOut.TheVariants.{Send, Up, Down}
use Rattle.peer_lists.specs.Lists.{has, without}
use Rattle.hyparview.specs.Limits.{active_view_size, passive_view_size}
use Rattle.hyparview.specs.Views.{IsStep, NodeViews, draft_after, empty, views_of}

-- few members, each once, none in both views, and never the node itself
pub record AreLawful (node : ℕ) (active passive : List ℕ) : Type 0 where
  pub few_active : length active ≤ active_view_size
  pub few_passive : length passive ≤ passive_view_size
  pub active_once : IsDistinct nat_eq active
  pub passive_once : IsDistinct nat_eq passive
  pub not_itself_active : has active node ≡ false
  pub not_itself_passive : has passive node ≡ false
  pub disjoint : (x : ℕ) → has active x ≡ true → has passive x ≡ false

-- the views after these events, each with its word
abbrev pub views_after : NodeViews → List (ViewEvent × ℕ) → NodeViews
views_after v [] = v
views_after v (s ∷ ss) = views_after (views_of (draft_after s.0 s.1 v)) ss

-- whatever events come, the views of a node that began with none are lawful
abbrev pub StayLawful : Type 0
StayLawful =
    (node : ℕ) (steps : List (ViewEvent × ℕ))
    → AreLawful node (views_after (empty node) steps).active
    (views_after (empty node) steps).passive

-- ---- what a step gives out

-- whoever knows the old neighbours and follows each Up and Down knows the new ones; each Up names a
-- node that isn't a neighbour at that time, and each Down one that is
abbrev pub Follows : List ℕ → List ViewOut → List ℕ → Type 0
Follows old [] new = new ≡ old
Follows old (Send to message ∷ os) new = Follows old os new
Follows old (Up x ∷ os) new = (has old x ≡ false) × Follows (old ++ x ∷ []) os new
Follows old (Down x ∷ os) new = (has old x ≡ true) × Follows (without x old) os new

-- the sender, contact or peer isn't the node itself
abbrev pub IsOfAnother : ℕ → ViewEvent → Type 0
IsOfAnother node (JoinThrough contact) = contact ≢ node
IsOfAnother node (Taken from message) = from ≢ node
IsOfAnother node (PeerDown peer) = peer ≢ node
IsOfAnother node ShuffleDue = Unit {0}
IsOfAnother node Leave = Unit {0}

-- what is sent goes to another node
abbrev pub IsToAnother : ℕ → ViewOut → Type 0
IsToAnother node (Send to message) = to ≢ node
IsToAnother node (Up x) = Unit {0}
IsToAnother node (Down x) = Unit {0}

abbrev pub GoToOthers : ℕ → List ViewOut → Type 0
GoToOthers node = All (IsToAnother node)

-- a message of one of the kinds of the views
abbrev pub IsOfViews : Message → Type 0
IsOfViews Join = Unit {0}
IsOfViews (ForwardJoin node ttl) = Unit {0}
IsOfViews Disconnect = Unit {0}
IsOfViews (Neighbor priority) = Unit {0}
IsOfViews (NeighborReply answer) = Unit {0}
IsOfViews (Shuffle origin ttl nodes) = Unit {0}
IsOfViews (ShuffleReply nodes) = Unit {0}
IsOfViews Bye = Unit {0}
IsOfViews _ = ⊥

-- what is sent is such a message
abbrev pub SendsOfViews : ViewOut → Type 0
SendsOfViews (Send to message) = IsOfViews message
SendsOfViews (Up x) = Unit {0}
SendsOfViews (Down x) = Unit {0}

-- what holds of each step of lawful views, whichever row it is
pub record TellsItAll (old : NodeViews) (event : ViewEvent) (new : NodeViews) (out : List ViewOut)
    : Type 0 where
  pub node : new.node ≡ old.node
  pub lawful : AreLawful new.node new.active new.passive
  pub follows : Follows old.active out new.active
  pub others : IsOfAnother old.node event → GoToOthers old.node out
  pub of_views : All SendsOfViews out

abbrev pub EachStepTellsItAll : Type 0
EachStepTellsItAll =
    (old : NodeViews) (event : ViewEvent) (word : ℕ) (new : NodeViews) (out : List ViewOut)
    → AreLawful old.node old.active old.passive → IsStep old event word new out
    → TellsItAll old event new out
