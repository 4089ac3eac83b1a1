-- What private functions cite of the code: what a command does, with the text that it adds.
use Rattle.std.specs.Prelude.{◌≡◌, ◌≢◌, ◌+◌, ◌≤◌, ◌⊎◌, ◌++◌, ℕ, true, List, Option, Some, None, Result, Ok, Err, length}
use Rattle.std.specs.Option.{unwrap_or}
use Rattle.meta_types.specs.Name.{Key}
use Rattle.meta_types.specs.Node.{most_nodes}
use Rattle.meta_types.specs.Value.{ValueParts}
use Rattle.dvvset.specs.Clock.{values_of}
use Rattle.meta_store.specs.Table.{object_at}
use Rattle.world_core.specs.declared.answer.Answer.{Answer}
use Rattle.world_core.specs.declared.answer.FrameNumbers.{FrameNumbers}
use Rattle.world_core.specs.declared.event.Event.{Event}
use Rattle.world_core.specs.declared.event.Event.TheVariants as events
use Rattle.world_core.specs.declared.fault.WorldFault.{WorldFault}
use Rattle.world_core.specs.declared.fault.WorldFault.TheVariants as worlds
use Rattle.world_core.specs.Refusal.{table_at}
use Rattle.world_core.specs.World.{World}
use Rattle.scenario_text.specs.Commands as spoken
use Rattle.scenario_text.specs.Commands.{Command}
use Rattle.scenario_commands.specs.Meaning.{Report, addressee, event_of, report_of}
use Rattle.scenario_commands.specs.Fault.{most_deliveries}
use Rattle.scenario_commands.specs.Obeying.{ActsOrLooks, AreSent, GoesOn, HandsOnEach, Happens, IsNoNode, KeepsHeld, Looks, Resolves, Settles, Stage, chosen_as, counts_as_given, outcome_line, waiting}
use Rattle.scenario_commands.specs.declared.fault.StageFault.{StageFault}
use Rattle.scenario_commands.specs.declared.fault.StageFault.TheVariants.{Limit, Memory}

-- the event that a command is, if it is one; nothing is said of a delivery, whose addressee only
-- the world knows
abbrev pub IsEventOf : Command → Option Event → Type 0
IsEventOf (spoken.Deliver frame to word) event = Unit {0}
IsEventOf command event = (w : World) → event_of w command ≡ event

-- the other node that the command names has a number that no node of any world has
abbrev pub NamesPastAll : Command → Type 0
NamesPastAll (spoken.Join n contact word) = most_nodes ≤ contact
NamesPastAll (spoken.Down n peer word) = most_nodes ≤ peer
NamesPastAll (spoken.Exchange n peer) = most_nodes ≤ peer
NamesPastAll (spoken.Hello n peer) = most_nodes ≤ peer
NamesPastAll command = ⊥

-- then it is no event of the code, and is refused as each world refuses it
abbrev pub RefusesPastAll : Command → WorldFault → Type 0
RefusesPastAll command fault = (fault ≡ worlds.NoSuchNode) × NamesPastAll command

-- the event of a command of numbers alone, if it is one; nothing is said of other events
abbrev pub IsEventOfNumbers : Command → Option Event → Type 0
IsEventOfNumbers (spoken.Put n k v s r) event = Unit {0}
IsEventOfNumbers (spoken.Del n k s r) event = Unit {0}
IsEventOfNumbers (spoken.Over n k v s) event = Unit {0}
IsEventOfNumbers (spoken.Read n k) event = Unit {0}
IsEventOfNumbers (spoken.Junk n bytes) event = Unit {0}
IsEventOfNumbers (spoken.Keep n k) event = Unit {0}
IsEventOfNumbers (spoken.Watch n p capacity) event = Unit {0}
IsEventOfNumbers command event = IsEventOf command event

-- ---- what a command of the code does

-- of one delivery
abbrev pub Delivers : Stage → ℕ → Option ℕ → ℕ → (text_old text_new : List ℕ) → Stage → Type 0
Delivers old frame to word text_old text_new new = (added : List ℕ)
    × Happens old (events.Deliver frame (unwrap_or to (addressee old.world frame)) word) added new
    × (text_new ≡ text_old ++ added)

-- of a settling
abbrev pub SettlesOrPasses : Stage → (text_old text_new : List ℕ) → Stage
    → Result Unit StageFault → Type 0
SettlesOrPasses old text_old text_new new (Ok done) = (added : List ℕ)
    × Settles old added new × (text_new ≡ text_old ++ added)
SettlesOrPasses old text_old text_new new (Err Limit) = GoesOn old
SettlesOrPasses old text_old text_new new (Err Memory) = Unit {0}

-- of looking
abbrev pub LooksOrNot : Stage → Option Report → (text_old text_new : List ℕ) → Type 0
LooksOrNot old None text_old text_new = text_new ≡ text_old
LooksOrNot old (Some look) text_old text_new = (added : List ℕ)
    × Looks old look added old × (text_new ≡ text_old ++ added)

abbrev pub LooksAt : Stage → Command → (text_old text_new : List ℕ) → Type 0
LooksAt old command text_old text_new =
    LooksOrNot old (report_of old.world command) text_old text_new

-- of keeping
abbrev pub KeepsOrNot : Stage → ℕ → (text_old text_new : List ℕ) → Stage → Type 0
KeepsOrNot old node text_old text_new new = (added : List ℕ)
    × (KeepsHeld old node added new ⊎ IsNoNode old node added new)
    × (text_new ≡ text_old ++ added)

-- of resolving, by what a resolver chooses
abbrev pub ResolvesAs : Stage → ℕ → Key → Option (List ValueParts → ℕ)
    → (text_old text_new : List ℕ) → Stage → Type 0
ResolvesAs old node key choice text_old text_new new = (added : List ℕ)
    × Resolves old node key (chosen_as choice (values_of (object_at (table_at old.world node) key)))
    added new × (text_new ≡ text_old ++ added)

-- of an event, or of looking
abbrev pub ActsOrLooksAs : Stage → Command → (text_old text_new : List ℕ) → Stage → Type 0
ActsOrLooksAs old command text_old text_new new = (added : List ℕ)
    × ActsOrLooks old (event_of old.world command) (report_of old.world command) added new
    × (text_new ≡ text_old ++ added)

-- `delivered` waiting frames are handed on: all of them, or the greatest number that may be
pub record HandsOnUpTo (old : Stage) (delivered : ℕ) (new : Stage) : Type 0 where
  pub within : delivered ≤ most_deliveries
  pub hands_on : HandsOnEach old delivered new
  pub all : (delivered ≡ most_deliveries) ⊎ (waiting new ≡ None)

-- a frame that was delivered with this outcome, and was given, is there
abbrev pub CanBeMarked : World → ℕ → Result Answer WorldFault → Type 0
CanBeMarked w frame outcome = (outcome ≢ Err worlds.Memory) → (counts_as_given outcome ≡ true)
    → (1 ≤ frame) × (frame ≤ length w.frames)

-- no frame is delivered
abbrev pub IsNoDelivery : Event → Type 0
IsNoDelivery (events.Deliver frame n word) = ⊥
IsNoDelivery event = Unit {0}

-- a command that is an event other than a delivery, or only looks, or does nothing
abbrev pub IsActOrLook : Command → Type 0
IsActOrLook (spoken.Deliver frame to word) = ⊥
IsActOrLook (spoken.Keep n None) = ⊥
IsActOrLook (spoken.Resolve n k by) = ⊥
IsActOrLook spoken.Settle = ⊥
IsActOrLook command = Unit {0}

-- what was sent, and is in this world
abbrev pub AreThere : World → FrameNumbers → Type 0
AreThere w sent = (1 ≤ sent.first) × (sent.first + sent.count ≤ length w.frames + 1)

-- the outcome of an event was added, and what it sent; memory didn't run out
pub record PrintsOutcome (w : World) (outcome : Result Answer WorldFault)
    (text_old text_new : List ℕ) : Type 0 where
  pub had_memory : outcome ≢ Err worlds.Memory
  pub sent : List ℕ
  pub sent_is : AreSent w outcome sent
  pub text_is : text_new ≡ text_old ++ (outcome_line outcome ++ sent)

-- what was sent with this outcome is in this world
abbrev pub HasSent : World → Result Answer WorldFault → Type 0
HasSent w (Ok answer) = AreThere w answer.sent
HasSent w (Err fault) = Unit {0}
