-- A command that is an event, or only looks.
use Rattle.std.proofs.Common.{◌≡◌, ℕ, ◌≤◌, List, [], ◌++◌, length, Option, Some, None, Err, inl, inr, refl, sym, subst, ◌∙◌, arith}
use Rattle.std.proofs.lemmas.List.{append-nil}
use Rattle.meta_types.specs.Name.{Key}
use Rattle.meta_types.specs.Value.{ValueParts}
use Rattle.meta_types.specs.Node.{most_nodes}
use Rattle.node_events.specs.Event.{other_of}
use Rattle.node_events.specs.declared.event.NodeEvent.{NodeEvent}
use Rattle.node_events.specs.declared.event.NodeEvent.TheVariants as nodes
use Rattle.world_core.specs.declared.event.Event.{Event}
use Rattle.world_core.specs.declared.event.Event.TheVariants as events
use Rattle.world_core.specs.declared.fault.WorldFault.TheVariants.{NoSuchNode}
use Rattle.world_core.specs.Outcome.{Outcome}
use Rattle.world_core.specs.Refusal.{HasNoNode}
use Rattle.world_core.specs.World.{World, new_world}
use Rattle.scenario_text.specs.Commands as spoken
use Rattle.scenario_text.specs.Commands.{Command}
use Rattle.scenario_commands.specs.Coded.{ActsOrLooksAs, IsActOrLook, IsEventOf, IsNoDelivery, LooksOrNot, NamesPastAll}
use Rattle.scenario_commands.specs.Meaning.{Report, event_of, report_of, write_of}
use Rattle.scenario_commands.specs.Obeying.{ActsOrLooks, Happens, Stage}
use Rattle.scenario_commands.specs.Printed.{world_refused}
use Rattle.scenario_commands.proofs.Marks.{with_new-none}

abbrev IfEvent : Option Event → Type 0
IfEvent None = Unit {0}
IfEvent (Some event) = IsNoDelivery event

-- a write is no delivery, whatever it has read
pub write_here : (n : ℕ) (k : Key) (v : ValueParts) (read : Option ℕ) → IsNoDelivery (write_of n k v read)
write_here n k v None = tt
write_here n k v (Some read) = tt

event_here : (w : World) (command : Command) → IsActOrLook command → IfEvent (event_of w command)
event_here w (spoken.Deliver frame to word) here = absurd here
event_here w (spoken.Keep n None) here = absurd here
event_here w (spoken.Keep n (Some k)) here = tt
event_here w (spoken.Put n k v s read) here = write_here n k (record { stamp = s; body = Some v }) read
event_here w (spoken.Del n k s read) here = write_here n k (record { stamp = s; body = None }) read
event_here w command here = tt

pub event_is : (w : World) (command : Command) (event : Option Event) → IsActOrLook command → IsEventOf command event → event_of w command ≡ event
event_is w (spoken.Deliver frame to word) event here is = absurd here
event_is w command event here is = is w

pub no_delivery : (command : Command) (event : Event) → IsActOrLook command → IsEventOf command (Some event) → IsNoDelivery event
no_delivery command event here is = let w : World = new_world 1 in subst IfEvent (event_is w command (Some event) here is) (event_here w command here)

-- an event happened
pub acts : (old new : Stage) (known : Option Event) (event : Event) (look : Option Report) (text_old text_new : List ℕ) → known ≡ Some event → (added : List ℕ) × Happens old event added new × (text_new ≡ text_old ++ added)
    → (added : List ℕ) × ActsOrLooks old known look added new × (text_new ≡ text_old ++ added)
acts old new known event look text_old text_new is (added, happens, text_is) = (added, subst (λ (e : Option Event). ActsOrLooks old e look added new) (sym is) happens, text_is)

-- it was only looked, or nothing was done
looks_or_not : (old : Stage) (look : Option Report) (text_old text_new : List ℕ) → LooksOrNot old look text_old text_new → (added : List ℕ) × ActsOrLooks old None look added old × (text_new ≡ text_old ++ added)
looks_or_not old None text_old text_new same = ([], (refl, refl), same ∙ sym (append-nil text_old))
looks_or_not old (Some look) text_old text_new (added, looks, text_is) = (added, looks, text_is)

pub looks : (old : Stage) (known : Option Event) (look : Option Report) (text_old text_new : List ℕ) → known ≡ None → LooksOrNot old look text_old text_new
    → (added : List ℕ) × ActsOrLooks old known look added old × (text_new ≡ text_old ++ added)
looks old known look text_old text_new is looked =
    let told = looks_or_not old look text_old text_new looked in (told.0, subst (λ (e : Option Event). ActsOrLooks old e look told.0 old) (sym is) told.1, told.2)

-- ---- another node that no world has

no_node : (w : World) (n : ℕ) (event : NodeEvent) → HasNoNode w (other_of event) → Outcome w (events.Step n event) (Err NoSuchNode) w
unfolding Outcome
no_node w n event none = record { cause = inr (inl (inr none, refl)); same = refl }

-- what is asked of it is refused
refused : (old : Stage) (n : ℕ) (event : NodeEvent) → length old.given ≡ length old.world.frames → HasNoNode old.world (other_of event)
    → Happens old (events.Step n event) (world_refused NoSuchNode) old
refused old n event marks none = record {
  outcome = Err NoSuchNode;
  comes = record { outcome_is = no_node old.world n event none; had_memory = λ e. cc; given = sym (with_new-none (length old.world.frames) old.given (omega (arith, marks))) };
  sent = [];
  sent_is = refl;
  text_is = sym (append-nil (world_refused NoSuchNode));
}

past_all : (old : Stage) (command : Command) → length old.given ≡ length old.world.frames → length old.world.nodes ≤ most_nodes → NamesPastAll command
    → ActsOrLooks old (event_of old.world command) (report_of old.world command) (world_refused NoSuchNode) old
past_all old (spoken.Join n contact word) marks few past = let past_nodes : most_nodes ≤ contact = past in refused old n (nodes.Join contact word) marks (omega (arith, few, past_nodes))
past_all old (spoken.Down n peer word) marks few past = let past_nodes : most_nodes ≤ peer = past in refused old n (nodes.PeerDown peer word) marks (omega (arith, few, past_nodes))
past_all old (spoken.Exchange n peer) marks few past = let past_nodes : most_nodes ≤ peer = past in refused old n (nodes.Exchange peer) marks (omega (arith, few, past_nodes))
past_all old (spoken.Hello n peer) marks few past = let past_nodes : most_nodes ≤ peer = past in refused old n (nodes.Hello peer) marks (omega (arith, few, past_nodes))
past_all old command marks few past = absurd past

pub acts_past : (old : Stage) (command : Command) (text_old text_new : List ℕ) → length old.given ≡ length old.world.frames → length old.world.nodes ≤ most_nodes → NamesPastAll command
    → text_new ≡ text_old ++ world_refused NoSuchNode → ActsOrLooksAs old command text_old text_new old
acts_past old command text_old text_new marks few past text_is = (world_refused NoSuchNode, past_all old command marks few past, text_is)
