-- What the commands of a run ask for.
use Rattle.std.proofs.Common.{◌≡◌, ◌+◌, ◌-◌, ◌<◌, ◌==◌, ℕ, zero, false, List, [], ◌∷◌, ◌++◌, map, suc, Option, Some, None, IfSome, refl, ap, arith, ne_eqb}
use Rattle.std.specs.List.{AllByRecursion, cons_option, filter_map, range_with_len}
use Rattle.meta_types.specs.Name.{Key}
use Rattle.node_events.specs.declared.event.NodeEvent.{NodeEvent}
use Rattle.node_events.specs.declared.event.NodeEvent.TheVariants as asked
use Rattle.world_core.specs.declared.event.Event.{Event}
use Rattle.world_core.specs.declared.event.Event.TheVariants as events
use Rattle.world_core.specs.World.{World}
use Rattle.scenario_text.specs.Commands.{Command, Root}
use Rattle.scenario_commands.specs.Meaning.{event_of, write_of}
use Rattle.run_text.specs.Replay.{AskFor, IsSpelled, command_of_event, over_command, step_command, write_command}

-- ---- one command

-- the command is this event in every world
abbrev Means : Event → Option Command → Type 0
Means event command = IfSome command (λ c. (w : World) → event_of w c ≡ Some event)

write_means : (n : ℕ) (k : Key) (stamp : ℕ) (body : Option (List ℕ)) (read : Option ℕ) (w : World)
    → event_of w (write_command n k stamp body read) ≡ Some (write_of n k (record { stamp = stamp; body = body }) read)
write_means n k stamp None read w = refl
write_means n k stamp (Some bytes) read w = refl

over_means : (n : ℕ) (k : Key) (stamp : ℕ) (body : Option (List ℕ)) → Means (events.Step n (asked.PutOver k (record { stamp = stamp; body = body }))) (over_command n k stamp body)
over_means n k stamp None = tt
over_means n k stamp (Some bytes) = λ w. refl

take_means : (n : ℕ) (bytes : List ℕ) (word : ℕ) → Means (events.Step n (asked.Take bytes word)) (step_command n (asked.Take bytes word))
take_means n bytes zero = λ w. refl
take_means n bytes (suc word) =
    let other : (suc word == 0) ≡ false = ne_eqb (suc word) 0 (λ none. omega arith) in rw other tt

step_means : (n : ℕ) (event : NodeEvent) → Means (events.Step n event) (step_command n event)
step_means n (asked.Read k) = λ w. refl
step_means n (asked.Write k v None) = write_means n k v.stamp v.body None
step_means n (asked.Write k v (Some context)) = tt
step_means n (asked.PutOver k v) = over_means n k v.stamp v.body
step_means n (asked.Take bytes word) = take_means n bytes word
step_means n (asked.Tick word) = λ w. refl
step_means n (asked.Join contact word) = λ w. refl
step_means n (asked.PeerDown peer word) = λ w. refl
step_means n (asked.Exchange peer) = λ w. refl
step_means n (asked.Keep k) = λ w. refl
step_means n (asked.Watch p capacity) = λ w. refl
step_means n (asked.Changes number) = λ w. refl
step_means n (asked.Hello peer) = λ w. refl
step_means n asked.Leave = λ w. refl

means : (event : Event) → Means event (command_of_event event)
means (events.Step n event) = step_means n event
means (events.Put n k v read) = write_means n k v.stamp v.body (Some read)
means (events.Deliver f n word) = λ w. refl
means (events.Restart n image) = λ w. refl

-- ---- all of them

asks_front : (event : Event) (all : List Event) (command : Option Command) (commands left : List Command) → IsSpelled command → Means event command → AskFor (commands ++ left) all left
    → AskFor (cons_option command commands ++ left) (event ∷ all) left
asks_front event all None commands left is means rest = absurd is
asks_front event all (Some command) commands left is means rest = (record { is_taken = is.0; is_event = means }, rest)

pub asks_all : (all : List Event) (left : List Command) → AllByRecursion (λ event. IsSpelled (command_of_event event)) all → AskFor (filter_map command_of_event all ++ left) all left
asks_all [] left each = refl
asks_all (event ∷ all) left each =
    asks_front event all (command_of_event event) (filter_map command_of_event all) left each.0 (means event) (asks_all all left each.1)

-- ---- the roots

-- the roots from a node on are its own, and those behind it
pub roots_from : (node end : ℕ) → node < end
    → map Root (range_with_len node (end - node))
    ≡ Root node ∷ map Root (range_with_len (node + 1) (end - (node + 1)))
roots_from node end lt =
    let e : end - node ≡ suc (end - (node + 1)) = omega arith in
    ap (λ count. map Root (range_with_len node count)) e
