-- A run that has a text is replayed by it.
use Rattle.std.proofs.Common.{◌≡◌, ◌+◌, ◌≤◌, ◌==◌, ℕ, zero, suc, false, List, [], ◌∷◌, ◌++◌, All, map, Option, Some, None, IfSome, refl, sym, arith, ne_eqb}
use Rattle.std.specs.List.{AllByRecursion, cons_option, filter_map, range_with_len}
use Rattle.std.proofs.lemmas.List.Elements.{All-append, All-from_recursion, recursion_from_All}
use Rattle.meta_types.specs.Name.{Key}
use Rattle.node_events.specs.declared.event.NodeEvent.{NodeEvent}
use Rattle.node_events.specs.declared.event.NodeEvent.TheVariants as asked
use Rattle.world_core.specs.declared.event.Event.{Event}
use Rattle.world_core.specs.declared.event.Event.TheVariants as events
use Rattle.scenario_text.specs.Commands.{Command, Root}
use Rattle.scenario_text.specs.Script.{is_nodes}
use Rattle.scenario_text.specs.Spelling.{HasSpelling, HasText, spelled_scenario}
use Rattle.scenario_text.proofs.SpelledText.{scenario_reads}
use Rattle.run_text.specs.Replay.{HasReplay, IsSpelled, Replays, command_of_event, over_command, roots_of, scenario_of_run, step_command, write_command}
use Rattle.run_text.proofs.Asking.{asks_all}

-- ---- each command has a spelling

front_spelled : (resolvers : ℕ) (command : Option Command) (commands : List Command) → IsSpelled command → AllByRecursion (HasSpelling resolvers) commands
    → AllByRecursion (HasSpelling resolvers) (cons_option command commands)
front_spelled resolvers None commands is rest = absurd is
front_spelled resolvers (Some command) commands is rest = (is.1 resolvers, rest)

all_spelled : (resolvers : ℕ) (all : List Event) → AllByRecursion (λ event. IsSpelled (command_of_event event)) all → AllByRecursion (HasSpelling resolvers) (filter_map command_of_event all)
all_spelled resolvers [] each = tt
all_spelled resolvers (event ∷ all) each =
    front_spelled resolvers (command_of_event event) (filter_map command_of_event all) each.0 (all_spelled resolvers all each.1)

roots_spelled : (resolvers from count : ℕ) → from + count ≤ 16 → AllByRecursion (HasSpelling resolvers) (map Root (range_with_len from count))
roots_spelled resolvers from zero few = tt
roots_spelled resolvers from (suc count) few = (omega arith, roots_spelled resolvers (from + 1) count (omega arith))

-- ---- none is `nodes`

abbrev IsNotNodes : Command → Type 0
IsNotNodes command = is_nodes command ≡ false

write_not : (n : ℕ) (k : Key) (stamp : ℕ) (body : Option (List ℕ)) (read : Option ℕ) → IsNotNodes (write_command n k stamp body read)
write_not n k stamp None read = refl
write_not n k stamp (Some bytes) read = refl

over_not : (n : ℕ) (k : Key) (stamp : ℕ) (body : Option (List ℕ)) → IfSome (over_command n k stamp body) IsNotNodes
over_not n k stamp None = tt
over_not n k stamp (Some bytes) = refl

take_not : (n : ℕ) (bytes : List ℕ) (word : ℕ) → IfSome (step_command n (asked.Take bytes word)) IsNotNodes
take_not n bytes zero = refl
take_not n bytes (suc word) =
    let other : (suc word == 0) ≡ false = ne_eqb (suc word) 0 (λ none. omega arith) in rw other tt

step_not : (n : ℕ) (event : NodeEvent) → IfSome (step_command n event) IsNotNodes
step_not n (asked.Write k v None) = write_not n k v.stamp v.body None
step_not n (asked.Write k v (Some context)) = tt
step_not n (asked.PutOver k v) = over_not n k v.stamp v.body
step_not n (asked.Take bytes word) = take_not n bytes word
step_not n _ = refl

not_nodes : (event : Event) → IfSome (command_of_event event) IsNotNodes
not_nodes (events.Step n event) = step_not n event
not_nodes (events.Put n k v read) = write_not n k v.stamp v.body (Some read)
not_nodes (events.Deliver f n word) = refl
not_nodes (events.Restart n image) = refl

front_not : (command : Option Command) (commands : List Command) → IfSome command IsNotNodes → AllByRecursion IsNotNodes commands → AllByRecursion IsNotNodes (cons_option command commands)
front_not None commands is rest = rest
front_not (Some command) commands is rest = (is, rest)

all_not : (all : List Event) → AllByRecursion IsNotNodes (filter_map command_of_event all)
all_not [] = tt
all_not (event ∷ all) = front_not (command_of_event event) (filter_map command_of_event all) (not_nodes event) (all_not all)

roots_not : (from count : ℕ) → AllByRecursion IsNotNodes (map Root (range_with_len from count))
roots_not from zero = tt
roots_not from (suc count) = (refl, roots_not (from + 1) count)

-- ---- the text

both : (P : Command → Type 0) (xs ys : List Command) → AllByRecursion P xs → AllByRecursion P ys → All P (xs ++ ys)
both P xs ys first second = All-append P xs ys (All-from_recursion P xs first) (All-from_recursion P ys second)

has_text : (resolvers : ℕ) (about : List ℕ) (nodes : ℕ) (all : List Event) → HasReplay about nodes all → HasText resolvers about (scenario_of_run nodes all)
has_text resolvers about nodes all h =
    let each = recursion_from_All (λ event. IsSpelled (command_of_event event)) all h.each in
    let few = h.count resolvers in
    record {
      one_line = h.one_line;
      nodes = few;
      commands = both (HasSpelling resolvers) (filter_map command_of_event all) (roots_of nodes) (all_spelled resolvers all each)
          (roots_spelled resolvers 0 nodes (omega (arith, few.1)));
      once = both IsNotNodes (filter_map command_of_event all) (roots_of nodes) (all_not all) (roots_not 0 nodes);
    }

pub replays : (resolvers : ℕ) (about : List ℕ) (nodes : ℕ) (all : List Event) → HasReplay about nodes all → Replays resolvers nodes all (spelled_scenario about (scenario_of_run nodes all))
replays resolvers about nodes all h =
    let reads = scenario_reads resolvers about (scenario_of_run nodes all) (has_text resolvers about nodes all h) in
    record {
      is_whole = reads.0;
      commands = filter_map command_of_event all ++ roots_of nodes;
      is_scenario = sym reads.1;
      asks = asks_all all (roots_of nodes) (recursion_from_All (λ event. IsSpelled (command_of_event event)) all h.each);
    }
