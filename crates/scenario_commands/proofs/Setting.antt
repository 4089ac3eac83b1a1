-- Which marks a command sets.
use Rattle.std.proofs.Common.{◌≡◌, ℕ, zero, suc, ◌+◌, ◌-◌, ◌<◌, ◌≤◌, Bool, true, false, if◌then◌else◌, List, [], ◌∷◌, ◌++◌, length, replicate, Option, Some, None, Result, Ok, ◌⊎◌, inl, inr, refl, sym, ap, subst, ◌∙◌, append_assoc, arith}
use Rattle.std.specs.Prelude.{map, slice_get, slice_set}
use Rattle.std.proofs.lemmas.List.{append-nil, length-append, length-set, replicate-append-replicate}
use Rattle.std.specs.Option.{unwrap_or}
use Rattle.meta_types.specs.Name.{Key}
use Rattle.meta_types.specs.Value.{ValueParts}
use Rattle.meta_types.specs.declared.fault.TypeFault.{TypeFault}
use Rattle.world_core.specs.declared.answer.Answer.{Answer}
use Rattle.world_core.specs.declared.event.Event.{Event}
use Rattle.node_events.specs.declared.event.NodeEvent.TheVariants as nodes
use Rattle.world_core.specs.declared.event.Event.TheVariants as events
use Rattle.world_core.specs.declared.fault.WorldFault.{WorldFault}
use Rattle.world_core.specs.Refusal.{table_at}
use Rattle.scenario_text.specs.Commands.{Command, Put, Del, Deliver, Keep, Resolve, Settle, fault_in}
use Rattle.scenario_commands.specs.Coded.{IsNoDelivery}
use Rattle.scenario_commands.specs.Meaning.{Report, addressee, event_of, report_of}
use Rattle.scenario_commands.specs.Marking.{AddsUnset, SetsMarks, SetsOne, all_waiting}
use Rattle.scenario_commands.specs.Obeying.{Acts, ActsOrLooks, ActsUnless, Choices, Comes, HandsOn, HandsOnEach, IsNoNode, KeepsAll, KeepsHeld, Obeys, Resolves, Stage, counts_as_given, first_waiting, was_given, with_given, with_new}
use Rattle.scenario_commands.proofs.Acting.{write_here}
use Rattle.scenario_commands.proofs.Passing.{frame_there}
use Rattle.scenario_commands.proofs.Staging.{given_plain}

pub adds_none : (marks : List Bool) → AddsUnset marks marks
adds_none marks = record { sent = 0; new_is = sym (append-nil marks) }

adds_then : (old now new : List Bool) → AddsUnset old now → AddsUnset now new → AddsUnset old new
adds_then old now new a b = record {
  sent = a.sent + b.sent;
  new_is =
      b.new_is ∙ ap (λ (marks : List Bool). marks ++ replicate b.sent false) a.new_is ∙ append_assoc old (replicate a.sent false) (replicate b.sent false)
      ∙ ap (λ (rest : List Bool). old ++ rest) (replicate-append-replicate a.sent b.sent false);
}

adds_new : (frames : ℕ) (old new : List Bool) → new ≡ with_new frames old → AddsUnset old new
adds_new frames old new is = record { sent = frames - length old; new_is = is }

-- ---- an event

comes_plainly : (old new : Stage) (event : Event) (outcome : Result Answer WorldFault) → IsNoDelivery event → Comes old event outcome new → AddsUnset old.given new.given
comes_plainly old new event outcome plain comes =
    adds_new (length new.world.frames) old.given new.given (comes.given ∙ ap (with_new (length new.world.frames)) (given_plain event outcome old.given plain))

delivers : (counts : Bool) (frames frame : ℕ) (old new : List Bool) → (counts ≡ true → 1 ≤ frame) → new ≡ with_new frames (if counts then with_given frame old else old)
    → SetsOne frame old new ⊎ AddsUnset old new
delivers true frames frame old new some is = inl (some refl, adds_new frames (with_given frame old) new is)
delivers false frames frame old new some is = inr (adds_new frames old new is)

comes_by_delivery : (old new : Stage) (frame node word : ℕ) (outcome : Result Answer WorldFault) → Comes old (events.Deliver frame node word) outcome new → SetsOne frame old.given new.given ⊎ AddsUnset old.given new.given
comes_by_delivery old new frame node word outcome comes =
    delivers (counts_as_given outcome) (length new.world.frames) frame old.given new.given
    (λ counts. (frame_there old.world new.world frame node word outcome comes.outcome_is comes.had_memory counts).0) comes.given

-- ---- a command

keeps_marks : (node : ℕ) (keys : List Key) (old new : Stage) → KeepsAll old node keys new → AddsUnset old.given new.given
keeps_marks node [] old new same = subst (λ (s : Stage). AddsUnset old.given s.given) (sym same) (adds_none old.given)
keeps_marks node (key ∷ keys) old new (answer, between, comes, rest) =
    adds_then old.given between.given new.given (comes_plainly old between (events.Step node (nodes.Keep key)) (Ok answer) tt comes) (keeps_marks node keys between new rest)

stays : (old new : Stage) → new ≡ old → AddsUnset old.given new.given
stays old new same = subst (λ (s : Stage). AddsUnset old.given s.given) (sym same) (adds_none old.given)

keeps_or_not : (node : ℕ) (old new : Stage) (text : List ℕ) → KeepsHeld old node text new ⊎ IsNoNode old node text new → AddsUnset old.given new.given
keeps_or_not node old new text (inl keeps) = keeps_marks node (map (λ row. row.0) (table_at old.world node)) old new keeps.keeps
keeps_or_not node old new text (inr none) = stays old new none.2

resolves : (node : ℕ) (key : Key) (value : Option ValueParts) (old new : Stage) (text : List ℕ) → Resolves old node key value text new → AddsUnset old.given new.given
resolves node key None old new text answers = stays old new answers.1
resolves node key (Some value) old new text happens = comes_plainly old new (events.Step node (nodes.PutOver key value)) happens.outcome tt happens.comes

-- an event that is no delivery, or none
abbrev IsPlain : Option Event → Type 0
IsPlain None = Unit {0}
IsPlain (Some event) = IsNoDelivery event

acts_plainly : (event : Option Event) (look : Option Report) (old new : Stage) (text : List ℕ) → IsPlain event → ActsOrLooks old event look text new → AddsUnset old.given new.given
acts_plainly (Some event) look old new text plain happens = comes_plainly old new event happens.outcome plain happens.comes
acts_plainly None (Some look) old new text plain looks = stays old new looks.1
acts_plainly None None old new text plain nothing = stays old new nothing.1

given_as_long : (given : Bool) (frame : ℕ) (marks : List Bool) → length (if given then with_given frame marks else marks) ≡ length marks
given_as_long true frame marks = length-set marks (frame - 1) true
given_as_long false frame marks = refl

hands_on_grows : (old new : Stage) (frame : ℕ) → HandsOn old frame new → length old.given ≤ length new.given
hands_on_grows old new frame on =
    let marks : List Bool = if counts_as_given on.outcome then with_given frame old.given else old.given in
    let made : length on.between.given ≡ length marks + length (replicate (length on.between.world.frames - length marks) false) = ap length on.comes.given ∙ length-append marks (replicate (length on.between.world.frames - length marks) false) in
    let long : length new.given ≡ length on.between.given = ap (λ (s : Stage). length s.given) on.new_is ∙ length-set on.between.given (frame - 1) true in
    omega (arith, given_as_long (counts_as_given on.outcome) frame old.given, made, long)

settling_grows : (count : ℕ) (old new : Stage) → HandsOnEach old count new → length old.given ≤ length new.given
unfolding HandsOnEach
settling_grows zero old new same = omega (arith, ap (λ (s : Stage). length s.given) same)
settling_grows (suc count) old new (frame, between, waits, on, rest) = omega (arith, hands_on_grows old between frame on, settling_grows count between new rest)

none_wait : (number : ℕ) (given : List Bool) → first_waiting number given ≡ None → all_waiting number given ≡ []
none_wait number [] none = refl
none_wait number (true ∷ given) none = none_wait (number + 1) given none
none_wait number (false ∷ given) none = let no : Some number ≡ None = none in absurd (cc)

acts : (choices : Choices) (old new : Stage) (command : Command) (text : List ℕ) → Acts choices old command text new → SetsMarks command old.given new.given
acts choices old new (Keep node None) text does = keeps_or_not node old new text does
acts choices old new (Resolve node key by) text does = resolves node key _ old new text does
acts choices old new Settle text settles = (settling_grows settles.delivered old new settles.hands_on, none_wait 1 new.given settles.none_waits)
acts choices old new (Deliver frame to word) text happens = comes_by_delivery old new frame (unwrap_or to (addressee old.world frame)) word happens.outcome happens.comes
acts choices old new (Put n k v s read) text does =
    acts_plainly (event_of old.world (Put n k v s read)) None old new text (write_here n k (record { stamp = s; body = Some v }) read) does
acts choices old new (Del n k s read) text does =
    acts_plainly (event_of old.world (Del n k s read)) None old new text (write_here n k (record { stamp = s; body = None }) read) does
acts choices old new command text does = acts_plainly (event_of old.world command) (report_of old.world command) old new text tt does

-- a command that is refused for a name changes nothing
refused : (command : Command) (fault : TypeFault) (old new : Stage) → fault_in command ≡ Some fault → new ≡ old → SetsMarks command old.given new.given
refused (Deliver frame to word) fault old new is same = inr (stays old new same)
refused Settle fault old new is same = let no : None ≡ Some fault = is in absurd (cc)
refused command fault old new is same = stays old new same

acts_unless : (found : Option TypeFault) (choices : Choices) (old new : Stage) (command : Command) (text : List ℕ) → fault_in command ≡ found → ActsUnless found choices old command text new → SetsMarks command old.given new.given
acts_unless (Some fault) choices old new command text is nothing = refused command fault old new is nothing.1
acts_unless None choices old new command text is does = acts choices old new command text does

pub sets_marks : (choices : Choices) (old new : Stage) (command : Command) (text : List ℕ) → Obeys choices old command text new → SetsMarks command old.given new.given
sets_marks choices old new command text obeys = acts_unless (fault_in command) choices old new command text refl obeys

-- ---- a mark that is set stays so

abbrev IsSet : ℕ → List Bool → Type 0
IsSet place marks = unwrap_or (slice_get marks place) false ≡ true

set_before : (place : ℕ) (marks rest : List Bool) → IsSet place marks → IsSet place (marks ++ rest)
set_before place [] rest is = let no : false ≡ true = is in absurd (cc)
set_before zero (mark ∷ marks) rest is = is
set_before (suc place) (mark ∷ marks) rest is = set_before place marks rest is

set_still : (place other : ℕ) (marks : List Bool) → IsSet place marks → IsSet place (slice_set marks other true)
set_still place other [] is = is
set_still zero zero (mark ∷ marks) is = refl
set_still zero (suc other) (mark ∷ marks) is = is
set_still (suc place) zero (mark ∷ marks) is = is
set_still (suc place) (suc other) (mark ∷ marks) is = set_still place other marks is

set_there : (place : ℕ) (marks : List Bool) → IsSet place marks → place < length marks
set_there place [] is = let no : false ≡ true = is in absurd (cc)
set_there zero (mark ∷ marks) is = omega arith
set_there (suc place) (mark ∷ marks) is = let h = set_there place marks is in omega (arith, h)

set_all : (number place : ℕ) (marks : List Bool) → all_waiting number marks ≡ [] → place < length marks → IsSet place marks
set_all number place [] none low = absurd (omega arith)
set_all number zero (true ∷ marks) none low = refl
set_all number (suc place) (true ∷ marks) none low = set_all (number + 1) place marks none (omega (arith, low))
set_all number place (false ∷ marks) none low = absurd (cc)

adds_stays : (place : ℕ) (old new : List Bool) → AddsUnset old new → IsSet place old → IsSet place new
adds_stays place old new adds is = subst (IsSet place) (sym adds.new_is) (set_before place old (replicate adds.sent false) is)

stays_set : (command : Command) (place : ℕ) (old new : List Bool) → SetsMarks command old new → IsSet place old → IsSet place new
stays_set (Deliver frame to word) place old new (inl one) is = adds_stays place (with_given frame old) new one.1 (set_still place (frame - 1) old is)
stays_set (Deliver frame to word) place old new (inr adds) is = adds_stays place old new adds is
stays_set Settle place old new (grows, none) is = let low = set_there place old is in set_all 1 place new none (omega (arith, low, grows))
stays_set command place old new adds is = adds_stays place old new adds is

pub stays_given : (command : Command) (frame : ℕ) (old new : List Bool) → SetsMarks command old new → was_given frame old ≡ true → was_given frame new ≡ true
stays_given command zero old new sets is = is
stays_given command (suc place) old new sets is = stays_set command place old new sets is
