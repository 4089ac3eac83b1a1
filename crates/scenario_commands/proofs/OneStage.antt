-- Of each command there is one text and one stage left.
use Rattle.std.proofs.Common.{◌≡◌, ℕ, zero, suc, ◌+◌, ◌≤◌, List, [], ◌∷◌, ◌++◌, length, Option, Some, None, Result, Ok, Err, ◌⊎◌, inl, inr, refl, sym, ap, subst, ◌∙◌, arith}
use Rattle.std.specs.Prelude.{decimal, codes}
use Rattle.meta_types.specs.Name.{Key}
use Rattle.meta_types.specs.Value.{ValueParts}
use Rattle.meta_types.specs.declared.fault.TypeFault.{TypeFault}
use Rattle.meta_frame.specs.declared.message.Frame.{Frame}
use Rattle.meta_frame.specs.Frame.{Spells}
use Rattle.meta_frame.proofs.Frames.{one_frame}
use Rattle.world_core.specs.declared.answer.Answer.{Answer}
use Rattle.world_core.specs.declared.event.Event.{Event}
use Rattle.node_events.specs.declared.event.NodeEvent.TheVariants as nodes
use Rattle.world_core.specs.declared.event.Event.TheVariants as events
use Rattle.world_core.specs.declared.fault.WorldFault.{WorldFault}
use Rattle.world_core.specs.Refusal.{IsFrameOf}
use Rattle.world_core.specs.World.{World}
use Rattle.world_core.proofs.Deciding.{one_outcome}
use Rattle.scenario_text.specs.Commands.{Command, Keep, Resolve, Settle, fault_in}
use Rattle.scenario_commands.specs.Meaning.{Report, addressee, event_of, report_of}
use Rattle.scenario_commands.specs.Obeying.{Acts, ActsOrLooks, ActsUnless, Answers, AreSent, Choices, Comes, GoesOn, HandsOn, HandsOnEach, Happens, IsNoNode, KeepsHeld, KeepsAll, Obeys, PassesLimit, Resolves, Settles, Stage, given_by, outcome_line, waiting, with_given, with_new}
use Rattle.scenario_commands.specs.Printed.{AreFrameLines, frame_line, line}

-- one text, and one stage left
abbrev pub AreOne : (text other : List ℕ) (new left : Stage) → Type 0
AreOne text other new left = (text ≡ other) × (new ≡ left)

pub one_stage : (s t : Stage) → s.world ≡ t.world → s.given ≡ t.given → s ≡ t
one_stage s t world given = λ i. record { world = world i; given = given i }

-- ---- an event

pub one_comes : (old new left : Stage) (event : Event) (outcome also : Result Answer WorldFault) → Comes old event outcome new → Comes old event also left → (outcome ≡ also) × (new ≡ left)
one_comes old new left event outcome also a b =
    let same = one_outcome old.world new.world left.world event outcome also a.outcome_is b.outcome_is a.had_memory b.had_memory in (
      same.0,
      one_stage new left same.1
          (a.given ∙ ap (λ (w : World). with_new (length w.frames) (given_by event outcome old.given)) same.1
          ∙ ap (λ (o : Result Answer WorldFault). with_new (length left.world.frames) (given_by event o old.given)) same.0 ∙ sym b.given),
    )

one_frame_of : (w : World) (number : ℕ) (f g : Frame) → IsFrameOf w number f → IsFrameOf w number g → f ≡ g
one_frame_of w number f g is also =
    let found : Some is.bytes ≡ Some also.bytes = sym is.there ∙ also.there in
    let bytes : is.bytes ≡ also.bytes = cc in
    one_frame f g also.bytes (subst (Spells f) bytes is.spelled) also.spelled

one_lines : (w : World) (number count : ℕ) (text other : List ℕ) → AreFrameLines w number count text → AreFrameLines w number count other → text ≡ other
one_lines w number zero text other a b = a ∙ sym b
one_lines w number (suc more) text other (f, rest, is, lines, text_is) (g, behind, also, others, other_is) =
    text_is ∙ ap (λ (x : Frame). frame_line number x ++ rest) (one_frame_of w number f g is also)
    ∙ ap (λ (xs : List ℕ). frame_line number g ++ xs) (one_lines w (number + 1) more rest behind lines others) ∙ sym other_is

one_sent : (w : World) (outcome : Result Answer WorldFault) (text other : List ℕ) → AreSent w outcome text → AreSent w outcome other → text ≡ other
one_sent w (Ok answer) text other a b = one_lines w answer.sent.first answer.sent.count text other a b
one_sent w (Err fault) text other a b = a ∙ sym b

pub one_happens : (old new left : Stage) (event : Event) (text other : List ℕ) → Happens old event text new → Happens old event other left → AreOne text other new left
one_happens old new left event text other a b =
    let same = one_comes old new left event a.outcome b.outcome a.comes b.comes in
    let sent : AreSent left.world b.outcome a.sent =
    subst (λ (s : Stage). AreSent s.world b.outcome a.sent) same.1 (subst (λ (o : Result Answer WorldFault). AreSent new.world o a.sent) same.0 a.sent_is) in (
      a.text_is ∙ ap (λ (o : Result Answer WorldFault). outcome_line o ++ a.sent) same.0
          ∙ ap (λ (xs : List ℕ). outcome_line b.outcome ++ xs) (one_sent left.world b.outcome a.sent b.sent sent b.sent_is) ∙ sym b.text_is,
      same.1,
    )

-- ---- looking, keeping and resolving

pub one_answer : (old new left : Stage) (node : ℕ) (answer text other : List ℕ) → Answers old node answer text new → Answers old node answer other left → AreOne text other new left
one_answer old new left node answer text other a b = (a.0 ∙ sym b.0, a.1 ∙ sym b.1)

one_keeping : (node : ℕ) (keys : List Key) (old new left : Stage) → KeepsAll old node keys new → KeepsAll old node keys left → new ≡ left
one_keeping node [] old new left a b = a ∙ sym b
one_keeping node (key ∷ keys) old new left (answer, between, comes, rest) (also, behind, again, others) =
    let same : between ≡ behind = (one_comes old between behind (events.Step node (nodes.Keep key)) (Ok answer) (Ok also) comes again).1 in
    one_keeping node keys behind new left (subst (λ (s : Stage). KeepsAll s node keys new) same rest) others

one_keeps : (node : ℕ) (old new left : Stage) (text other : List ℕ) → KeepsHeld old node text new → KeepsHeld old node other left → AreOne text other new left
one_keeps node old new left text other a b = (a.text_is ∙ sym b.text_is, one_keeping node _ old new left a.keeps b.keeps)

one_keeps_or_not : (node : ℕ) (old new left : Stage) (text other : List ℕ) → KeepsHeld old node text new ⊎ IsNoNode old node text new → KeepsHeld old node other left ⊎ IsNoNode old node other left → AreOne text other new left
one_keeps_or_not node old new left text other (inl a) (inl b) = one_keeps node old new left text other a b
one_keeps_or_not node old new left text other (inl a) (inr b) = absurd (omega (arith, a.there, b.0))
one_keeps_or_not node old new left text other (inr a) (inl b) = absurd (omega (arith, b.there, a.0))
one_keeps_or_not node old new left text other (inr a) (inr b) = (a.1 ∙ sym b.1, a.2 ∙ sym b.2)

one_resolves : (node : ℕ) (key : Key) (value : Option ValueParts) (old new left : Stage) (text other : List ℕ) → Resolves old node key value text new → Resolves old node key value other left → AreOne text other new left
one_resolves node key None old new left text other a b = one_answer old new left node (codes "ok") text other a b
one_resolves node key (Some value) old new left text other a b = one_happens old new left (events.Step node (nodes.PutOver key value)) text other a b

-- ---- settling

pub one_hands_on : (old new left : Stage) (frame : ℕ) → HandsOn old frame new → HandsOn old frame left → new ≡ left
one_hands_on old new left frame a b =
    let same = (one_comes old a.between b.between (events.Deliver frame (addressee old.world frame) 0) a.outcome b.outcome a.comes b.comes).1 in
    a.new_is ∙ ap (λ (s : Stage). let t : Stage = record s { given = with_given frame s.given } in t) same ∙ sym b.new_is

same_frame : (s : Stage) (f g : ℕ) → waiting s ≡ Some f → waiting s ≡ Some g → f ≡ g
same_frame s f g a b = let e : Some f ≡ Some g = sym a ∙ b in cc

waits_or_not : (s t : Stage) (f : ℕ) → s ≡ t → waiting s ≡ None → waiting t ≡ Some f → ⊥
waits_or_not s t f same none some = let no : None ≡ Some f = sym none ∙ ap waiting same ∙ some in absurd (cc)

-- one more frame is handed on alike
one_step : (old between behind : Stage) (f g : ℕ) → waiting old ≡ Some f → waiting old ≡ Some g → HandsOn old f between → HandsOn old g behind → between ≡ behind
one_step old between behind f g a b on also =
    one_hands_on old between behind g (subst (λ n. HandsOn old n between) (same_frame old f g a b) on) also

one_settling : (m n : ℕ) (old new left : Stage) → HandsOnEach old m new → waiting new ≡ None → HandsOnEach old n left → waiting left ≡ None → (m ≡ n) × (new ≡ left)
unfolding HandsOnEach
one_settling zero zero old new left a over b done = (refl, a ∙ sym b)
one_settling zero (suc n) old new left a over (g, behind, waits, on, rest) done = absurd (waits_or_not new old g a over waits)
one_settling (suc m) zero old new left (f, between, waits, on, rest) over b done = absurd (waits_or_not left old f b done waits)
one_settling (suc m) (suc n) old new left (f, between, waits, on, rest) over (g, behind, also, again, others) done =
    let same = one_step old between behind f g waits also on again in
    let r = one_settling m n behind new left (subst (λ (s : Stage). HandsOnEach s m new) same rest) over others done in
    (ap suc r.0, r.1)

one_settles : (old new left : Stage) (text other : List ℕ) → Settles old text new → Settles old other left → AreOne text other new left
one_settles old new left text other a b =
    let same = one_settling a.delivered b.delivered old new left a.hands_on a.none_waits b.hands_on b.none_waits in
    (a.text_is ∙ ap (λ n. line (codes "delivered " ++ decimal n)) same.0 ∙ sym b.text_is, same.1)

goes_on_or_stops : (m n : ℕ) (old new left : Stage) (f : ℕ) → HandsOnEach old m new → waiting new ≡ None → HandsOnEach old n left → waiting left ≡ Some f → m ≤ n → ⊥
unfolding HandsOnEach
goes_on_or_stops zero zero old new left f a over b waits few = waits_or_not new left f (a ∙ sym b) over waits
goes_on_or_stops zero (suc n) old new left f a over (g, behind, also, on, rest) waits few = waits_or_not new old g a over also
goes_on_or_stops (suc m) zero old new left f a over b waits few = absurd (omega arith)
goes_on_or_stops (suc m) (suc n) old new left f (h, between, wait, on, rest) over (g, behind, also, again, others) waits few =
    let same = one_step old between behind h g wait also on again in
    goes_on_or_stops m n behind new left f (subst (λ (s : Stage). HandsOnEach s m new) same rest) over others waits (omega arith)

never_both : (old new : Stage) (text : List ℕ) → Settles old text new → GoesOn old → ⊥
never_both old new text settles on =
    goes_on_or_stops settles.delivered on.delivered old new on.between on.frame settles.hands_on settles.none_waits on.hands_on on.waits (omega (arith, settles.within, on.most))

-- ---- a command

one_act_or_look : (old new left : Stage) (event : Option Event) (look : Option Report) (text other : List ℕ) → ActsOrLooks old event look text new → ActsOrLooks old event look other left → AreOne text other new left
one_act_or_look old new left (Some event) look text other a b = one_happens old new left event text other a b
one_act_or_look old new left None (Some look) text other a b = one_answer old new left look.node look.text text other a b
one_act_or_look old new left None None text other a b = (a.0 ∙ sym b.0, a.1 ∙ sym b.1)

one_act : (choices : Choices) (old new left : Stage) (command : Command) (text other : List ℕ) → Acts choices old command text new → Acts choices old command other left → AreOne text other new left
one_act choices old new left (Keep node None) text other a b = one_keeps_or_not node old new left text other a b
one_act choices old new left (Resolve node key by) text other a b = one_resolves node key _ old new left text other a b
one_act choices old new left Settle text other a b = one_settles old new left text other a b
one_act choices old new left command text other a b = one_act_or_look old new left (event_of old.world command) (report_of old.world command) text other a b

one_act_unless : (fault : Option TypeFault) (choices : Choices) (old new left : Stage) (command : Command) (text other : List ℕ) → ActsUnless fault choices old command text new → ActsUnless fault choices old command other left
    → AreOne text other new left
one_act_unless (Some fault) choices old new left command text other a b = (a.0 ∙ sym b.0, a.1 ∙ sym b.1)
one_act_unless None choices old new left command text other a b = one_act choices old new left command text other a b

pub one_obeys : (choices : Choices) (old new left : Stage) (command : Command) (text other : List ℕ) → Obeys choices old command text new → Obeys choices old command other left → AreOne text other new left
one_obeys choices old new left command text other a b = one_act_unless (fault_in command) choices old new left command text other a b

-- a command that is obeyed doesn't pass the limit
pub obeys_within : (choices : Choices) (old new : Stage) (command : Command) (text : List ℕ) → Obeys choices old command text new → PassesLimit old command → ⊥
obeys_within choices old new Settle text obeys on = never_both old new text obeys on
obeys_within choices old new command text obeys on = absurd on
