-- A replay, with one entry more.
use Rattle.std.proofs.Common.{◌≡◌, ◌≢◌, ◌<◌, ◌+◌, ℕ, List, [], ◌∷◌, ◌++◌, length, map, get_or, set, slice_get, Some, Result, Ok, Err, sym, subst, ap, ◌∙◌, inl, inr, arith, get_or-set_other, get_or-set_same, length-append, Vec, Global}
use Rattle.std.proofs.lemmas.List.{map-append, length-set}
use Rattle.std.proofs.lemmas.Bool.{cases_eq}
use Rattle.node_core.specs.Growing.{OnlyReadsHandOut}
use Rattle.node_events.specs.declared.event.NodeEvent.{NodeEvent}
use Rattle.node_events.specs.Event.{stored_key}
use Rattle.restart_images.specs.Node.{ImagedNode, arrived, context_read}
use Rattle.node_journal.specs.Closed.{ClosedNode}
use Rattle.node_journal.specs.declared.entry.Entry.{Entry}
use Rattle.run_record.proofs.Waiting.{places_step}
use Rattle.run_record.specs.Journals.{entry_at}
use Rattle.run_record.specs.Order.{CanComeNext, with_turn}
use Rattle.run_record.specs.declared.order.Turn.{Turn}
use Rattle.world_core.specs.declared.answer.Accepted.{Accepted}
use Rattle.world_core.specs.declared.answer.Answer.{Answer}
use Rattle.world_core.specs.declared.event.Event.{Event}
use Rattle.world_core.specs.declared.fault.WorldFault.{WorldFault}
use Rattle.world_core.specs.Events.{Doing, node_of_event}
use Rattle.world_core.specs.Outcome.{Accepts, Declines, Makes, MakesStep, Outcome, Outcomes, Passes, WorldRunsGoOn, list_of}
use Rattle.world_core.specs.Refusal.{node_at}
use Rattle.world_core.specs.World.{World, new_world}
use Rattle.run_record.specs.declared.replay.Mark.{Mark}
use Rattle.run_record.specs.Record.{IsOfARun, event_of, outcome_of}
use Rattle.run_record.specs.Replay.{AsTold, IsEventOf, IsReplayOf}
use Rattle.run_record.proofs.Making.{gave, holds_step, marks_step, new_mark}
use Rattle.run_record.proofs.Numbers.{set_other, set_same}

-- ---- what comes of an event

pub accepts_of : (old new : World) (event : Event) (answer : Answer)
    → Passes old event (Ok answer) new → Accepts old event answer new
unfolding Outcome
accepts_of old new event answer passes = passes.comes

pub declines_of : (old new : World) (event : Event) (fault : WorldFault)
    → Passes old event (Err fault) new → Declines old event fault new
unfolding Outcome
declines_of old new event fault passes = passes.comes

-- the event is a step of its node
pub made_of : (old new : World) (n : ℕ) (step : NodeEvent) (event : Event) (answer : Answer)
    → IsEventOf old n step event → Passes old event (Ok answer) new
    → MakesStep old n step answer new
made_of old new n step event answer is passes =
    let a = accepts_of old new event answer passes in
    subst (λ m. MakesStep old m step answer new) is.node
    (subst (λ (d : Doing). Makes old (node_of_event event) d answer new) is.doing a.makes)

-- ---- one entry more

run_step : (count : ℕ) (old new : World) (event : Event) (answer : Answer) → WorldRunsGoOn
    → IsOfARun count old → Passes old event (Ok answer) new → IsOfARun count new
run_step count old new event answer goes run passes =
    let one : Accepted = record { event = event; answer = answer } in
    let a = accepts_of old new event answer passes in
    let start = new_world count in
    let es = map event_of old.accepted in
    let os = map outcome_of old.accepted in
    let more = goes.goes_on start old new es os event (Ok answer) run passes in
    let events = subst (λ (l : List Event). Outcomes start l (os ++ Ok answer ∷ []) new)
    (sym (map-append event_of old.accepted (one ∷ []))) more in
    let both = subst (λ (l : List (Result Answer WorldFault)).
    Outcomes start (map event_of (old.accepted ++ one ∷ [])) l new)
    (sym (map-append outcome_of old.accepted (one ∷ []))) events in
    subst (λ (all : List Accepted). Outcomes start (map event_of all) (map outcome_of all) new)
    (sym a.accepted) both

pub replay_step : (closed : List ClosedNode) (old new : World) (next : List ℕ)
    (rows : List (Vec Mark Global)) (turn : Turn) (e : Entry) (event : Event) (answer : Answer)
    (mark : Mark) (row more : Vec Mark Global) → WorldRunsGoOn → OnlyReadsHandOut
    → IsReplayOf closed old next rows → CanComeNext closed next turn
    → entry_at closed turn.node (get_or next turn.node 0) ≡ Some e
    → IsEventOf old turn.node e.event event → Passes old event (Ok answer) new
    → AsTold new answer e → mark.first ≡ answer.sent.first → mark.read ≡ answer.read
    → slice_get rows turn.node ≡ Some row → more.items ≡ row.items ++ mark ∷ []
    → IsReplayOf closed new (with_turn next turn.node) (set rows turn.node more)
replay_step closed old new next rows turn e event answer mark row more goes only replay ready there
    is passes told first read at_n items =
    let n = turn.node in
    let made = made_of old new n e.event event answer is passes in
    let given = gave old new n e answer made told in
    let lt : n < length next = ready.node in
    let in_closed : n < length closed = omega (arith, ready.node, replay.places.number) in
    let in_rows : n < length rows = omega (arith, in_closed, replay.number) in
    let len : length row.items ≡ get_or next n 0 = replay.lengths n row at_n in
    let here : get_or (set next n (get_or next n 0 + 1)) n 0 ≡ get_or next n 0 + 1 =
    rw get_or-set_same in
    let longer : length more.items ≡ length row.items + 1 =
    ap (λ (l : List Mark). length l) items ∙ length-append row.items (mark ∷ []) in
    let node : ImagedNode = arrived made.state (stored_key e.event) (node_at old n) in
    record {
      run = run_step (length closed) old new event answer goes replay.run passes;
      nodes = ap (λ (l : List ImagedNode). length l) made.nodes ∙ length-set old.nodes n node
          ∙ replay.nodes;
      places = places_step closed next turn replay.places ready;
      holds = holds_step closed old new next n e event answer replay.holds lt in_closed there is
          passes.deeds told;
      number = length-set rows n more ∙ replay.number;
      lengths = λ m r at. elim (cases_eq m n) [
        | inl same ↦
            let at_same : slice_get (set rows n more) n ≡ Some r =
            ap (λ k. slice_get (set rows n more) k) (sym same) ∙ at in
            let in_same : slice_get (set rows n more) n ≡ Some more =
            set_same rows n more in_rows in
            let r_is : r ≡ more = cc (at_same, in_same) in
            let all : length more.items ≡ get_or (set next n (get_or next n 0 + 1)) n 0 =
            omega (arith, longer, len, here) in
            ap (λ (x : Vec Mark Global). length x.items) r_is ∙ all
            ∙ ap (λ k. get_or (set next n (get_or next n 0 + 1)) k 0) (sym same)
        | inr other ↦
            let ne : m ≢ n = other in
            replay.lengths m r (sym (set_other rows n m more ne) ∙ at)
            ∙ sym (get_or-set_other next n m (get_or next n 0 + 1) 0 ne)
      ];
      marks = marks_step closed old new next rows n e mark made.given.outbox
          (list_of (context_read e.event (node_at old n).state)) row more replay.marks lt in_rows
          there made.frames made.contexts
          (new_mark old new n e answer mark only made given first read) at_n len items;
    }
