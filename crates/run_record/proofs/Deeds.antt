-- A journal that ran otherwise than told, from what a world that holds its first entries does with
-- the next one.
use Rattle.std.proofs.Common.{◌≡◌, ℕ, suc, List, [], ◌∷◌, ◌++◌, map, take, drop, slice_get, Some, refl, subst, ap, ◌∙◌, inl, inr}
use Rattle.std.proofs.lemmas.List.{map-append}
use Rattle.node_core.specs.declared.state.Stepped.{Stepped}
use Rattle.node_core.specs.Node.{NodeParts, opening}
use Rattle.node_core.specs.Run.{IsRun, NoEventHasTwoOutcomes, RunsGoOn}
use Rattle.node_core.specs.Step.{CanComeOf, IsNodeStep}
use Rattle.node_events.specs.declared.event.NodeEvent.{NodeEvent}
use Rattle.node_events.specs.declared.fault.StepFault.{StepFault}
use Rattle.node_events.specs.declared.fault.StepFault.TheVariants as OfStep
use Rattle.restart_images.specs.Images.{Image}
use Rattle.node_journal.specs.Closed.{ClosedNode}
use Rattle.node_journal.specs.declared.entry.Entry.{Entry}
use Rattle.node_journal.specs.Entry.{step_of, stepped_of}
use Rattle.run_record.specs.Journals.{entry_at, journal_of}
use Rattle.world_core.specs.declared.event.Event.{Event}
use Rattle.world_core.specs.declared.fault.WorldFault.{WorldFault}
use Rattle.world_core.specs.declared.fault.WorldFault.TheVariants.{IncarnationSpent, LooksLikeFrame, NoSuchFrame, NoSuchImage, NoSuchNode, NoSuchRead}
use Rattle.world_core.specs.Events.{Doing, node_of_event}
use Rattle.world_core.specs.Lives.{Live}
use Rattle.world_core.specs.Refusal.{HasNoLifeLeft, IsFrameAsJunk, NamesNoFrame, NamesNoImage, NamesNoNode, NamesNoRead, RefusesDoing, RefusesEvent, RefusesStep, doing_in, first_cause, node_at}
use Rattle.world_core.specs.World.{HasLived, World, deeds_in}
use Rattle.run_record.specs.Record.{RanAsTold, deed}
use Rattle.run_record.specs.Replay.{IsEventOf}
use Rattle.run_record.proofs.Numbers.{split_here}

-- steps that took a node on are a run
pub live_run : (images : List Image) (es : List Entry) (old new : NodeParts)
    → Live images old (map deed es) new → IsRun old (map step_of es) new
live_run images [] old new live = live
live_run images (e ∷ es) old new live =
    (live.0, (live.1.0, live_run images es live.0 new live.1.1))

run_split : (xs ys : List (NodeEvent × Stepped)) (old new : NodeParts) → IsRun old (xs ++ ys) new
    → (mid : NodeParts) × (IsRun old xs mid × IsRun mid ys new)
run_split [] ys old new run = (old, (refl, run))
run_split (x ∷ xs) ys old new run =
    let r = run_split xs ys run.0 new run.1.1 in
    (r.0, ((run.0, (run.1.0, r.1.0)), r.1.1))

-- the step that a run of the whole journal makes with an entry
at_entry : (journal : List Entry) (p : ℕ) (e : Entry) (start here end : NodeParts) → RunsGoOn
    → slice_get journal p ≡ Some e → IsRun start (map step_of (take p journal)) here
    → IsRun start (map step_of journal) end
    → (between : NodeParts) × IsNodeStep here e.event between (stepped_of e)
at_entry journal p e start here end goes there sofar run =
    let xs = map step_of (take p journal) in
    let ys = step_of e ∷ map step_of (drop (suc p) journal) in
    let split : map step_of journal ≡ xs ++ ys =
    ap (λ (l : List Entry). map step_of l) (split_here journal p e there)
    ∙ map-append step_of (take p journal) (e ∷ drop (suc p) journal) in
    let r = run_split xs ys start end
    (subst (λ (l : List (NodeEvent × Stepped)). IsRun start l end) split run) in
    let same : r.0 ≡ here = goes.one_end xs start r.0 here r.1.0 sofar in
    (r.1.1.0, subst (λ m. IsNodeStep m e.event r.1.1.0 (stepped_of e)) same r.1.1.1.0)

-- where the world's node stands, by the entries that were made
pub lived_run : (w : World) (n : ℕ) (es : List Entry) → HasLived w n (node_at w n)
    → deeds_in w n ≡ map deed es → IsRun (opening n 1 []) (map step_of es) (node_at w n).state
lived_run w n es lived holds =
    let images = (node_at w n).images in
    let here = (node_at w n).state in
    live_run images es (opening n 1 []) here
    (subst (λ (ds : List (Doing × Stepped)). Live images (opening n 1 []) ds here) holds lived.lives)

-- the step that it would make where the world stands
told_step : (closed : List ClosedNode) (w : World) (n p : ℕ) (e : Entry) → RunsGoOn
    → entry_at closed n p ≡ Some e → HasLived w n (node_at w n)
    → deeds_in w n ≡ map deed (take p (journal_of closed n)) → RanAsTold closed n
    → (between : NodeParts) × IsNodeStep (node_at w n).state e.event between (stepped_of e)
told_step closed w n p e goes there lived holds ran =
    let sofar = lived_run w n (take p (journal_of closed n)) lived holds in
    at_entry (journal_of closed n) p e (opening n 1 []) (node_at w n).state ran.end goes there sofar
    ran.ran

-- the step gives something else
pub gave_otherwise : (closed : List ClosedNode) (w : World) (n p : ℕ) (e : Entry)
    (state : NodeParts) (given : Stepped) → RunsGoOn → NoEventHasTwoOutcomes
    → entry_at closed n p ≡ Some e → HasLived w n (node_at w n)
    → deeds_in w n ≡ map deed (take p (journal_of closed n))
    → IsNodeStep (node_at w n).state e.event state given → (given ≡ stepped_of e → ⊥)
    → RanAsTold closed n → ⊥
gave_otherwise closed w n p e state given goes once there lived holds makes other ran =
    let told = told_step closed w n p e goes there lived holds ran in
    other (once.steps (node_at w n).state e.event state told.0 given (stepped_of e) makes told.1).1

-- the step is refused
pub was_refused : (closed : List ClosedNode) (w : World) (n p : ℕ) (e : Entry) (fault : StepFault)
    → RunsGoOn → NoEventHasTwoOutcomes → entry_at closed n p ≡ Some e
    → HasLived w n (node_at w n) → deeds_in w n ≡ map deed (take p (journal_of closed n))
    → CanComeOf (node_at w n).state e.event fault → (fault ≡ OfStep.Memory → ⊥)
    → RanAsTold closed n → ⊥
was_refused closed w n p e fault goes once there lived holds comes other ran =
    let told = told_step closed w n p e goes there lived holds ran in
    other (once.never_both (node_at w n).state e.event told.0 (stepped_of e) fault told.1 comes)

-- ---- the refusal of an event that names what is there is that of its step

rest_of : (cause : Type 0) (refusal fault : WorldFault) (rest : WorldFault → Type 0)
    → (cause → ⊥) → first_cause cause refusal rest fault → rest fault
rest_of cause refusal fault rest un (inl h) = absurd (un h.0)
rest_of cause refusal fault rest un (inr h) = h.1

pub by_step : (w : World) (n : ℕ) (step : NodeEvent) (event : Event) (fault : WorldFault)
    → IsEventOf w n step event → RefusesEvent w event fault
    → RefusesStep (node_at w n).state step fault
by_step w n step event fault is refuses =
    let doing : WorldFault → Type 0 =
    λ f. RefusesDoing (node_at w (node_of_event event)).state (doing_in w event) f in
    let junk : WorldFault → Type 0 = λ f. first_cause (IsFrameAsJunk event) LooksLikeFrame doing f in
    let life : WorldFault → Type 0 =
    λ f. first_cause (HasNoLifeLeft w event) IncarnationSpent junk f in
    let image : WorldFault → Type 0 = λ f. first_cause (NamesNoImage w event) NoSuchImage life f in
    let read : WorldFault → Type 0 = λ f. first_cause (NamesNoRead w event) NoSuchRead image f in
    let frame : WorldFault → Type 0 = λ f. first_cause (NamesNoFrame w event) NoSuchFrame read f in
    let a = rest_of (NamesNoNode w event) NoSuchNode fault frame is.nodes refuses in
    let b = rest_of (NamesNoFrame w event) NoSuchFrame fault read is.frame a in
    let c = rest_of (NamesNoRead w event) NoSuchRead fault image is.read b in
    let d = rest_of (NamesNoImage w event) NoSuchImage fault life is.image c in
    let e = rest_of (HasNoLifeLeft w event) IncarnationSpent fault junk is.life d in
    let f = rest_of (IsFrameAsJunk event) LooksLikeFrame fault doing is.no_junk e in
    subst (λ m. RefusesStep (node_at w m).state step fault) is.node
    (subst (λ (x : Doing). RefusesDoing (node_at w (node_of_event event)).state x fault) is.doing f)
