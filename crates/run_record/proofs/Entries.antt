-- Each accepted event of a run is the next entry of its node's journal.
use Rattle.std.proofs.Common.{◌≡◌, ◌<◌, ℕ, List, [], ◌∷◌, ◌++◌, length, map, slice_get, Some, Ok, refl, sym, subst, ap, ◌∙◌, inl, inr, arith}
use Rattle.std.proofs.lemmas.Bool.{cases_eq}
use Rattle.std.proofs.lemmas.List.{append-nil, append_assoc, length-append}
use Rattle.node_core.specs.declared.state.Stepped.{Stepped}
use Rattle.node_journal.specs.declared.entry.Entry.{Entry}
use Rattle.node_journal.specs.Closed.{ClosedNode}
use Rattle.node_journal.specs.Entry.{stepped_of}
use Rattle.run_record.specs.Journals.{entry_at, journal_of}
use Rattle.world_core.specs.declared.answer.Accepted.{Accepted}
use Rattle.world_core.specs.declared.answer.Answer.{Answer}
use Rattle.world_core.specs.declared.event.Event.{Event}
use Rattle.world_core.specs.Events.{Doing, Step, node_of_event}
use Rattle.world_core.specs.Outcome.{AddsDeed, Makes, MakesStep, Outcomes, Passes, given_in}
use Rattle.world_core.specs.Refusal.{doing_in}
use Rattle.world_core.specs.World.{World, deeds_in}
use Rattle.world_core.proofs.Refusing.{has_node}
use Rattle.run_record.specs.Record.{HoldsJournals, deed, event_of, outcome_of}
use Rattle.run_record.specs.Replay.{AsTold}
use Rattle.run_record.proofs.Making.{gave}
use Rattle.run_record.proofs.Replaying.{accepts_of}
use Rattle.run_record.proofs.Upto.{GoesOn}

-- how many entries of each node the run went through
abbrev pub upto_in : World → ℕ → ℕ
upto_in w n = length (deeds_in w n)

-- ---- what a run adds to the deeds of a node

goes_on : (old new : World) (event : Event) (answer : Answer) → AddsDeed old event answer new
    → GoesOn (node_of_event event) (upto_in old) (upto_in new)
goes_on old new event answer adds =
    let n = node_of_event event in
    let own : List (Doing × Stepped) = (doing_in old event, given_in new answer) ∷ [] in
    record {
      own = ap (λ (ds : List (Doing × Stepped)). length ds) adds.own
          ∙ length-append (deeds_in old n) own;
      others = λ m other. ap (λ (ds : List (Doing × Stepped)). length ds) (adds.others m other);
    }

added : (old new : World) (event : Event) (answer : Answer) (n : ℕ)
    → AddsDeed old event answer new
    → (more : List (Doing × Stepped)) × (deeds_in new n ≡ deeds_in old n ++ more)
added old new event answer n adds = elim (cases_eq (node_of_event event) n) [
  | inl same ↦ (
    (doing_in old event, given_in new answer) ∷ [],
    subst
        (λ m. deeds_in new m ≡ deeds_in old m ++ (doing_in old event, given_in new answer) ∷ [])
        same adds.own,
  )
  | inr other ↦ ([], adds.others n other ∙ sym (append-nil (deeds_in old n)))
]

added_by_run : (later : List Accepted) (w final : World) (n : ℕ)
    → Outcomes w (map event_of later) (map outcome_of later) final
    → (more : List (Doing × Stepped)) × (deeds_in final n ≡ deeds_in w n ++ more)
added_by_run [] w final n run =
    ([], ap (λ (x : World). deeds_in x n) run ∙ sym (append-nil (deeds_in w n)))
added_by_run (a ∷ later) w final n run =
    let adds : AddsDeed w a.event a.answer run.0 = run.1.0.deeds in
    let first = added w run.0 a.event a.answer n adds in
    let rest = added_by_run later run.0 final n run.1.1 in (
      first.0 ++ rest.0,
      rest.1 ∙ ap (λ (ds : List (Doing × Stepped)). ds ++ rest.0) first.1
          ∙ append_assoc (deeds_in w n) first.0 rest.0,
    )

-- ---- the entry

-- what stands behind others was made of what stands there
made_of_it : {A B : Type 0} (f : B → A) (xs more : List A) (x : A) (ys : List B)
    → xs ++ x ∷ more ≡ map f ys → (y : B) × ((slice_get ys (length xs) ≡ Some y) × (f y ≡ x))
made_of_it f [] more x [] is = absurd (cc)
made_of_it f [] more x (y ∷ ys) is =
    let same : f y ≡ x = cc in
    (y, (refl, same))
made_of_it f (z ∷ xs) more x [] is = absurd (cc)
made_of_it f (z ∷ xs) more x (y ∷ ys) is =
    let rest : xs ++ x ∷ more ≡ map f ys = cc in
    made_of_it f xs more x ys rest

-- the accepted event is the next entry of its node's journal, as the node made it
pub record IsEntryOf (closed : List ClosedNode) (old new : World) (a : Accepted) : Type 0 where
  pub node : node_of_event a.event < length closed
  pub entry : Entry
  pub there : entry_at closed (node_of_event a.event) (upto_in old (node_of_event a.event))
      ≡ Some entry
  pub doing : doing_in old a.event ≡ Step entry.event
  pub made : MakesStep old (node_of_event a.event) entry.event a.answer new
  pub given : made.given ≡ stepped_of entry
  pub on : GoesOn (node_of_event a.event) (upto_in old) (upto_in new)

pub entry_of : (closed : List ClosedNode) (old new final : World) (a : Accepted)
    (later : List Accepted) → HoldsJournals closed final → length old.nodes ≡ length closed
    → Passes old a.event (Ok a.answer) new
    → Outcomes new (map event_of later) (map outcome_of later) final
    → IsEntryOf closed old new a
entry_of closed old new final a later holds nodes passes run =
    let n = node_of_event a.event in
    let accepts = accepts_of old new a.event a.answer passes in
    let adds : AddsDeed old a.event a.answer new = passes.deeds in
    let low : n < length closed =
    omega (arith, has_node old a.event accepts.no_refusal, nodes) in
    let d : Doing × Stepped = (doing_in old a.event, given_in new a.answer) in
    let rest = added_by_run later new final n run in
    let all : deeds_in old n ++ d ∷ rest.0 ≡ map deed (journal_of closed n) =
    sym (append_assoc (deeds_in old n) (d ∷ []) rest.0)
    ∙ ap (λ (ds : List (Doing × Stepped)). ds ++ rest.0) (sym adds.own) ∙ sym rest.1
    ∙ holds n low in
    let e = made_of_it deed (deeds_in old n) rest.0 d (journal_of closed n) all in
    let doing : doing_in old a.event ≡ Step e.0.event =
    sym (ap (λ (x : Doing × Stepped). x.0) e.1.1) in
    let told : AsTold new a.answer e.0 = (
      sym (ap (λ (x : Doing × Stepped). x.1.reply) e.1.1),
      sym (ap (λ (x : Doing × Stepped). x.1.outbox) e.1.1),
    ) in
    let made : MakesStep old n e.0.event a.answer new =
    subst (λ (x : Doing). Makes old n x a.answer new) doing accepts.makes in
    record {
      node = low;
      entry = e.0;
      there = e.1.0;
      doing = doing;
      made = made;
      given = gave old new n e.0 a.answer made told;
      on = goes_on old new a.event a.answer adds;
    }
