-- What a stage is after an event, and after several.
use Rattle.std.proofs.Common.{◌≡◌, ◌≢◌, ℕ, zero, suc, ◌<◌, ◌≤◌, Bool, true, false, if◌then◌else◌, List, [], ◌∷◌, ◌++◌, length, Option, Some, None, is_some, Result, Ok, Err, inl, inr, refl, sym, ap, subst, ◌∙◌, arith}
use Rattle.meta_types.specs.Name.{Key}
use Rattle.world_core.specs.declared.answer.Answer.{Answer}
use Rattle.world_core.specs.declared.event.Event.{Event}
use Rattle.node_events.specs.declared.event.NodeEvent.TheVariants as nodes
use Rattle.world_core.specs.declared.event.Event.TheVariants as events
use Rattle.world_core.specs.declared.fault.WorldFault.{WorldFault}
use Rattle.world_core.specs.declared.fault.WorldFault.TheVariants.{Memory}
use Rattle.world_core.specs.Outcome.{Outcome}
use Rattle.world_core.specs.World.{World}
use Rattle.scenario_commands.specs.Coded.{HandsOnUpTo, IsNoDelivery, PrintsOutcome}
use Rattle.scenario_commands.specs.Meaning.{addressee}
use Rattle.scenario_commands.specs.Obeying.{Comes, GoesOn, HandsOn, HandsOnEach, Happens, KeepsAll, Stage, given_by, counts_as_given, outcome_line, waiting, with_given, with_new}
use Rattle.scenario_commands.proofs.Marks.{given_then_new, given_twice, waits_within}
use Rattle.scenario_commands.proofs.OneStage.{one_stage}
use Rattle.scenario_commands.proofs.Passing.{frame_there, keep_is_accepted}

-- ---- one event

pub given_plain : (event : Event) (outcome : Result Answer WorldFault) (given : List Bool) → IsNoDelivery event → given_by event outcome given ≡ given
given_plain (events.Deliver frame n word) outcome given never = absurd never
given_plain event outcome given never = refl

pub comes_plain : (old new : Stage) (event : Event) (outcome : Result Answer WorldFault) → IsNoDelivery event → Outcome old.world event outcome new.world → outcome ≢ Err Memory
    → new.given ≡ with_new (length new.world.frames) old.given → Comes old event outcome new
comes_plain old new event outcome plain is had given = record {
  outcome_is = is;
  had_memory = had;
  given = given ∙ ap (with_new (length new.world.frames)) (sym (given_plain event outcome old.given plain));
}

-- the outcome of an event was printed
pub printed : (old new : Stage) (event : Event) (outcome : Result Answer WorldFault) (text_old text_new : List ℕ) → Comes old event outcome new → PrintsOutcome new.world outcome text_old text_new
    → (added : List ℕ) × Happens old event added new × (text_new ≡ text_old ++ added)
printed old new event outcome text_old text_new comes prints =
    (outcome_line outcome ++ prints.sent, record { outcome = outcome; comes = comes; sent = prints.sent; sent_is = prints.sent_is; text_is = refl }, prints.text_is)

-- ---- a delivery

-- the marks after a delivery, if room was made before
marks_after : (given : Bool) (n frame : ℕ) (marks : List Bool) → (given ≡ true → (1 ≤ frame) × (frame ≤ length marks))
    → (if given then with_given frame (with_new n marks) else with_new n marks) ≡ with_new n (if given then with_given frame marks else marks)
marks_after true n frame marks there = let here = there refl in sym (given_then_new n frame marks here.0 here.1)
marks_after false n frame marks there = refl

pub comes_delivery : (old between new : Stage) (frame node word : ℕ) (outcome : Result Answer WorldFault) → Outcome old.world (events.Deliver frame node word) outcome between.world → outcome ≢ Err Memory
    → between.given ≡ with_new (length between.world.frames) old.given → length old.given ≡ length old.world.frames → new.world ≡ between.world
    → new.given ≡ (if counts_as_given outcome then with_given frame between.given else between.given) → Comes old (events.Deliver frame node word) outcome new
comes_delivery old between new frame node word outcome is had room marks world given =
    let n = length between.world.frames in
    let there : counts_as_given outcome ≡ true → (1 ≤ frame) × (frame ≤ length old.given) =
    λ yes. let here = frame_there old.world between.world frame node word outcome is had yes in (here.0, omega (arith, here.1, marks)) in
    record {
      outcome_is = subst (Outcome old.world (events.Deliver frame node word) outcome) (sym world) is;
      had_memory = had;
      given =
          given ∙ ap (λ (m : List Bool). if counts_as_given outcome then with_given frame m else m) room ∙ marks_after (counts_as_given outcome) n frame old.given there
          ∙ ap (λ (w : World). with_new (length w.frames) (if counts_as_given outcome then with_given frame old.given else old.given)) (sym world);
    }

-- ---- handing on

-- a mark that is set in any case
marks_set : (given : Bool) (n frame : ℕ) (marks : List Bool) → (1 ≤ frame) × (frame ≤ length marks)
    → with_given frame (with_new n marks) ≡ with_given frame (with_new n (if given then with_given frame marks else marks))
marks_set true n frame marks there = sym (ap (with_given frame) (given_then_new n frame marks there.0 there.1) ∙ given_twice frame (with_new n marks))
marks_set false n frame marks there = refl

pub hands_on : (old between new : Stage) (frame node : ℕ) (outcome : Result Answer WorldFault) → node ≡ addressee old.world frame → waiting old ≡ Some frame
    → Outcome old.world (events.Deliver frame node 0) outcome between.world → outcome ≢ Err Memory → between.given ≡ with_new (length between.world.frames) old.given → new.world ≡ between.world
    → new.given ≡ with_given frame between.given → HandsOn old frame new
hands_on old between new frame node outcome to waits is had room world given =
    let there = waits_within 1 frame old.given waits in
    let n = length between.world.frames in
    let marked : List Bool = with_new n (if counts_as_given outcome then with_given frame old.given else old.given) in
    let told : Stage = record { world = between.world; given = marked } in
    let set : with_given frame between.given ≡ with_given frame marked =
    ap (with_given frame) room ∙ marks_set (counts_as_given outcome) n frame old.given (there.0, omega (arith, there.1)) in
    record {
      outcome = outcome;
      between = told;
      comes = record {
        outcome_is = subst (λ a. Outcome old.world (events.Deliver frame a 0) outcome between.world) to is;
        had_memory = had;
        given = refl;
      };
      new_is = one_stage new (record { world = between.world; given = with_given frame marked }) world (given ∙ set);
    }

pub hands_none : (old : Stage) → HandsOnEach old 0 old
unfolding HandsOnEach
hands_none old = refl

pub hands_more : (count : ℕ) (old mid new : Stage) (frame : ℕ) → HandsOnEach old count mid → waiting mid ≡ Some frame → HandsOn mid frame new → HandsOnEach old (suc count) new
unfolding HandsOnEach
hands_more zero old mid new frame same waits on =
    (frame, new, subst (λ (s : Stage). waiting s ≡ Some frame) same waits, subst (λ (s : Stage). HandsOn s frame new) same on, refl)
hands_more (suc count) old mid new frame (first, between, here, handed, rest) waits on = (first, between, here, handed, hands_more count between mid new frame rest waits on)

-- ---- keeping

accepted : (old new : World) (n : ℕ) (k : Key) (outcome : Result Answer WorldFault) → Outcome old (events.Step n (nodes.Keep k)) outcome new → outcome ≢ Err Memory → n < length old.nodes → (answer : Answer) × (outcome ≡ Ok answer)
accepted old new n k (Ok answer) is had there = (answer, refl)
accepted old new n k (Err fault) is had there = absurd (had (ap (λ (f : WorldFault). Err f) (keep_is_accepted old new n k fault is there)))

pub keeps_one : (old new : Stage) (n : ℕ) (k : Key) (outcome : Result Answer WorldFault) → Outcome old.world (events.Step n (nodes.Keep k)) outcome new.world → outcome ≢ Err Memory → n < length old.world.nodes
    → new.given ≡ with_new (length new.world.frames) old.given → KeepsAll old n (k ∷ []) new
keeps_one old new n k outcome is had there given =
    let found = accepted old.world new.world n k outcome is had there in
    (found.0, new, subst (λ (o : Result Answer WorldFault). Comes old (events.Step n (nodes.Keep k)) o new) found.1 (comes_plain old new (events.Step n (nodes.Keep k)) outcome tt is had given), refl)

pub keeps_more : (old mid new : Stage) (n : ℕ) (keys more : List Key) → KeepsAll old n keys mid → KeepsAll mid n more new → KeepsAll old n (keys ++ more) new
keeps_more old mid new n [] more same rest = subst (λ (s : Stage). KeepsAll s n more new) same rest
keeps_more old mid new n (key ∷ keys) more (answer, between, comes, others) rest = (answer, between, comes, keeps_more between mid new n keys more others rest)

-- ---- settling

-- as many were handed on as may be, and one waits
pub goes_on : (old new : Stage) (delivered : ℕ) (next : Option ℕ) → HandsOnUpTo old delivered new → next ≡ waiting new → is_some next ≡ true → GoesOn old
goes_on old new delivered None up_to is some = let never : false ≡ true = some in absurd (cc)
goes_on old new delivered (Some frame) up_to is some = elim up_to.all [
  | inl most ↦ record { delivered = delivered; most = most; between = new; hands_on = up_to.hands_on; frame = frame; waits = sym is }
  | inr none ↦ let never : Some frame ≡ None = is ∙ none in absurd (cc)
]
