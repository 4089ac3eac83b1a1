-- What a command of a lawful stage does, except a settling, leaves a lawful stage.
use Rattle.std.proofs.Common.{◌≡◌, ◌≢◌, ◌<◌, ◌≤◌, ◌+◌, ◌⊎◌, ℕ, zero, suc, inl, inr, List, [], ◌∷◌, ◌++◌, length, map, get_or, All, Option, Some, None, IfSome, Result, Ok, Err, refl, sym, subst, ap, arith}
use Rattle.std.specs.Prelude.{codes, slice_get}
use Rattle.std.specs.FinMap.{find}
use Rattle.std.specs.List.{AllByRecursion}
use Rattle.std.specs.Option.{unwrap_or}
use Rattle.std.proofs.lemmas.Bool.{cases_lt, cond_both}
use Rattle.std.proofs.lemmas.List.Elements.{All-append, All-get_or, All-nil, recursion_from_All}
use Rattle.std.proofs.lemmas.List.{get_or_past}
use Rattle.std.proofs.lemmas.Option.{slice_get-get_or}
use Rattle.meta_types.specs.Name.{IsKey, Key}
use Rattle.meta_types.specs.Order.{key_cmp}
use Rattle.meta_types.specs.Value.{IsValue, ValueParts}
use Rattle.dvvset.specs.Clock.{values_of}
use Rattle.dvvset.specs.Object.{Entry, IsEntry}
use Rattle.meta_store.specs.Table.{IsHeld, IsTable, Table, object_at}
use Rattle.meta_store.proofs.Tables.{found_row}
use Rattle.node_events.specs.declared.event.NodeEvent.TheVariants as nodes
use Rattle.restart_images.specs.Node.{ImagedNode, new_node}
use Rattle.scenario_commands.specs.Coded.{HasSent}
use Rattle.scenario_commands.specs.Meaning.{Report}
use Rattle.scenario_commands.specs.Obeying.{ActsOrLooks, Answers, AreSent, Comes, Happens, IsNoNode, KeepsAll, KeepsHeld, Resolves, Stage, chosen_as, given_by, outcome_line, with_new}
use Rattle.scenario_commands.specs.Printed.{AreFrameLines, frame_line, line, world_refused}
use Rattle.scenario_commands.proofs.Passing.{has_sent, keep_is_accepted, same_nodes}
use Rattle.scenario_outcomes.specs.Lawful.{IsLawfulWorldEvent, IsLawfulWorld}
use Rattle.scenario_outcomes.specs.Outcome.{EachEventOfAWorldHasAnOutcome, WorldsStayLawful}
use Rattle.world_core.specs.declared.answer.Answer.{Answer}
use Rattle.world_core.specs.declared.event.Event.{Event}
use Rattle.world_core.specs.declared.event.Event.TheVariants as events
use Rattle.world_core.specs.declared.fault.WorldFault.{WorldFault}
use Rattle.world_core.specs.declared.fault.WorldFault.TheVariants.{Memory, NoSuchNode}
use Rattle.world_core.specs.Outcome.{Outcome}
use Rattle.world_core.specs.Refusal.{IsFrame, IsFrameOf, table_at}
use Rattle.world_core.specs.World.{World}

abbrev pub IsLawfulStage : Stage → Type 0
IsLawfulStage s = IsLawfulWorld s.world

-- there are a text and a lawful stage for this
pub record Leads (does : List ℕ → Stage → Type 0) : Type 0 where
  pub text : List ℕ
  pub new : Stage
  pub is : does text new
  pub lawful : IsLawfulStage new

-- ---- the lines of what was sent

frame_of : (w : World) (number : ℕ) → All IsFrame w.frames → 1 ≤ number → number < length w.frames + 1
    → (frame : _) × IsFrameOf w number frame
frame_of w zero frames some within = absurd (omega arith)
frame_of w (suc before) frames some within =
    let low : before < length w.frames = omega arith in
    let is = All-get_or IsFrame w.frames before [] low frames in
    (is.frame, record { bytes = get_or w.frames before []; there = slice_get-get_or w.frames before [] low; spelled = is.spelled })

lines_of_frames : (w : World) (number count : ℕ) → All IsFrame w.frames → 1 ≤ number → number + count ≤ length w.frames + 1
    → (text : List ℕ) × AreFrameLines w number count text
lines_of_frames w number zero frames some within = ([], refl)
lines_of_frames w number (suc more) frames some within =
    let first = frame_of w number frames some (omega (arith, within)) in
    let rest = lines_of_frames w (number + 1) more frames (omega arith) (omega (arith, within)) in
    (frame_line number first.0 ++ rest.0, (first.0, rest.0, first.1, rest.1, refl))

sent_lines : (w : World) (outcome : Result Answer WorldFault) → All IsFrame w.frames → HasSent w outcome
    → (text : List ℕ) × AreSent w outcome text
sent_lines w (Ok answer) frames there = lines_of_frames w answer.sent.first answer.sent.count frames there.0 there.1
sent_lines w (Err fault) frames there = ([], refl)

-- ---- looking

answers : (old : Stage) (node : ℕ) (answer : List ℕ) → IsLawfulStage old → Leads (Answers old node answer)
answers old node answer lawful = record { text = _; new = old; is = (refl, refl); lawful = lawful }

-- ---- the siblings of a key

values_lawful : (es : List Entry) → AllByRecursion IsEntry es → All IsValue (values_of es)
values_lawful [] each = All-nil IsValue
values_lawful (e ∷ es) each = All-append IsValue e.values (values_of es) each.0.written (values_lawful es each.1)

values_at : (found : Option (List Entry)) → ((es : List Entry) → found ≡ Some es → IsHeld es)
    → All IsValue (values_of (unwrap_or found []))
values_at None each = All-nil IsValue
values_at (Some es) each = values_lawful es (recursion_from_All IsEntry es (each es refl).lawful.entries)

held_values : (table : Table) (k : Key) → IsTable table → All IsValue (values_of (object_at table k))
held_values table k is = values_at (find key_cmp k table) (λ es e. (found_row k table es is.held is.keys e).held)

pub siblings_lawful : (w : World) (n : ℕ) (k : Key) → IsLawfulWorld w → All IsValue (values_of (object_at (table_at w n) k))
siblings_lawful w n k lawful = elim (cases_lt n (length w.nodes)) [
  | inl there ↦ held_values (table_at w n) k (lawful.nodes n there).state.table
  | inr none ↦ subst (λ (node : ImagedNode). All IsValue (values_of (object_at node.state.table k)))
      (sym (get_or_past w.nodes n (new_node n) none)) (All-nil IsValue)
]

at_place : (values : List ValueParts) (place : ℕ) → All IsValue values → IfSome (slice_get values place) IsValue
at_place [] place each = tt
at_place (value ∷ values) zero each = each 0 value (omega arith)
at_place (value ∷ values) (suc place) each = at_place values place (λ k d lt. each (suc k) d (omega (arith, lt)))

pub chosen_lawful : (choice : Option (List ValueParts → ℕ)) (siblings : List ValueParts) → All IsValue siblings
    → IfSome (chosen_as choice siblings) IsValue
chosen_lawful None siblings each = tt
chosen_lawful (Some choice) siblings each =
    cond_both _ (slice_get siblings (choice siblings)) None (λ value. IfSome value IsValue)
    (λ many. at_place siblings (choice siblings) each) (λ few. tt)

-- ---- events

-- an event has an outcome, and leaves a lawful stage
pub record Leaves (old : Stage) (event : Event) : Type 0 where
  pub outcome : Result Answer WorldFault
  pub new : Stage
  pub comes : Comes old event outcome new
  pub lawful : IsLawfulStage new

module _ (outcomes : EachEventOfAWorldHasAnOutcome) (worlds : WorldsStayLawful) where
  pub leaves : (old : Stage) (event : Event) → IsLawfulStage old → IsLawfulWorldEvent event → Leaves old event
  leaves old event lawful brings =
      let has = outcomes.of_lawful old.world event lawful brings in
      let marks = with_new (length has.new.frames) (given_by event has.outcome old.given) in record {
        outcome = has.outcome;
        new = record { world = has.new; given = marks };
        comes = record { outcome_is = has.comes; had_memory = has.had_memory; given = refl };
        lawful = worlds.events old.world has.new event has.outcome lawful brings has.comes;
      }

  happens : (old : Stage) (event : Event) → IsLawfulStage old → IsLawfulWorldEvent event → Leads (Happens old event)
  happens old event lawful brings =
      let left = leaves old event lawful brings in
      let there = has_sent old.world left.new.world event left.outcome left.comes.outcome_is in
      let sent = sent_lines left.new.world left.outcome left.lawful.frames there in record {
        text = outcome_line left.outcome ++ sent.0;
        new = left.new;
        is = record { outcome = left.outcome; comes = left.comes; sent = sent.0; sent_is = sent.1; text_is = refl };
        lawful = left.lawful;
      }

  pub acts_or_looks : (old : Stage) (event : Option Event) (look : Option Report) → IsLawfulStage old → IfSome event IsLawfulWorldEvent
      → Leads (ActsOrLooks old event look)
  acts_or_looks old (Some event) look lawful brings = happens old event lawful brings
  acts_or_looks old None (Some look) lawful brings = answers old look.node look.text lawful
  acts_or_looks old None None lawful brings = record { text = []; new = old; is = (refl, refl); lawful = lawful }

  -- ---- keeping

  accepted : (old new : World) (n : ℕ) (k : Key) (outcome : Result Answer WorldFault)
      → Outcome old (events.Step n (nodes.Keep k)) outcome new → outcome ≢ Err Memory → n < length old.nodes
      → (answer : Answer) × (outcome ≡ Ok answer)
  accepted old new n k (Ok answer) is had there = (answer, refl)
  accepted old new n k (Err fault) is had there =
      absurd (had (ap (λ (f : WorldFault). Err f) (keep_is_accepted old new n k fault is there)))

  keeps_all : (n : ℕ) (keys : List Key) (old : Stage) → IsLawfulStage old → n < length old.world.nodes
      → (new : Stage) × KeepsAll old n keys new × IsLawfulStage new
  keeps_all n [] old lawful there = (old, refl, lawful)
  keeps_all n (key ∷ keys) old lawful there =
      let event = events.Step n (nodes.Keep key) in
      let left = leaves old event lawful tt in
      let kept = accepted old.world left.new.world n key left.outcome left.comes.outcome_is left.comes.had_memory there in
      let same = same_nodes old.world left.new.world event left.outcome left.comes.outcome_is in
      let still : n < length left.new.world.nodes = subst (λ m. n < m) (sym same) there in
      let rest = keeps_all n keys left.new left.lawful still in
      let comes = subst (λ (o : Result Answer WorldFault). Comes old event o left.new) kept.1 left.comes in
      (rest.0, (kept.0, left.new, comes, rest.1), rest.2)

  pub keeps : (old : Stage) (n : ℕ) → IsLawfulStage old → Leads (λ text new. KeepsHeld old n text new ⊎ IsNoNode old n text new)
  keeps old n lawful = elim (cases_lt n (length old.world.nodes)) [
    | inl there ↦
        let kept = keeps_all n (map (λ row. row.0) (table_at old.world n)) old lawful there in record {
          text = line (codes "ok");
          new = kept.0;
          is = inl (record { there = there; keeps = kept.1; text_is = refl });
          lawful = kept.2;
        }
    | inr none ↦ record { text = world_refused NoSuchNode; new = old; is = inr (none, refl, refl); lawful = lawful }
  ]

  -- ---- resolving

  pub resolves : (old : Stage) (n : ℕ) (k : Key) (value : Option ValueParts) → IsLawfulStage old → IsKey k → IfSome value IsValue
      → Leads (Resolves old n k value)
  resolves old n k None lawful key is = answers old n (codes "ok") lawful
  resolves old n k (Some value) lawful key is = happens old (events.Step n (nodes.PutOver k value)) lawful (key, is)
