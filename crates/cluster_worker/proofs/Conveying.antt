-- A worker goes on, call by call.
use Rattle.std.proofs.Common.{◌≡◌, ◌≤◌, ◌+◌, ◌-◌, ℕ, zero, suc, Bool, true, false, List, [], ◌∷◌, ◌++◌, Ok, Err, Result, IfOk, is_err, length, refl, sym, ap, ◌∙◌, subst, arith}
use Rattle.std.proofs.lemmas.Grind.{flat_map-append}
use Rattle.std.proofs.lemmas.List.{append-nil, append_assoc, length_push, map-append}
use mathlib.Core.List.{Sublist, nil-sublist}
use mathlib.Core.List.Sublist as Sub
use Rattle.node_events.specs.declared.event.NodeEvent.{NodeEvent}
use Rattle.node_events.specs.declared.event.NodeEvent.TheVariants.{Join}
use Rattle.node_journal.specs.declared.receipt.Receipt.{Receipt}
use Rattle.inbox.specs.Views.{InboxView, TakeView}
use Rattle.cluster_worker.specs.Call.{AreAsked, AreOfTurns, HasMade, JoinsFirst, IsOfTurn}
use Rattle.cluster_worker.specs.Frames.{ArePutOrLost, Conveys, TakesFor, TakesForAll, outboxes_of, up_to_most}
use Rattle.cluster_worker.specs.Turns.{UnlessFailed, WorksOn, ending_of, with_takes}
use Rattle.cluster_worker.specs.Worked.{HasConveyed}
use Rattle.cluster_worker.specs.declared.passes.Passes.{Passes}
use Rattle.cluster_worker.specs.declared.plan.ClusterPlan.{ClusterPlan}
use Rattle.cluster_worker.specs.declared.turns.Ending.{Ending}
use Rattle.cluster_worker.specs.declared.turns.Ending.TheVariants.{Failed, Stopped}
use Rattle.cluster_worker.specs.declared.turns.Worker.{Worker}
use Rattle.cluster_worker.specs.declared.worker.Worked.{Worked}
use Rattle.node_call.specs.declared.fault.LockFault.{LockFault}
use Rattle.cluster_worker.proofs.Sent.{sent_on}

-- calls that are asked for after others
taken_on : (asked later : List NodeEvent) (old mid new : TakeView) → TakesForAll asked old mid
    → TakesForAll later mid new → TakesForAll (asked ++ later) old new
taken_on [] later old mid new first then =
    subst (λ (v : TakeView). TakesForAll later v new) first then
taken_on (event ∷ asked) later old mid new first then =
    (first.0, first.1, taken_on asked later first.0 mid new first.2 then)

conveys_on : (inboxes : List InboxView) (asked then : List NodeEvent)
    (receipts more : List Receipt) (lost fewer : ℕ) (before mid after : Passes)
    → Conveys inboxes asked receipts lost before mid → Conveys inboxes then more fewer mid after
    → Conveys inboxes (asked ++ then) (receipts ++ more) (lost + fewer) before after
conveys_on inboxes asked then receipts more lost fewer before mid after was is = record {
  given = subst (λ (l : List NodeEvent). Sublist l (asked ++ then))
      (sym (map-append (λ (r : Receipt). r.entry.event) receipts more))
      (Sub.append was.given is.given);
  takes = taken_on asked then before.takes mid.takes after.takes was.takes is.takes;
  puts = subst (λ (l : List (List ℕ)). ArePutOrLost inboxes before.puts.items l (lost + fewer) after.puts.items)
      (sym (flat_map-append (λ (r : Receipt). r.entry.outbox) receipts more))
      (sent_on inboxes before.puts.items (outboxes_of receipts) lost mid.puts.items (outboxes_of more) fewer after.puts.items (lost + fewer) was.puts is.puts refl);
}

pub works_on : (inboxes : List InboxView) (asked then : List NodeEvent) (old mid new : Worker)
    → WorksOn inboxes asked old mid → WorksOn inboxes then mid new
    → WorksOn inboxes (asked ++ then) old new
works_on inboxes asked then old mid new was is = record {
  more = was.more ++ is.more;
  receipts = is.receipts
      ∙ (ap (λ l. l ++ is.more) was.receipts ∙ append_assoc old.receipts.items was.more is.more);
  lost = was.lost + is.lost;
  told = omega (arith, was.told, is.told);
  conveys = conveys_on inboxes asked then was.more is.more was.lost is.lost old.passes mid.passes new.passes was.conveys is.conveys;
}

-- it asked for nothing
pub works_none : (inboxes : List InboxView) (worker : Worker) → WorksOn inboxes [] worker worker
works_none inboxes worker = record {
  more = [];
  receipts = sym (append-nil worker.receipts.items);
  lost = 0;
  told = omega arith;
  conveys = record { given = Sub.refl []; takes = refl; puts = (refl, refl) };
}

-- it is told by these fields alone
pub works_as : (inboxes : List InboxView) (asked : List NodeEvent) (old other new : Worker)
    → WorksOn inboxes asked other new → other.receipts.items ≡ old.receipts.items
    → other.lost ≡ old.lost → other.passes ≡ old.passes → WorksOn inboxes asked old new
works_as inboxes asked old other new works receipts lost passes = record {
  more = works.more;
  receipts = works.receipts ∙ ap (λ l. l ++ works.more) receipts;
  lost = works.lost;
  told = omega (arith, works.told, lost);
  conveys = subst (λ (p : Passes). Conveys inboxes asked works.more works.lost p new.passes) passes works.conveys;
}

-- a call that is accepted
pub accepts : (inboxes : List InboxView) (event : NodeEvent) (takes : TakeView)
    (old new : Worker) (kept : List Receipt) (r : Receipt) (lost : ℕ) → TakesFor event takes old.passes.takes
    → new.passes.takes ≡ old.passes.takes → kept ≡ old.receipts.items
    → new.receipts.items ≡ kept ++ r ∷ [] → r.entry.event ≡ event
    → ArePutOrLost inboxes old.passes.puts.items r.entry.outbox lost new.passes.puts.items
    → new.lost ≡ up_to_most (old.lost + lost)
    → WorksOn inboxes (event ∷ []) (with_takes takes old) new
accepts inboxes event takes old new kept r lost for same was all is sent told = record {
  more = r ∷ [];
  receipts = all ∙ ap (λ l. l ++ r ∷ []) was;
  lost = lost;
  told = omega (arith, told);
  conveys = record {
    given = subst (λ (e : NodeEvent). Sublist (e ∷ []) (event ∷ [])) (sym is) (Sub.refl (event ∷ []));
    takes = (old.passes.takes, for, same);
    puts = subst (λ (l : List (List ℕ)). ArePutOrLost inboxes old.passes.puts.items l lost new.passes.puts.items)
        (sym (append-nil r.entry.outbox)) sent;
  };
}

-- a call that is refused
pub refuses_one : (inboxes : List InboxView) (event : NodeEvent) (takes : TakeView)
    (old new : Worker) → TakesFor event takes old.passes.takes → new.passes ≡ old.passes
    → new.receipts.items ≡ old.receipts.items → new.lost ≡ old.lost
    → WorksOn inboxes (event ∷ []) (with_takes takes old) new
refuses_one inboxes event takes old new for passes receipts lost = record {
  more = [];
  receipts = receipts ∙ sym (append-nil old.receipts.items);
  lost = 0;
  told = omega (arith, lost);
  conveys = record {
    given = nil-sublist (event ∷ []);
    takes = (old.passes.takes, for, ap (λ (p : Passes). p.takes) passes);
    puts = (refl, ap (λ (p : Passes). p.puts.items) passes);
  };
}

-- ---- unless the run is ended

pub unless : {A : Type 0} (result : Result A Ending) (P : Type 0) → P → UnlessFailed result P
unless (Ok done) P is = is
unless (Err Stopped) P is = is
unless (Err (Failed fault)) P is = tt

pub unless_more : {A : Type 0} (result : Result A Ending) (P Q : Type 0) → (P → Q)
    → UnlessFailed result P → UnlessFailed result Q
unless_more (Ok done) P Q more is = more is
unless_more (Err Stopped) P Q more is = more is
unless_more (Err (Failed fault)) P Q more is = tt

-- as a refusal goes on to the caller
pub unless_err : {A : Type 0} (result : Result A Ending) (ending given : Ending) (P Q : Type 0)
    → result ≡ Err given → given ≡ ending → (P → Q) → UnlessFailed {A = A} (Err ending) P
    → UnlessFailed result Q
unless_err {A} result ending given P Q is same more fact =
    subst (λ (r : Result A Ending). UnlessFailed r Q) (sym (is ∙ ap Err same))
    (unless_more {A = A} (Err ending) P Q more fact)

-- ---- turn by turn

-- a worker of this node has asked for its first call, and for one in each turn before this one
pub record HasAsked (plan : ClusterPlan) (inboxes : List InboxView) (node turn : ℕ) (old new : Worker)
    : Type 0 where
  pub first : List NodeEvent
  pub joins : JoinsFirst node first
  pub later : List NodeEvent
  pub of_turns : AreOfTurns plan 1 later
  pub number : length later + 1 ≡ turn
  pub works : WorksOn inboxes (first ++ later) old new

pub first_none : (node : ℕ) → node ≡ 0 → JoinsFirst node []
first_none zero is = refl
first_none (suc n) is = absurd (cc (is))

pub first_some : (node contact word : ℕ) → (node ≡ 0 → ⊥) → contact ≡ 0 → JoinsFirst node (Join contact word ∷ [])
first_some zero contact word some is = absurd (some refl)
first_some (suc n) contact word some is = (word, ap (λ c. Join c word ∷ []) is)

-- before the first turn
pub first_asked : (plan : ClusterPlan) (inboxes : List InboxView) (node : ℕ) (old new : Worker)
    → (asked : List NodeEvent) × JoinsFirst node asked × WorksOn inboxes asked old new
    → HasAsked plan inboxes node 1 old new
first_asked plan inboxes node old new is = record {
  first = is.0;
  joins = is.1;
  later = [];
  of_turns = tt;
  number = refl;
  works = subst (λ l. WorksOn inboxes l old new) (sym (append-nil is.0)) is.2;
}

of_turns_on : (plan : ClusterPlan) (turn next : ℕ) (later : List NodeEvent) (event : NodeEvent)
    → AreOfTurns plan turn later → next ≡ turn + length later → IsOfTurn plan next event
    → AreOfTurns plan turn (later ++ event ∷ [])
of_turns_on plan turn next [] event are same is =
    (subst (λ t. IsOfTurn plan t event) (omega (arith, same)) is, tt)
of_turns_on plan turn next (one ∷ later) event are same is =
    (are.0, of_turns_on plan (turn + 1) next later event are.1 (omega (arith, same)) is)

-- one turn more
pub one_turn : (plan : ClusterPlan) (inboxes : List InboxView) (node turn : ℕ) (old mid new : Worker)
    → HasAsked plan inboxes node turn old mid
    → (event : NodeEvent) × IsOfTurn plan turn event × WorksOn inboxes (event ∷ []) mid new
    → HasAsked plan inboxes node (turn + 1) old new
one_turn plan inboxes node turn old mid new was is = record {
  first = was.first;
  joins = was.joins;
  later = was.later ++ is.0 ∷ [];
  of_turns = of_turns_on plan 1 turn was.later is.0 was.of_turns (omega (arith, was.number)) is.1;
  number = omega (arith, was.number, length_push was.later is.0);
  works = subst (λ l. WorksOn inboxes l old new) (append_assoc was.first was.later (is.0 ∷ []))
      (works_on inboxes (was.first ++ was.later) (is.0 ∷ []) old mid new was.works is.2);
}

-- what it was asked for, if it makes no more turns
pub asked_of : (plan : ClusterPlan) (inboxes : List InboxView) (node turn : ℕ) (is_stopped : Bool)
    (old new : Worker) → HasMade is_stopped plan.turns (turn - 1) → HasAsked plan inboxes node turn old new
    → (asked : List NodeEvent) × AreAsked plan node is_stopped asked
    × WorksOn inboxes asked old new
asked_of plan inboxes node turn is_stopped old new made was =
    let number : turn - 1 ≡ length was.later = omega (arith, was.number) in (
      was.first ++ was.later,
      record {
        first = was.first;
        joins = was.joins;
        later = was.later;
        of_turns = was.of_turns;
        made = subst (HasMade is_stopped plan.turns) number made;
        all = refl;
      },
      was.works,
    )

-- ---- what comes of a worker

-- how turns that don't end the run end
not_failed : (is : Bool) (made : Result (Unit {0}) Ending) (P : Type 0)
    → made ≡ ending_of is → UnlessFailed made P → P
not_failed true made P same fact = subst (λ (r : Result (Unit {0}) Ending). UnlessFailed r P) same fact
not_failed false made P same fact = subst (λ (r : Result (Unit {0}) Ending). UnlessFailed r P) same fact

-- turns end early exactly if the node is stopped
ends : (is : Bool) → is_err (ending_of is) ≡ is
ends true = refl
ends false = refl

pub conveyed_of : (plan : ClusterPlan) (inboxes : List InboxView) (first last : Worker)
    (made : Result (Unit {0}) Ending) (result : Result Worked LockFault)
    → first.receipts.items ≡ [] → first.lost ≡ 0
    → UnlessFailed made ((asked : List NodeEvent) × AreAsked plan first.node (is_err made) asked
    × WorksOn inboxes asked first last)
    → last.node ≡ first.node → IfOk result (λ w. w.node ≡ last.node)
    → IfOk result (λ w. w.passes ≡ last.passes) → IfOk result (λ w. w.receipts ≡ last.receipts)
    → IfOk result (λ w. w.lost ≡ last.lost) → IfOk result (λ w. made ≡ ending_of w.is_stopped)
    → IfOk result (λ w. w.lost ≤ 18446744073709551615)
    → IfOk result (HasConveyed plan inboxes first.passes)
conveyed_of plan inboxes first last made (Err fault) none unlost works same node passes receipts lost stopped few = tt
conveyed_of plan inboxes first last made (Ok w) none unlost works same node passes receipts lost stopped few =
    let did = not_failed w.is_stopped made ((asked : List NodeEvent)
    × AreAsked plan first.node (is_err made) asked × WorksOn inboxes asked first last) stopped works in
    let on = did.2 in
    let all : on.more ≡ w.receipts.items =
    sym (ap (λ v. v.items) receipts ∙ (on.receipts ∙ ap (λ l. l ++ on.more) none)) in
    let ended : is_err made ≡ w.is_stopped = ap is_err stopped ∙ ends w.is_stopped in
    record {
      asked = did.0;
      are = subst (λ n. AreAsked plan n w.is_stopped did.0) (sym (node ∙ same))
          (subst (λ b. AreAsked plan first.node b did.0) ended did.1);
      lost = on.lost;
      told = omega (arith, on.told, lost, unlost, few);
      conveys = subst (λ (l : List Receipt). Conveys inboxes did.0 l on.lost first.passes w.passes) all
          (subst (λ (p : Passes). Conveys inboxes did.0 on.more on.lost first.passes p) (sym passes) on.conveys);
    }
