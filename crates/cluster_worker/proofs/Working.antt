-- What a worker keeps through its turns.
use Rattle.std.proofs.Common.{◌≡◌, ◌≤◌, ◌+◌, ℕ, nat_lt, Bool, true, false, ◌||◌, List, ◌∷◌, [], ◌++◌, length, All, Some, None, Ok, Err, Result, IfOk, sum_by, inl, inr, ⊎_elim, refl, sym, ap, ◌∙◌, subst, arith}
use Rattle.std.specs.Prelude.{slice_get}
use Rattle.std.proofs.lemmas.Bool.{le-ltb}
use Rattle.std.proofs.lemmas.List.{length_push}
use Rattle.std.proofs.lemmas.List.Elements.{All-nil, All-push}
use Rattle.std.proofs.lemmas.List.Sums.{sum_by_push}
use Rattle.meta_types.specs.First.{first_that_applies}
use Rattle.node_events.specs.declared.event.NodeEvent.{NodeEvent}
use Rattle.node_journal.specs.declared.receipt.Receipt.{Receipt}
use Rattle.node_journal.specs.Closed.{ClosedNode, EndsWithTable}
use Rattle.node_desk.specs.Closing.{IsWithin}
use Rattle.node_desk.specs.Desk.{BeganWith}
use Rattle.node_desk.specs.Starting.{RefusesStarting}
use Rattle.node_readers.specs.Views.{SeatView}
use Rattle.node_call.specs.Acknowledged.{Acknowledged}
use Rattle.node_call.specs.declared.fault.LockFault.{LockFault}
use Rattle.node_call.specs.declared.fault.LockFault.TheVariants as OfNode
use Rattle.inbox.specs.Views.{InboxView, TakeView}
use Rattle.node_lock.specs.Call.{AnswersCall, CanRefuseClosing}
use Rattle.cluster_worker.specs.Call.{IsAsked}
use Rattle.cluster_worker.specs.Passes.{ArePassesInto, ArePassesOf, lines_of}
use Rattle.cluster_worker.specs.Serving.{LifeView}
use Rattle.cluster_worker.specs.Turns.{IsWorkerOf}
use Rattle.cluster_worker.specs.Worked.{EndsRun, HasWorked, IsLeftOfLife, IsReceiptIn, frames_in}
use Rattle.cluster_worker.specs.declared.fault.ClusterFault.{ClusterFault}
use Rattle.cluster_worker.specs.declared.plan.ClusterPlan.{ClusterPlan}
use Rattle.cluster_worker.specs.declared.turns.Worker.{Worker}
use Rattle.cluster_worker.specs.declared.worker.Worked.{Worked}

-- what an acknowledgement tells is a receipt of the worker
receipt_in : (plan : ClusterPlan) (life : LifeView) (event : NodeEvent) (a : Acknowledged) (r : Receipt)
    → r ≡ a.receipt → IsAsked plan event
    → AnswersCall life.node life.incarnation life.opened event a → IsReceiptIn plan life r
receipt_in plan life event a r is asked answers =
    let same : event ≡ r.entry.event =
    sym (ap (λ (x : Receipt). x.entry.event) is ∙ answers.receipt.is_event) in record {
      asked = subst (IsAsked plan) same asked;
      given = a;
      is = is;
      answers = subst (λ e. AnswersCall life.node life.incarnation life.opened e a) same answers;
    }

-- A worker goes on as the worker of its node: its passes stay those of the inboxes, and the receipt
-- of a call that its seat counted is kept behind those that it has.
pub goes_on : (plan : ClusterPlan) (inboxes : List InboxView) (life : LifeView) (counted now : ℕ)
    (event : NodeEvent) (a : Acknowledged) (old new : Worker) (kept : List Receipt) (r : Receipt)
    → IsWorkerOf plan inboxes life counted old → new.node ≡ old.node → new.passes.own ≡ old.passes.own
    → new.passes.takes ≡ old.passes.takes → ArePassesInto inboxes new.passes.puts.items
    → kept ≡ old.receipts.items → new.receipts.items ≡ kept ++ r ∷ [] → r ≡ a.receipt
    → IsAsked plan event → AnswersCall life.node life.incarnation life.opened event a
    → now ≡ counted + 1 → new.lost ≤ old.lost + length r.entry.outbox
    → IsWorkerOf plan inboxes life now new
goes_on plan inboxes life counted now event a old new kept r was node own takes puts same all is asked answers one lost =
    let before : All (IsReceiptIn plan life) kept = subst (All (IsReceiptIn plan life)) (sym same) was.receipts in
    let sum : frames_in new.receipts.items ≡ frames_in old.receipts.items + length r.entry.outbox =
    ap frames_in all
    ∙ (sum_by_push (λ (x : Receipt). length x.entry.outbox) kept r
    ∙ ap (λ l. frames_in l + length r.entry.outbox) same) in
    let number : length new.receipts.items ≡ length old.receipts.items + 1 =
    ap length all ∙ (length_push kept r ∙ ap (λ l. length l + 1) same) in record {
      node = node ∙ was.node;
      passes = record {
        takes = subst (λ (at : ℕ). slice_get (lines_of inboxes) at ≡ Some new.passes.takes.line) (sym own)
            (was.passes.takes ∙ ap (λ (t : TakeView). Some t.line) (sym takes));
        puts = puts;
      };
      receipts = subst (All (IsReceiptIn plan life)) (sym all)
          (All-push (IsReceiptIn plan life) kept r before (receipt_in plan life event a r is asked answers));
      counted = omega (arith, number, was.counted, one);
      lost = omega (arith, lost, was.lost, sum);
    }

-- a call that is refused changes nothing
pub stays : (plan : ClusterPlan) (inboxes : List InboxView) (life : LifeView) (counted now : ℕ)
    (old new : Worker) → IsWorkerOf plan inboxes life counted old → new.node ≡ old.node → new.passes ≡ old.passes
    → new.receipts.items ≡ old.receipts.items → new.lost ≡ old.lost → now ≡ counted
    → IsWorkerOf plan inboxes life now new
stays plan inboxes life counted now old new was node passes receipts lost same = record {
  node = node ∙ was.node;
  passes = subst (ArePassesOf inboxes) (sym passes) was.passes;
  receipts = subst (All (IsReceiptIn plan life)) (sym receipts) was.receipts;
  counted = ap length receipts ∙ (was.counted ∙ sym same);
  lost = subst (λ n. n ≤ frames_in new.receipts.items) (sym lost)
      (subst (λ l. old.lost ≤ frames_in l) (sym receipts) was.lost);
}

-- at the beginning
pub begins : (plan : ClusterPlan) (inboxes : List InboxView) (life : LifeView) (worker : Worker)
    → worker.node ≡ life.node → ArePassesOf inboxes worker.passes → worker.receipts.items ≡ []
    → worker.lost ≡ 0 → IsWorkerOf plan inboxes life 0 worker
begins plan inboxes life worker node passes receipts lost = record {
  node = node;
  passes = passes;
  receipts = subst (All (IsReceiptIn plan life)) (sym receipts) (All-nil (IsReceiptIn plan life));
  counted = ap length receipts;
  lost = omega (arith, lost);
}

-- what comes of a worker whose node was closed with its one seat
pub worked_of : (plan : ClusterPlan) (inboxes : List InboxView) (life : LifeView) (calls : ℕ)
    (worker : Worker) (closed : ClosedNode) (seats : List ℕ) (result : Result Worked LockFault)
    → IsWorkerOf plan inboxes life calls worker
    → BeganWith life.node life.incarnation life.opened closed.base → EndsWithTable closed
    → (given : ℕ) × (closed.base.steps + length closed.journal ≡ given + sum_by (λ s. s) seats)
    → seats ≡ calls ∷ [] → IfOk result (λ w. w.node ≡ worker.node)
    → IfOk result (λ w. w.closed ≡ closed) → IfOk result (λ w. w.receipts ≡ worker.receipts)
    → IfOk result (λ w. w.lost ≡ worker.lost) → IfOk result (HasWorked plan life)
worked_of plan inboxes life calls worker closed seats (Err fault) was began run counts one node same receipts lost = tt
worked_of plan inboxes life calls worker closed seats (Ok w) was began run counts one node same receipts lost =
    let number : length w.receipts.items ≡ length worker.receipts.items = ap (λ v. length v.items) receipts in
    let sum : sum_by (λ s. s) seats ≡ 0 + calls = ap (sum_by (λ s. s)) one in
    let counted : length w.receipts.items ≤ closed.base.steps + length closed.journal =
    omega (arith, number, was.counted, counts.1, sum) in record {
      node = node ∙ was.node;
      left = subst (IsLeftOfLife life) (sym same) (record { began = began; run = run });
      receipts = subst (λ v. All (IsReceiptIn plan life) v.items) (sym receipts) was.receipts;
      counted = subst (λ (c : ClosedNode). length w.receipts.items ≤ c.base.steps + length c.journal) (sym same) counted;
      lost = subst (λ n. n ≤ frames_in w.receipts.items) (sym lost)
          (subst (λ v. worker.lost ≤ frames_in v.items) (sym receipts) was.lost);
    }

-- its passes are of the same inboxes
pub connected_of : (inboxes : List InboxView) (worker : Worker) (result : Result Worked LockFault)
    → ArePassesOf inboxes worker.passes → IfOk result (λ w. w.passes ≡ worker.passes)
    → IfOk result (λ w. ArePassesOf inboxes w.passes)
connected_of inboxes worker (Ok w) are same = subst (ArePassesOf inboxes) (sym same) are
connected_of inboxes worker (Err fault) are same = tt

-- ---- why a node isn't closed

-- if no reader was handed in, only since seats are missing
pub not_closed : (given : ℕ) (readers : List SeatView) (fault : LockFault) → readers ≡ []
    → CanRefuseClosing given readers fault → EndsRun fault
not_closed given readers OfNode.SeatsMissing none can = inr refl
not_closed given readers OfNode.Stopped none can =
    absurd (can.refuses.1 (subst (All (IsWithin can.list)) (sym none) (All-nil (IsWithin can.list))))
not_closed given readers _ none can = absurd can.refuses

-- ---- why a node isn't started

none_applies : (low high : Bool) → low ≡ false → high ≡ false
    → first_that_applies ((low || high, OfNode.BadLimit) ∷ (false, OfNode.NoSeat) ∷ []) ≡ None
none_applies false false low high = refl
none_applies false true low high = absurd (cc)
none_applies true high low is = absurd (cc)

-- with one writer, and a journal within the limits, only because memory ran out
pub not_started : (journal : ℕ) (fault : LockFault) → 1 ≤ journal → journal ≤ 1048576
    → RefusesStarting (record { writers = 1; readers = 0; journal = journal }) fault → EndsRun fault
not_started journal fault some few refused =
    ⊎_elim (λ (memory : fault ≡ OfNode.Memory). inl memory)
    (λ is.
    let none = none_applies (nat_lt journal 1) (nat_lt 1048576 journal) (le-ltb journal 1 some) (le-ltb 1048576 journal few) in
    let clash : None ≡ Some fault = sym none ∙ is in absurd (cc))
    refused

-- ---- the limits of a run

none_of : (nodes room low high other : Bool) (fault another : ClusterFault)
    → first_that_applies ((nodes, fault) ∷ (room || ((low || high) || other), another) ∷ []) ≡ None
    → (low ≡ false) × (high ≡ false)
none_of true room low high other fault another none = absurd (cc)
none_of false true low high other fault another none = absurd (cc)
none_of false false true high other fault another none = absurd (cc)
none_of false false false true other fault another none = absurd (cc)
none_of false false false false other fault another none = (refl, refl)
