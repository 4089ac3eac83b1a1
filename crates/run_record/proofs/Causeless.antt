-- Journals that came of a run have no cause for a refusal.
use Rattle.std.proofs.Common.{◌≡◌, ◌≢◌, ◌<◌, ◌≤◌, ℕ, zero, suc, List, [], ◌∷◌, ◌++◌, length, map, take, get_or, All, Some, Ok, refl, sym, subst, ap, ◌∙◌, inl, inr, arith}
use Rattle.std.proofs.lemmas.Bool.{cases_eq}
use Rattle.std.proofs.lemmas.List.{get_or-set_other, get_or-set_same, length-map, length-set, map-append, take_all}
use Rattle.std.proofs.lemmas.List.Elements.{All-head, All-tail}
use Rattle.std.proofs.lemmas.List.FromFn.{get_or-map-range_with_len, length-map-range_with_len}
use Rattle.std.proofs.lemmas.Option.{slice_get-get_or}
use Rattle.node_core.specs.declared.state.Stepped.{Stepped}
use Rattle.node_core.specs.Node.{NodeParts, opening}
use Rattle.node_core.specs.Run.{IsRun}
use Rattle.node_core.specs.Step.{IsNodeStep}
use Rattle.node_core.proofs.Outcomes.{each_run_goes_on}
use Rattle.node_events.specs.Event.{stored_key}
use Rattle.node_events.specs.declared.event.NodeEvent.{NodeEvent}
use Rattle.restart_images.specs.Node.{ImagedNode, arrived, new_node}
use Rattle.node_journal.specs.declared.entry.Entry.{Entry}
use Rattle.node_journal.specs.declared.receipt.Receipt.{Receipt}
use Rattle.node_journal.specs.Closed.{ClosedNode}
use Rattle.node_journal.specs.Entry.{step_of, stepped_of}
use Rattle.run_record.specs.Journals.{journal_of}
use Rattle.run_record.specs.Refusal.{NoneIsStuck, NoneIsUnsent}
use Rattle.world_core.specs.declared.answer.Accepted.{Accepted}
use Rattle.world_core.specs.Events.{Doing, node_of_event}
use Rattle.world_core.specs.Numbers.{numbered}
use Rattle.world_core.specs.Outcome.{Outcomes, Passes}
use Rattle.world_core.specs.Refusal.{node_at}
use Rattle.world_core.specs.World.{World, new_world}
use Rattle.run_record.specs.declared.fault.RecordFault.{RecordFault}
use Rattle.run_record.specs.declared.fault.RecordFault.TheVariants.{Memory, StrangeReceipt, Stuck, Unequal, Unsent}
use Rattle.run_record.specs.Record.{ARunHasNoCause, AllRanAsTold, AreOfARun, HoldsJournals, IsKept, IsPutOver, IsReadOfPutOver, Refuses, deed, event_of, outcome_of, read_named}
use Rattle.run_record.proofs.Entries.{IsEntryOf, entry_of, upto_in}
use Rattle.run_record.proofs.Numbers.{all_at, take_here}
use Rattle.run_record.proofs.Replaying.{accepts_of}
use Rattle.run_record.proofs.Supply.{AreSupplied, supplied, supplied_more}
use Rattle.run_record.proofs.Upto.{AllCame, NoneLacks, all_were_sent, none_lacks_more, none_was_stuck}
use Rattle.run_record.proofs.Wholeness.{have_nodes}

-- the node stands where its entries so far take it
abbrev RanSoFar : List ClosedNode → World → ℕ → Type 0
RanSoFar closed w n = IsRun (opening n 1 [])
    (map step_of (take (upto_in w n) (journal_of closed n))) (node_at w n).state

-- at this moment of the run what was needed was there, and each node ran as told; `over` are the
-- reads that no reply hands out
record IsMoment (closed : List ClosedNode) (over : ℕ → Type 0) (w : World) : Type 0 where
  nodes : length w.nodes ≡ length closed
  supplied : AreSupplied closed over w
  none : NoneLacks closed (upto_in w)
  ran : (n : ℕ) → n < length closed → RanSoFar closed w n

-- ---- one event more

ran_on : (closed : List ClosedNode) (old new : World) (a : Accepted)
    → (e : IsEntryOf closed old new a) → node_of_event a.event < length old.nodes
    → RanSoFar closed old (node_of_event a.event) → RanSoFar closed new (node_of_event a.event)
ran_on closed old new a e low ran =
    let n = node_of_event a.event in
    let journal = journal_of closed n in
    let p = upto_in old n in
    let so_far = map step_of (take p journal) in
    let node : ImagedNode = arrived e.made.state (stored_key e.entry.event) (node_at old n) in
    let more : suc p ≡ upto_in new n = omega (arith, e.on.own) in
    let steps : so_far ++ step_of e.entry ∷ [] ≡ map step_of (take (upto_in new n) journal) =
    sym (map-append step_of (take p journal) (e.entry ∷ []))
    ∙ ap (λ (es : List Entry). map step_of es) (sym (take_here journal p e.entry e.there))
    ∙ ap (λ q. map step_of (take q journal)) more in
    let stands : e.made.state ≡ (node_at new n).state =
    sym (ap (λ (l : List ImagedNode). (get_or l n (new_node n)).state) e.made.nodes
    ∙ ap (λ (x : ImagedNode). x.state) (get_or-set_same old.nodes n node (new_node n) low)) in
    let step = subst
    (λ (s : Stepped). IsNodeStep (node_at old n).state e.entry.event e.made.state s) e.given
    e.made.makes in
    let run = each_run_goes_on.goes_on so_far (opening n 1 []) (node_at old n).state e.made.state
    e.entry.event (stepped_of e.entry) ran step in
    subst (λ (l : List (NodeEvent × Stepped)). IsRun (opening n 1 []) l (node_at new n).state)
    steps (subst (λ (s : NodeParts). IsRun (opening n 1 []) (so_far ++ step_of e.entry ∷ []) s)
    stands run)

ran_beside : (closed : List ClosedNode) (old new : World) (a : Accepted) (m : ℕ)
    → (e : IsEntryOf closed old new a) → node_of_event a.event ≢ m → RanSoFar closed old m
    → RanSoFar closed new m
ran_beside closed old new a m e other ran =
    let n = node_of_event a.event in
    let journal = journal_of closed m in
    let node : ImagedNode = arrived e.made.state (stored_key e.entry.event) (node_at old n) in
    let apart : m ≢ n = λ h. other (sym h) in
    let stands : (node_at old m).state ≡ (node_at new m).state =
    sym (ap (λ (l : List ImagedNode). (get_or l m (new_node m)).state) e.made.nodes
    ∙ ap (λ (x : ImagedNode). x.state) (get_or-set_other old.nodes n m node (new_node m) apart))
    in
    subst (λ q. IsRun (opening m 1 []) (map step_of (take q journal)) (node_at new m).state)
    (sym (e.on.others m other))
    (subst (λ (s : NodeParts). IsRun (opening m 1 [])
    (map step_of (take (upto_in old m) journal)) s) stands ran)

moment_on : (closed : List ClosedNode) (over : ℕ → Type 0) (old new : World) (a : Accepted)
    → IsEntryOf closed old new a → Passes old a.event (Ok a.answer) new
    → ((read : ℕ) → IsPutOver a.event → a.answer.read ≡ Some read → over read)
    → ((read : ℕ) → read_named a.event ≡ Some read → over read → ⊥)
    → IsMoment closed over old → IsMoment closed over new
moment_on closed over old new a e passes made_over free m =
    let n = node_of_event a.event in
    let accepts = accepts_of old new a.event a.answer passes in
    let node : ImagedNode = arrived e.made.state (stored_key e.entry.event) (node_at old n) in
    let low : n < length old.nodes = omega (arith, e.node, m.nodes) in
    record {
      nodes = ap (λ (l : List ImagedNode). length l) e.made.nodes
          ∙ length-set old.nodes n node ∙ m.nodes;
      supplied = supplied_more closed over old new a e made_over m.supplied;
      none = none_lacks_more closed n (upto_in old) (upto_in new) e.entry e.on e.there
          (supplied closed over old a.event e.entry.event (node_at old n).state e.made.state
          e.made.given accepts.no_refusal e.doing e.made.makes free m.supplied) m.none;
      ran = λ k in_closed. elim (cases_eq n k) [
        | inl same ↦ subst (λ q. RanSoFar closed new q) same
            (ran_on closed old new a e low (m.ran n e.node))
        | inr other ↦ ran_beside closed old new a k e other (m.ran k in_closed)
      ];
    }

-- ---- all events

-- a `PutOver` made the read
abbrev MadeOver : (ℕ → Type 0) → Accepted → Type 0
MadeOver over a = (read : ℕ) → IsPutOver a.event → a.answer.read ≡ Some read → over read

-- the write names none of these reads
abbrev NamesNoneOf : (ℕ → Type 0) → Accepted → Type 0
NamesNoneOf over a = (read : ℕ) → read_named a.event ≡ Some read → over read → ⊥

nothing_numbered : {A : Type 0} (number : ℕ) (x : A) → numbered [] number ≡ Some x → ⊥
nothing_numbered zero x at = cc
nothing_numbered (suc before) x at = cc

first_moment : (closed : List ClosedNode) (over : ℕ → Type 0)
    → IsMoment closed over (new_world (length closed))
first_moment closed over = record {
  nodes = length-map-range_with_len new_node 0 (length closed);
  supplied = record {
    frames = λ number frame word at. absurd (nothing_numbered number frame at);
    reads = λ read c key value at. absurd (nothing_numbered read c at);
  };
  none = record {
    given = λ n p e lt there needs. absurd (let low : p < 0 = lt in omega (arith, low));
    past = λ places stuck n r l. let least : 0 ≤ r = omega arith in least;
  };
  ran = λ n low. ap (λ (x : ImagedNode). x.state)
      (get_or-map-range_with_len new_node 0 (length closed) n n (new_node n) low (omega arith));
}

last_moment : (closed : List ClosedNode) (over : ℕ → Type 0) (final : World)
    (later : List Accepted) (w : World) → HoldsJournals closed final → All (MadeOver over) later
    → All (NamesNoneOf over) later
    → Outcomes w (map event_of later) (map outcome_of later) final → IsMoment closed over w
    → IsMoment closed over final
last_moment closed over final [] w holds made free run m =
    subst (λ (x : World). IsMoment closed over x) (sym run) m
last_moment closed over final (a ∷ later) w holds made free run m =
    let e = entry_of closed w run.0 final a later holds m.nodes run.1.0 run.1.1 in
    last_moment closed over final later run.0 holds (All-tail (MadeOver over) a later made)
    (All-tail (NamesNoneOf over) a later free) run.1.1
    (moment_on closed over w run.0 a e run.1.0 (All-head (MadeOver over) a later made)
    (All-head (NamesNoneOf over) a later free) m)

-- ---- the law

made_over : (w : World) → All (MadeOver (IsReadOfPutOver w)) w.accepted
made_over w k d low read put_over number = record {
  at = k;
  by = get_or w.accepted k d;
  there = slice_get-get_or w.accepted k d low;
  put_over = put_over;
  number = number;
}

all_came : (closed : List ClosedNode) (w : World) → HoldsJournals closed w
    → AllCame closed (upto_in w)
all_came closed w holds n low =
    ap (λ (ds : List (Doing × Stepped)). length ds) (holds n low)
    ∙ length-map (journal_of closed n) deed

all_ran : (closed : List ClosedNode) (told : AreOfARun closed)
    → ((n : ℕ) → n < length closed → RanSoFar closed told.world n) → AllRanAsTold closed
all_ran closed told ran n low =
    let w = told.world in
    let all = all_came closed w told.journals n low in
    record {
      end = (node_at w n).state;
      ran = subst
          (λ (es : List Entry). IsRun (opening n 1 []) (map step_of es) (node_at w n).state)
          (take_all (upto_in w n) (journal_of closed n) (omega (arith, all))) (ran n low);
      table = told.tables n low;
    }

memory_alone : (closed : List ClosedNode) → NoneIsUnsent closed → NoneIsStuck closed
    → AllRanAsTold closed → (receipts : List Receipt) (fault : RecordFault)
    → All (IsKept closed) receipts → Refuses closed receipts fault → fault ≡ Memory
memory_alone closed sent unstuck ran receipts (Unsent at) kept refuses =
    absurd (sent at.node at.place refuses)
memory_alone closed sent unstuck ran receipts (Stuck places) kept refuses =
    absurd (unstuck places.items refuses.1)
memory_alone closed sent unstuck ran receipts (Unequal n) kept refuses =
    absurd (refuses.1.1.otherwise (ran n refuses.1.1.node))
memory_alone closed sent unstuck ran receipts StrangeReceipt kept refuses =
    let s = refuses.1.1.1 in
    absurd (s.strange (all_at (IsKept closed) receipts s.at s.receipt kept s.there))
memory_alone closed sent unstuck ran receipts Memory kept refuses = refl

pub a_run_has_no_cause : ARunHasNoCause
a_run_has_no_cause closed whole told free =
    let w = told.world in
    let m = last_moment closed (IsReadOfPutOver w) w w.accepted (new_world (length closed))
    told.journals (made_over w) free told.run (first_moment closed (IsReadOfPutOver w)) in
    let came = all_came closed w told.journals in
    let sent = all_were_sent closed (upto_in w) (have_nodes closed whole) came m.none in
    let unstuck = none_was_stuck closed (upto_in w) came m.none in
    let ran = all_ran closed told m.ran in
    record {
      sent = sent;
      unstuck = unstuck;
      ran = ran;
      memory_alone = memory_alone closed sent unstuck ran;
    }
