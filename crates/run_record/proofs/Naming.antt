-- What the numbers of an event name, and which entry is read.
use Rattle.std.proofs.Common.{◌≡◌, ◌<◌, ℕ, List, length, get_or, slice_get, Some, refl, sym, subst, ap, ◌∙◌, arith, Vec, Global}
use Rattle.std.proofs.lemmas.List.{get_or_default}
use Rattle.std.proofs.lemmas.Option.{slice_get_read, slice_get_within}
use Rattle.meta_store.specs.Context.{Reading}
use Rattle.meta_types.specs.Name.{Key}
use Rattle.meta_types.specs.Value.{ValueParts}
use Rattle.node_events.specs.declared.event.NodeEvent.{NodeEvent}
use Rattle.node_events.specs.declared.event.NodeEvent.TheVariants.{Write}
use Rattle.node_journal.specs.Closed.{ClosedNode}
use Rattle.node_journal.specs.declared.entry.Entry.{Entry}
use Rattle.run_record.specs.Journals.{entry_at, journal_of}
use Rattle.run_record.specs.Order.{IsGivenBy, IsPassedGiver, CanComeNext}
use Rattle.run_record.specs.declared.giving.Giver.{Giver}
use Rattle.run_record.specs.declared.order.Turn.{Turn}
use Rattle.world_core.specs.Numbers.{numbered}
use Rattle.world_core.specs.World.{World}
use Rattle.run_record.specs.declared.replay.Mark.{Mark}
use Rattle.run_record.specs.Replay.{AreMarks, IsMark, IsReplayOf, mark_at}

its_mark : (closed : List ClosedNode) (w : World) (next : List ℕ)
    (rows : List (Vec Mark Global)) (step : NodeEvent) (g : Giver) (mark : Mark)
    → AreMarks closed w next rows → (passed : IsPassedGiver closed next step g)
    → mark_at rows g.node g.place ≡ Some mark → IsMark w passed.entry mark
its_mark closed w next rows step g mark are passed at =
    let r = are g.node g.place passed.entry passed.passed passed.there in
    let same : r.0 ≡ mark = cc (r.1.0, at) in
    subst (λ (m : Mark). IsMark w passed.entry m) same r.1.1

-- the read of the mark is there, and is the one that the write has
pub named_read : (closed : List ClosedNode) (w : World) (next : List ℕ)
    (rows : List (Vec Mark Global)) (key : Key) (value : ValueParts) (c : Reading) (g : Giver)
    (mark : Mark) → AreMarks closed w next rows
    → IsPassedGiver closed next (Write key value (Some c)) g
    → mark_at rows g.node g.place ≡ Some mark
    → (read : ℕ) × ((mark.read ≡ Some read) × (numbered w.contexts read ≡ Some c))
named_read closed w next rows key value c g mark are passed at =
    (its_mark closed w next rows (Write key value (Some c)) g mark are passed at).read c
    passed.gives

-- the entry that is read is the next one
pub there_of : (closed : List ClosedNode) (next : List ℕ) (turn : Turn) (journal : List Entry)
    (v : ℕ) (e : Entry) → CanComeNext closed next turn → journal ≡ journal_of closed turn.node
    → v ≡ get_or next turn.node v → e ≡ get_or journal v e
    → entry_at closed turn.node (get_or next turn.node 0) ≡ Some e
there_of closed next turn journal v e ready is at here =
    let n = turn.node in
    let same : v ≡ get_or next n 0 = at ∙ get_or_default next n v 0 ready.node in
    let within = slice_get_within (journal_of closed n) (get_or next n 0) ready.entry ready.there in
    let less : v < length journal =
    omega (arith, within, ap (λ (l : List Entry). length l) is, same) in
    ap (λ (l : List Entry). slice_get l (get_or next n 0)) (sym is)
    ∙ ap (λ k. slice_get journal k) (sym same)
    ∙ slice_get_read journal (length journal) v e refl less here

-- and what it needs is given
pub given_to : (closed : List ClosedNode) (next : List ℕ) (turn : Turn) (e : Entry)
    → (ready : CanComeNext closed next turn)
    → entry_at closed turn.node (get_or next turn.node 0) ≡ Some e
    → IsGivenBy closed next e.event turn.giver
given_to closed next turn e ready there =
    let same : ready.entry ≡ e = cc (ready.there, there) in
    subst (λ (x : Entry). IsGivenBy closed next x.event turn.giver) same ready.given

pub row_of : (closed : List ClosedNode) (w : World) (next : List ℕ)
    (rows : List (Vec Mark Global)) (turn : Turn) (row : Vec Mark Global)
    → IsReplayOf closed w next rows → CanComeNext closed next turn → row ≡ get_or rows turn.node row
    → slice_get rows turn.node ≡ Some row
row_of closed w next rows turn row replay ready is =
    slice_get_read rows (length rows) turn.node row refl
    (omega (arith, ready.node, replay.places.number, replay.number)) is
