-- Where a replay begins and ends.
use Rattle.std.proofs.Common.{◌≡◌, ◌<◌, ◌+◌, ℕ, suc, List, [], ◌∷◌, length, map, take, slice_index, All, refl, sym, subst, ap, ◌∙◌, inl, inr, arith, Vec, Global}
use Rattle.std.proofs.lemmas.Bool.{cases_eq}
use Rattle.std.proofs.lemmas.List.{take_all}
use Rattle.std.proofs.lemmas.List.FromFn.{length-map-range_with_len}
use Rattle.meta_store.specs.Table.{object_at}
use Rattle.meta_types.specs.Name.{Key}
use Rattle.node_core.specs.Node.{NodeParts, opening}
use Rattle.node_core.specs.Run.{RunsGoOn}
use Rattle.restart_images.specs.Node.{new_node}
use Rattle.node_journal.specs.Closed.{ClosedNode}
use Rattle.node_journal.specs.declared.entry.Entry.{Entry}
use Rattle.node_journal.specs.Entry.{step_of}
use Rattle.run_record.specs.Journals.{journal_of, last_table}
use Rattle.run_record.specs.Order.{AreFirst, HasEnded, IsOrder, IsOrderFrom}
use Rattle.run_record.specs.declared.order.Turn.{Turn}
use Rattle.world_core.specs.Knowledge.{OfAllTold, ShowsKnown}
use Rattle.world_core.specs.Refusal.{node_at, table_at}
use Rattle.world_core.specs.World.{HasLived, World, deeds_in, new_world}
use Rattle.run_record.specs.declared.replay.Mark.{Mark}
use Rattle.run_record.specs.Record.{HoldsJournals, IsOfARun, IsUnequal, RanAsTold, deed}
use Rattle.run_record.specs.Replay.{IsReplayOf}
use Rattle.run_record.proofs.Deeds.{lived_run}
use Rattle.run_record.proofs.Numbers.{all_at}

-- ---- the beginning

pub begins : (closed : List ClosedNode) (w : World) (next : List ℕ)
    (rows : List (Vec Mark Global)) → w ≡ new_world (length closed) → AreFirst closed next
    → length rows ≡ length closed → All (λ (row : Vec Mark Global). length row.items ≡ 0) rows
    → IsReplayOf closed w next rows
begins closed w next rows new first many empty = record {
  run = subst (λ (x : World). IsOfARun (length closed) x) (sym new) refl;
  nodes = ap (λ (x : World). length x.nodes) new
      ∙ length-map-range_with_len new_node 0 (length closed);
  places = record {
    number = first.number;
    within = λ n. let z = first.zero n in omega (arith, z);
  };
  holds = λ n lt. ap (λ (x : World). deeds_in x n) new
      ∙ ap (λ q. map deed (take q (journal_of closed n))) (sym (first.zero n));
  number = many;
  lengths = λ m row at. all_at (λ (x : Vec Mark Global). length x.items ≡ 0) rows m row empty at
      ∙ sym (first.zero m);
  marks = λ m q e less there. absurd (let z = first.zero m in omega (arith, less, z));
}

-- ---- the end

pub holds_whole : (closed : List ClosedNode) (w : World) (next : List ℕ)
    (rows : List (Vec Mark Global)) → IsReplayOf closed w next rows
    → ((n : ℕ) → HasEnded closed next n) → HoldsJournals closed w
holds_whole closed w next rows replay ended n lt = replay.holds n lt
    ∙ ap (λ (es : List Entry). map deed es)
    (take_all (slice_index next n) (journal_of closed n) (ended n))

-- ---- tables

-- a node of the world holds what is told, ran as told, and shows what it knows
pub record IsAsClosed (closed : List ClosedNode) (w : World) (n : ℕ) : Type 0 where
  pub ran : RanAsTold closed n
  pub table : table_at w n ≡ last_table closed n
  pub shows : OfAllTold w
      (λ t. (key : Key) → ShowsKnown t.history n key (object_at (last_table closed n) key))

pub as_closed : (closed : List ClosedNode) (w : World) (n : ℕ) (state : NodeParts)
    → HoldsJournals closed w → n < length closed → HasLived w n (node_at w n)
    → state ≡ (node_at w n).state → state.table ≡ last_table closed n
    → OfAllTold w (λ t. (key : Key) → ShowsKnown t.history n key (object_at state.table key))
    → IsAsClosed closed w n
as_closed closed w n state holds lt lived is table shows =
    let held : table_at w n ≡ last_table closed n =
    sym (ap (λ (s : NodeParts). s.table) is) ∙ table in
    record {
      ran = record {
        end = (node_at w n).state;
        ran = lived_run w n (journal_of closed n) lived (holds n lt);
        table = held;
      };
      table = held;
      shows = λ t tells key. subst (λ x. ShowsKnown t.history n key (object_at x key)) table
          (shows t tells key);
    }

pub unequal_table : (closed : List ClosedNode) (w : World) (n : ℕ) (state : NodeParts) → RunsGoOn
    → HoldsJournals closed w → n < length closed → HasLived w n (node_at w n)
    → state ≡ (node_at w n).state → (state.table ≡ last_table closed n → ⊥) → IsUnequal closed n
unequal_table closed w n state goes holds lt lived is differs = record {
  node = lt;
  otherwise = λ told.
      let here = (node_at w n).state in
      let same : here ≡ told.end = goes.one_end (map step_of (journal_of closed n))
      (opening n 1 []) here told.end
      (lived_run w n (journal_of closed n) lived (holds n lt)) told.ran in
      differs (ap (λ (s : NodeParts). s.table) (is ∙ same) ∙ told.table);
}

-- one node more
pub one_more : (closed : List ClosedNode) (w : World) (n : ℕ)
    → ((k : ℕ) → k < n → IsAsClosed closed w k) → IsAsClosed closed w n
    → (k : ℕ) → k < n + 1 → IsAsClosed closed w k
one_more closed w n before here k lt = elim (cases_eq k n) [
  | inl same ↦ subst (λ m. IsAsClosed closed w m) (sym same) here
  | inr ne ↦ before k (omega (arith, lt, ne))
]

-- ---- the turns

-- as many places, each the first
same_places : (xs ys : List ℕ) → length xs ≡ length ys → ((n : ℕ) → slice_index xs n ≡ 0)
    → ((n : ℕ) → slice_index ys n ≡ 0) → xs ≡ ys
same_places [] [] same x y = refl
same_places [] (b ∷ ys) same x y = absurd (omega (arith, same))
same_places (a ∷ xs) [] same x y = absurd (omega (arith, same))
same_places (a ∷ xs) (b ∷ ys) same x y =
    let head : a ≡ b = x 0 ∙ sym (y 0) in
    let rest = same_places xs ys (omega (arith, same)) (λ n. x (suc n)) (λ n. y (suc n)) in
    λ i. head i ∷ rest i

-- an order leads on from the first places
pub order_from : (closed : List ClosedNode) (order : List Turn) (next : List ℕ) → IsOrder closed order
    → AreFirst closed next → IsOrderFrom closed next order
order_from closed order next o first =
    subst (λ l. IsOrderFrom closed l order)
    (same_places o.first next (o.are_first.number ∙ sym first.number) o.are_first.zero first.zero)
    o.goes
