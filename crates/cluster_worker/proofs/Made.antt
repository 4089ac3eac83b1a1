-- The passes of nodes, as they are made.
use Rattle.std.proofs.Common.{◌≡◌, ◌<◌, ◌+◌, ℕ, List, [], ◌∷◌, ◌++◌, length, map, get_or, slice_get, option_map, Some, All, refl, sym, subst, ap, ◌∙◌, arith, false, Vec, Global}
use Rattle.std.proofs.lemmas.List.{get_or-map, length-map}
use Rattle.std.proofs.lemmas.List.Elements.{All-cons, All-nil}
use Rattle.std.proofs.lemmas.Option.{slice_get-get_or, slice_get-map}
use Rattle.inbox.specs.Views.{InboxView, PutView, TakeView}
use Rattle.cluster_worker.specs.Passes.{AreNewPassesFrom, AreNewPassesOf, ArePassesOf, AreSenderRows, lines_of, new_put, new_take}
use Rattle.cluster_worker.specs.declared.passes.Passes.{Passes}

-- new passes into the inboxes are of them
pub lines_of_new : (inboxes : List InboxView) (sender : ℕ)
    → map (λ p. p.line) (map (new_put sender) inboxes) ≡ lines_of inboxes
lines_of_new [] sender = refl
lines_of_new (a ∷ later) sender = ap (λ l. a.line ∷ l) (lines_of_new later sender)

-- the new passes of a node are of the inboxes
pub passes_of_new : (inboxes : List InboxView) (node : ℕ) (passes : Passes)
    → AreNewPassesOf inboxes node passes → ArePassesOf inboxes passes
passes_of_new inboxes node passes new = record {
  takes = ap (slice_get (lines_of inboxes)) new.own
      ∙ (slice_get-map (λ (a : InboxView). a.line) inboxes node
      ∙ (ap (option_map (λ (a : InboxView). a.line)) new.there
      ∙ ap (λ (t : TakeView). Some t.line) (sym new.takes)));
  puts = ap (map (λ (p : PutView). p.line)) new.puts ∙ lines_of_new inboxes node;
}

-- as are those of all
pub all_of_new : (inboxes : List InboxView) (node : ℕ) (passes : List Passes)
    → AreNewPassesFrom inboxes node passes → All (ArePassesOf inboxes) passes
all_of_new inboxes node [] new = All-nil (ArePassesOf inboxes)
all_of_new inboxes node (one ∷ later) new =
    All-cons (ArePassesOf inboxes) one later (passes_of_new inboxes node one new.0)
    (all_of_new inboxes (node + 1) later new.1)

pub each_has_passes : (inboxes : List InboxView) (passes : List Passes)
    → AreNewPassesFrom inboxes 0 passes → All (ArePassesOf inboxes) passes
each_has_passes inboxes passes new = all_of_new inboxes 0 passes new

-- those of one more node
pub from_one_more : (inboxes : List InboxView) (node : ℕ) (passes : List Passes) (one : Passes)
    → AreNewPassesFrom inboxes node passes → AreNewPassesOf inboxes (node + length passes) one
    → AreNewPassesFrom inboxes node (passes ++ one ∷ [])
from_one_more inboxes node [] one new is =
    let here : node + 0 ≡ node = omega arith in
    (subst (λ (n : ℕ). AreNewPassesOf inboxes n one) here is, tt)
from_one_more inboxes node (first ∷ later) one new is =
    let on : node + length (first ∷ later) ≡ node + 1 + length later = omega arith in (
      new.0,
      from_one_more inboxes (node + 1) later one new.1
          (subst (λ (n : ℕ). AreNewPassesOf inboxes n one) on is),
    )

-- the pass to take at a place, and the row there, are the new passes of the node of this number
pub new_passes_at : (inboxes : List InboxView) (nodes : ℕ) (takes : List TakeView)
    (rows : List (Vec PutView Global)) → takes ≡ map (new_take nodes) inboxes
    → AreSenderRows inboxes nodes rows → length takes ≡ nodes
    → (node : ℕ) (own : ℕ) (take : TakeView) (row : Vec PutView Global)
    → node < nodes → own ≡ node → take ≡ get_or takes node take → row ≡ get_or rows node row
    → AreNewPassesOf inboxes node (record { own = own; takes = take; puts = row })
new_passes_at inboxes nodes takes rows made dealt long node own take row less at taken put =
    let none : InboxView = record { line = take.line; room = 0; closed = false } in
    let number : length inboxes ≡ nodes =
    sym (length-map inboxes (new_take nodes)) ∙ (ap length (sym made) ∙ long) in
    let within : node < length inboxes = omega (arith, less, number) in
    let inbox = get_or inboxes node none in
    let there : slice_get rows node ≡ Some row =
    slice_get-get_or rows node row (omega (arith, less, dealt.number)) ∙ ap Some (sym put) in
    record {
      own = at;
      inbox = inbox;
      there = slice_get-get_or inboxes node none within;
      takes = taken
          ∙ (ap (λ l. get_or l node take) made
          ∙ (get_or-map (new_take nodes) inboxes node none take within
          ∙ ap (λ n. new_take n inbox) (sym number)));
      puts = (dealt.each node row there).puts;
    }
