use Rattle.std.proofs.Common.{◌≡◌, ◌+◌, ◌∷◌, ◌++◌, [], ℕ, List, false, length, map, All, sym, subst, ap, ◌∙◌, arith}
use Rattle.std.proofs.lemmas.List.{length_push, length-map, map_push}
use Rattle.std.proofs.lemmas.List.Elements.{All-head, All-tail, All-push}
use Rattle.std.proofs.lemmas.Option.{slice_get-get_or}
use Rattle.inbox.specs.Opening.{IsFresh}
use Rattle.inbox.specs.Views.{InboxView, TakeView}
use Rattle.inbox.specs.declared.inbox.Fresh.{Fresh}
use Rattle.cluster_worker.specs.Passes.{AreSenderRows, new_take}
use Rattle.cluster_worker.proofs.Dealt.{row_length}
use Rattle.cluster_worker.proofs.passes.part.Goals as goal

-- an open inbox of this room
abbrev IsNew : ℕ → InboxView → Type 0
IsNew room a = (a.room ≡ room) × (a.closed ≡ false)

-- one more inbox, and its pass to take
takes_on : (nodes : ℕ) (takes : List TakeView) (inboxes : List InboxView) (one : Fresh)
    → takes ≡ map (new_take nodes) inboxes → one.takes ≡ new_take nodes one.inbox
    → takes ++ one.takes ∷ [] ≡ map (new_take nodes) (inboxes ++ one.inbox ∷ [])
takes_on nodes takes inboxes one are is =
    ap (λ (ts : List TakeView). ts ++ one.takes ∷ []) are
    ∙ (ap (λ (t : TakeView). map (new_take nodes) inboxes ++ t ∷ []) is
    ∙ sym (map_push (new_take nodes) inboxes one.inbox))

-- one is parted from those that are left
open_on : (nodes room : ℕ) (one : Fresh) (rest : List Fresh) (inboxes : List InboxView)
    → All (IsFresh nodes room) (one ∷ rest) → All (IsNew room) inboxes
    → All (IsFresh nodes room) rest × All (IsNew room) (inboxes ++ one.inbox ∷ [])
open_on nodes room one rest inboxes fresh new =
    let here : IsFresh nodes room one = All-head (IsFresh nodes room) one rest fresh in
    let is : IsNew room one.inbox = (here.room, here.is_open) in
    let on = All-push (IsNew room) inboxes one.inbox new is in
    (All-tail (IsFresh nodes room) one rest fresh, on)

pub loop-one-preserved : goal.loop-one-preserved
loop-one-preserved c =
    let nodes = length c.args.rows.now.items in
    let was = c.loop-one.invariant in
    let one = c.in-Some.one in
    let rest = c.next.new.self.rest.items in
    let inboxes = c.loop-one.inboxes.items in
    let takes = c.loop-one.all_takes.items in
    let is = c.in-Some.ensures.steps.0 in
    let left : (room : ℕ) → All (IsFresh nodes room) c.args.fresh.items
    → All (IsFresh nodes room) (one ∷ rest) =
    λ room all. subst (All (IsFresh nodes room)) is (was.fresh room all).0 in
    let size = c.requires.fresh.0 in
    let new : IsFresh nodes size one =
    All-head (IsFresh nodes size) one rest (left size c.requires.fresh.1) in
    let more = c.push_reserved.ensures.items in
    let grown : length c.push_reserved.new.self.items ≡ length inboxes + 1 =
    ap length more ∙ length_push inboxes one.inbox in
    record {
      number = omega (arith, grown, was.number, ap length is);
      takes = c.push_reserved-in-loop-one.ensures.items
          ∙ (takes_on nodes takes inboxes one was.takes new.takes
          ∙ ap (map (new_take nodes)) (sym more));
      rows = subst (λ (l : List InboxView). AreSenderRows l nodes c.deal.new.rows.items) (sym more)
          (c.deal.ensures inboxes nodes one.inbox was.rows new.puts);
      fresh = λ room all.
          let on = open_on nodes room one rest inboxes (left room all) (was.fresh room all).1 in
          (on.0, subst (All (IsNew room)) (sym more) on.1);
      inboxes = omega (arith, was.inboxes, c.push_reserved.ensures.capacity);
      room = omega (arith, was.room, c.push_reserved-in-loop-one.ensures.capacity);
    }

pub deal-requires-clause-room : goal.deal-requires-clause-room
deal-requires-clause-room c = λ k d less.
    let was = c.loop-one.invariant in
    let row = was.rows.each k _ (slice_get-get_or _ k d less) in
    let left = ap length c.in-Some.ensures.steps.0 in
    omega (arith, row_length _ _ _ _ row, row.room, was.number, left)

pub push_reserved-requires-in-loop-one : goal.push_reserved-requires-in-loop-one
push_reserved-requires-in-loop-one c =
    let was = c.loop-one.invariant in
    let all = c.loop-one.all_takes in
    let nodes = length c.args.rows.now.items in
    let inboxes = c.loop-one.inboxes.items in
    let long : length all.items ≡ length inboxes =
    ap length was.takes ∙ length-map inboxes (new_take nodes) in
    let left = ap length c.in-Some.ensures.steps.0 in
    omega (arith, all.ok.0, long, was.room, was.number, left)
