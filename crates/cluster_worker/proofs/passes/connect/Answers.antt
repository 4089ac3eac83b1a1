use Rattle.std.proofs.Common.{◌≡◌, ℕ, List, length, All, sym, subst, ap, ◌∙◌, rules}
use Rattle.std.proofs.lemmas.List.{length-map}
use Rattle.std.proofs.lemmas.Result.{IfOk-at_ok}
use Rattle.inbox.specs.Opening.{IsFresh}
use Rattle.inbox.specs.declared.inbox.Fresh.{Fresh}
use Rattle.cluster_worker.specs.Passes.{new_take}
use Rattle.cluster_worker.proofs.passes.connect.Goals as goal

-- inboxes for so many nodes are inboxes for as many rows
for_rows : (nodes rows room : ℕ) (all : List Fresh) → rows ≡ nodes
    → All (IsFresh nodes room) all → All (IsFresh rows room) all
for_rows nodes rows room all same fresh =
    subst (λ (n : ℕ). All (IsFresh n room) all) (sym same) fresh

pub part-inboxes-requires-clause-fresh : goal.part-inboxes-requires-clause-fresh
part-inboxes-requires-clause-fresh c =
    let nodes = c.args.nodes in
    let room = c.args.room in
    let rows = length c.in_ok-fresh.rows.items in
    let all = c.in_ok-fresh.fresh.items in
    let opened = c.in_ok-fresh.ensures.value.0 in
    let fresh =
    IfOk-at_ok (λ a. All (IsFresh nodes room) a.items) opened c.open_all-fresh.ensures.fresh in
    (room, for_rows nodes rows room all (search rules) fresh)

pub gather-passes-requires-clause-number : goal.gather-passes-requires-clause-number
gather-passes-requires-clause-number c =
    let nodes = c.args.nodes in
    let room = c.args.room in
    let rows = length c.in_ok-fresh.rows.items in
    let all = c.in_ok-fresh.fresh.items in
    let opened = c.in_ok-fresh.ensures.value.0 in
    let fresh =
    IfOk-at_ok (λ a. All (IsFresh nodes room) a.items) opened c.open_all-fresh.ensures.fresh in
    let made = c.part-inboxes.ensures in
    let new = made.inboxes room (for_rows nodes rows room all (search rules) fresh) in
    ap length made.takes
    ∙ (length-map c.part-inboxes.result.0.items (new_take rows)
    ∙ (new.number ∙ sym made.rows.number))
