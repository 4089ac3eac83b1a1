-- Exchanges and joins go round: each task is what the plan says, and keeps who the members are.
use Rattle.std.proofs.Common.{◌≡◌, ◌<◌, ◌+◌, ℕ, true, List, [], ◌∷◌, ◌++◌, length, min, nat_lt, refl, sym, ap, subst, ◌∙◌, arith}
use Rattle.std.specs.Prelude.{slice_get}
use Rattle.std.proofs.lemmas.List.{length-map}
use Rattle.std.proofs.lemmas.Bool.{and_from, lt-ltb}
use Rattle.driver.specs.declared.member.Member.{Member}
use Rattle.driver.specs.declared.member.MemberChange.{MemberChange}
use Rattle.driver.specs.declared.member.MemberChange.TheVariants.{Greeted, GivenUp, Heard, Tried}
use Rattle.driver.specs.declared.task.Task.{Task}
use Rattle.driver.specs.declared.task.Task.TheVariants.{Tick, Hello, Join, BeginExchange, PeerDown}
use Rattle.driver.specs.Plan.{PlanParts, after, are_few, all_learn, heard_from, learn, next_place}
use Rattle.driver.specs.Duty.{MemberAdded, TaskDone, ExchangesGoRound, LinkFailed, PlanChange, FrameCame, IsForJoin, JoinsComeFirst, JoinsGoRound, KeepMembers, Leads, MemberRemoved, contacts_in, number_at, nodes_of, one_if, partners_in, round_from, ticks_in}
use Rattle.driver.proofs.Members.{nodes_changed}
use Rattle.driver.proofs.Tasks.{Greets, IsJoinOf, Joins, exchange_owed, join_due, joining_first, node_there, tick_free}

some_changed : (change : MemberChange) (n : ℕ) (members : List Member) → 0 < length members → 0 < length (all_learn change n members)
some_changed change n members some = let same = length-map members (learn change n) in omega (arith, some, same)

-- ---- exchanges

abbrev GoRound : PlanParts → List PlanChange → PlanParts → Type 0
GoRound old changes new =
    (partners_in changes ≡ round_from (length (partners_in changes)) old.partner (nodes_of old.members))
    × (length (partners_in changes) + one_if new.owes_exchange ≡ ticks_in changes + one_if old.owes_exchange)

-- who the members are is all that counts of them
of_same : (old new : PlanParts) (changes : List PlanChange) (members : List Member) → nodes_of members ≡ nodes_of old.members
    → GoRound (record old { members = members }) changes new → GoRound old changes new
of_same old new changes members same (round, count) =
    (subst (λ (ns : List ℕ). partners_in changes ≡ round_from (length (partners_in changes)) old.partner ns) same round, count)

go : (old new : PlanParts) (changes : List PlanChange) → Leads old changes new → KeepMembers changes → 0 < length old.members → GoRound old changes new
go old new [] same keep some = let owes = ap (λ (p : PlanParts). one_if p.owes_exchange) same in (refl, omega (arith, owes))
go old new (MemberAdded now n ∷ rest) leads keep some = absurd keep
go old new (MemberRemoved n ∷ rest) leads keep some = absurd keep
go old new (FrameCame now n ∷ rest) (can, leads) keep some =
    of_same old new rest (all_learn (Heard now) n old.members) (nodes_changed (Heard now) n old.members)
    (go (heard_from now n old) new rest leads keep (some_changed (Heard now) n old.members some))
go old new (LinkFailed n ∷ rest) (can, leads) keep some =
    of_same old new rest (all_learn GivenUp n old.members) (nodes_changed GivenUp n old.members)
    (go (after 0 (PeerDown n) old) new rest leads keep (some_changed GivenUp n old.members some))
go old new (TaskDone now neighbours (Hello n) ∷ rest) (is, leads) keep some =
    of_same old new rest (all_learn Greeted n old.members) (nodes_changed Greeted n old.members)
    (go (after now (Hello n) old) new rest leads keep (some_changed Greeted n old.members some))
go old new (TaskDone now neighbours (PeerDown n) ∷ rest) (is, leads) keep some =
    of_same old new rest (all_learn GivenUp n old.members) (nodes_changed GivenUp n old.members)
    (go (after now (PeerDown n) old) new rest leads keep (some_changed GivenUp n old.members some))
go old new (TaskDone now neighbours (Join n) ∷ rest) (is, leads) keep some =
    of_same old new rest (all_learn (Tried now) n old.members) (nodes_changed (Tried now) n old.members)
    (go (after now (Join n) old) new rest leads keep (some_changed (Tried now) n old.members some))
go old new (TaskDone now neighbours Tick ∷ rest) (is, leads) keep some =
    let later = go (after now Tick old) new rest leads keep some in
    let free = ap one_if (tick_free now neighbours old is).1 in
    let owed = ap one_if (lt-ltb 0 (length old.members) some) in
    (later.0, omega (arith, later.1, free, owed))
go old new (TaskDone now neighbours (BeginExchange n) ∷ rest) (is, leads) keep some =
    let later = go (after now (BeginExchange n) old) new rest leads keep some in
    let owed = exchange_owed now neighbours old n is in
    let one = ap one_if owed.0 in
    let count = length-map old.members (λ (m : Member). m.node) in
    let others = later.0 ∙ ap (λ (k : ℕ). round_from (length (partners_in rest)) (next_place k old.partner) (nodes_of old.members)) (sym count) in (
      ap (λ (ns : List ℕ). n ∷ ns) others ∙ ap (λ (k : ℕ). k ∷ round_from (length (partners_in rest)) (next_place (length (nodes_of old.members)) old.partner) (nodes_of old.members)) (sym owed.1),
      omega (arith, later.1, one),
    )

pub exchanges_go_round : ExchangesGoRound
exchanges_go_round old new changes leads keep some = go old new changes leads keep some

-- ---- joins

abbrev AreInTurn : PlanParts → List PlanChange → Type 0
AreInTurn old changes = contacts_in changes ≡ round_from (length (contacts_in changes)) old.contact (nodes_of old.members)

with_same : (old : PlanParts) (changes : List PlanChange) (members : List Member) → nodes_of members ≡ nodes_of old.members
    → AreInTurn (record old { members = members }) changes → AreInTurn old changes
with_same old changes members same turn =
    subst (λ (ns : List ℕ). contacts_in changes ≡ round_from (length (contacts_in changes)) old.contact ns) same turn

pub joins_go_round : JoinsGoRound
joins_go_round old new [] leads keep = refl
joins_go_round old new (MemberAdded now n ∷ rest) leads keep = absurd keep
joins_go_round old new (MemberRemoved n ∷ rest) leads keep = absurd keep
joins_go_round old new (FrameCame now n ∷ rest) (can, leads) keep =
    with_same old rest (all_learn (Heard now) n old.members) (nodes_changed (Heard now) n old.members) (joins_go_round (heard_from now n old) new rest leads keep)
joins_go_round old new (LinkFailed n ∷ rest) (can, leads) keep =
    with_same old rest (all_learn GivenUp n old.members) (nodes_changed GivenUp n old.members) (joins_go_round (after 0 (PeerDown n) old) new rest leads keep)
joins_go_round old new (TaskDone now neighbours (Hello n) ∷ rest) (is, leads) keep =
    with_same old rest (all_learn Greeted n old.members) (nodes_changed Greeted n old.members) (joins_go_round (after now (Hello n) old) new rest leads keep)
joins_go_round old new (TaskDone now neighbours (PeerDown n) ∷ rest) (is, leads) keep =
    with_same old rest (all_learn GivenUp n old.members) (nodes_changed GivenUp n old.members) (joins_go_round (after now (PeerDown n) old) new rest leads keep)
joins_go_round old new (TaskDone now neighbours Tick ∷ rest) (is, leads) keep = joins_go_round (after now Tick old) new rest leads keep
joins_go_round old new (TaskDone now neighbours (BeginExchange n) ∷ rest) (is, leads) keep = joins_go_round (after now (BeginExchange n) old) new rest leads keep
joins_go_round old new (TaskDone now neighbours (Join n) ∷ rest) (is, leads) keep =
    let later : contacts_in rest ≡ round_from (length (contacts_in rest)) (next_place (length old.members) old.contact) (nodes_of old.members) =
    subst (λ (ns : List ℕ). contacts_in rest ≡ round_from (length (contacts_in rest)) (next_place (length old.members) old.contact) ns)
    (nodes_changed (Tried now) n old.members) (joins_go_round (after now (Join n) old) new rest leads keep) in
    let due = join_due now neighbours old n is in
    let first = node_there old.members old.contact due.member due.there ∙ due.its_node in
    let count = length-map old.members (λ (m : Member). m.node) in
    let others = later ∙ ap (λ (k : ℕ). round_from (length (contacts_in rest)) (next_place k old.contact) (nodes_of old.members)) (sym count) in
    ap (λ (ns : List ℕ). n ∷ ns) others ∙ ap (λ (k : ℕ). k ∷ round_from (length (contacts_in rest)) (next_place (length (nodes_of old.members)) old.contact) (nodes_of old.members)) (sym first)

-- ---- joins come first

few_changed : (few : ℕ) (change : MemberChange) (n : ℕ) (members : List Member) → are_few few members ≡ true → are_few few (all_learn change n members) ≡ true
few_changed few change n members is = subst (λ (k : ℕ). nat_lt few (min 3 k) ≡ true) (sym (length-map members (learn change n))) is

for_join : (members : List Member) (at : ℕ) (task : Task) → IsJoinOf (slice_get members at) task → IsForJoin (number_at (nodes_of members) at) task
for_join members at task is =
    elim is [
      | Greets k there greeted says ↦ subst (IsForJoin (number_at (nodes_of members) at)) (sym says) (sym (node_there members at k there))
      | Joins k there greeted says ↦ subst (IsForJoin (number_at (nodes_of members) at)) (sym says) (sym (node_there members at k there))
    ]

abbrev Waits : PlanParts → Task → Type 0
Waits p task = IsForJoin (number_at (nodes_of p.members) p.contact) task

through_same : (p : PlanParts) (members : List Member) (task : Task) → nodes_of members ≡ nodes_of p.members → Waits (record p { members = members }) task → Waits p task
through_same p members task same waits = subst (λ (ns : List ℕ). IsForJoin (number_at ns p.contact) task) same waits

wait : (p new : PlanParts) (between : List PlanChange) (later few : ℕ) (task : Task) → Leads p (between ++ TaskDone later few task ∷ []) new → KeepMembers between
    → contacts_in between ≡ [] → p.owes_join ≡ true → are_few few p.members ≡ true → Waits p task
wait p new [] later few task (is, leads) keep none owes are = for_join p.members p.contact task (joining_first later few p task is (and_from _ _ owes are))
wait p new (MemberAdded now n ∷ between) later few task leads keep none owes are = absurd keep
wait p new (MemberRemoved n ∷ between) later few task leads keep none owes are = absurd keep
wait p new (FrameCame now n ∷ between) later few task (can, leads) keep none owes are =
    through_same p (all_learn (Heard now) n p.members) task (nodes_changed (Heard now) n p.members)
    (wait (heard_from now n p) new between later few task leads keep none owes (few_changed few (Heard now) n p.members are))
wait p new (LinkFailed n ∷ between) later few task (can, leads) keep none owes are =
    through_same p (all_learn GivenUp n p.members) task (nodes_changed GivenUp n p.members)
    (wait (after 0 (PeerDown n) p) new between later few task leads keep none owes (few_changed few GivenUp n p.members are))
wait p new (TaskDone now neighbours (Hello n) ∷ between) later few task (is, leads) keep none owes are =
    through_same p (all_learn Greeted n p.members) task (nodes_changed Greeted n p.members)
    (wait (after now (Hello n) p) new between later few task leads keep none owes (few_changed few Greeted n p.members are))
wait p new (TaskDone now neighbours (PeerDown n) ∷ between) later few task (is, leads) keep none owes are =
    through_same p (all_learn GivenUp n p.members) task (nodes_changed GivenUp n p.members)
    (wait (after now (PeerDown n) p) new between later few task leads keep none owes (few_changed few GivenUp n p.members are))
wait p new (TaskDone now neighbours Tick ∷ between) later few task (is, leads) keep none owes are =
    wait (after now Tick p) new between later few task leads keep none refl are
wait p new (TaskDone now neighbours (BeginExchange n) ∷ between) later few task (is, leads) keep none owes are =
    wait (after now (BeginExchange n) p) new between later few task leads keep none owes are
wait p new (TaskDone now neighbours (Join n) ∷ between) later few task (is, leads) keep none owes are = absurd (cc)

pub joins_come_first : JoinsComeFirst
joins_come_first old new between now neighbours later few task (is, leads) keep none are =
    wait (after now Tick old) new between later few task leads keep none refl are
