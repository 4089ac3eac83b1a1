use Rattle.std.proofs.Common.{◌≡◌, ℕ, Option, rules, ap, subst, ◌∙◌}
use Rattle.meta_store.specs.Table.{Table}
use Rattle.node_events.specs.Event.{stored_key}
use Rattle.node_core.specs.Attempt.{committed, stepped_by}
use Rattle.node_core.specs.Node.{NodeParts}
use Rattle.node_core.specs.Step.{IsNodeStep}
use Rattle.node_file.specs.Stored.{record_under}
use Rattle.node_hosted.specs.Hosting.{HostedParts, MayStep, RefusesSpelling, next_gate}
use Rattle.node_hosted.proofs.Stopping.{refuses}
use Rattle.node_hosted.proofs.node.HostedNode.act_on.Goals as goal

pub returns-in-Err-join_record-clause-refused : goal.returns-in-Err-join_record-clause-refused
returns-in-Err-join_record-clause-refused c =
    let old = c.args.self.now in
    let event = c.args.event.now in
    let a = c.in_ok-attempt.attempt in
    let attempted = c.in_ok-attempt.ensures.attempt in
    let after = committed a c.attempt.new.self in
    let may : MayStep old = search rules in
    let state_is = ap (λ (n : HostedParts). n.state) c.self.view_is in
    let step = subst (λ (s : NodeParts). IsNodeStep s event after (stepped_by a)) state_is attempted.step in
    let of : Option ℕ → Table → Type 0 = λ gate held. RefusesSpelling gate (record_under (stored_key event) held) c.in-Err-join_record.fault in
    let gate_is = ap (λ (n : HostedParts). next_gate n) c.self.view_is in
    let table_is : c.store.result.now ≡ after.table = c.store.ensures ∙ attempted.table in
    let why : of (next_gate old) after.table = subst (λ t. of (next_gate old) t) table_is (subst (λ g. of g c.store.result.now) gate_is c.in-Err-join_record.ensures.refused) in
    refuses old _ event after (stepped_by a) c.in-Err-join_record.fault may step why (search rules)
