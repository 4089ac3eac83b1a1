use Rattle.std.proofs.Common.{◌≡◌, ℕ, List, [], ◌∷◌, ◌++◌, map, ap, ◌∙◌}
use Rattle.std.proofs.lemmas.List.{map_push, replicate_more}
use Rattle.std.proofs.lemmas.List.Elements.{All-push, All-same}
use Rattle.devices.specs.CallLog.{CallLog}
use Rattle.devices.specs.Calls.{content_after, CrashLeaves}
use Rattle.devices.specs.Device.{IsDurable}
use Rattle.cluster.specs.Run.{nothing_on}
use Rattle.cluster.proofs.run.memory_devices.Goals as goal

pub loop-node-preserved : goal.loop-node-preserved
loop-node-preserved c =
    let content : CallLog → List ℕ = λ m. content_after m.first m.calls in
    let durable : CallLog → Type 0 = λ m. IsDurable (content m) (CrashLeaves m.first m.calls) in
    let was = c.loop-node.invariant in
    let devices = c.loop-node.devices.items in
    let one = c.in_ok-new.field-0 in
    let more = c.in_ok-push.ensures.items in
    let nothing : content one ≡ [] = ap content c.in_ok-new.ensures.value ∙ c.new.ensures.items in record {
      empty = ap (map content) more
          ∙ (map_push content devices one
          ∙ (ap (λ l. l ++ content one ∷ []) was.empty
          ∙ (ap (λ b. nothing_on c.loop-node._node ++ b ∷ []) nothing ∙ replicate_more c.loop-node._node [])));
      durable = All-same durable c.push.new.self.items _ more
          (All-push durable devices one was.durable c.in_ok-new.ensures.durable);
    }
