-- A write in a world is a step of its node, and leaves the eager peers of each node as they are.
use Rattle.std.proofs.Common.{◌≡◌, ℕ, ◌<◌, length, Ok, refl, sym, subst}
use Rattle.meta_types.specs.Name.{Key}
use Rattle.meta_types.specs.Value.{ValueParts}
use Rattle.node_events.specs.declared.event.NodeEvent.{NodeEvent}
use Rattle.node_events.specs.declared.event.NodeEvent.TheVariants as OfNode
use Rattle.restart_images.specs.Node.{ImagedNode}
use Rattle.world_core.specs.declared.answer.Answer.{Answer}
use Rattle.world_core.specs.declared.event.Event.{Event}
use Rattle.world_core.specs.declared.event.Event.TheVariants as events
use Rattle.world_core.specs.Numbers.{numbered}
use Rattle.world_core.specs.Outcome.{MakesStep, Outcome}
use Rattle.world_core.specs.Refusal.{node_at}
use Rattle.world_core.specs.World.{World}
use Rattle.world_core.proofs.Refusing.{has_node}
use Rattle.agreement.specs.Broadcast.{IsWriteOf, eager_of}
use Rattle.agreement.proofs.Gossiping.{Writes, puts, writes as wrote}
use Rattle.agreement.proofs.Moving.{as_many, at_each}

module _ (before first : World) where
  -- a node wrote under a key
  pub record Wrote (n : ℕ) (k : Key) (answer : Answer) : Type 0 where
    pub step : NodeEvent
    pub makes : MakesStep before n step answer first
    pub low : n < length before.nodes
    pub writes : Writes (node_at before n).state makes.state makes.given k

  pub wrote_by : (n : ℕ) (k : Key) (v : ValueParts) (event : Event) (answer : Answer) → IsWriteOf n k v event → Outcome before event (Ok answer) first → Wrote n k answer
  unfolding Outcome
  wrote_by n k v (events.Step m (OfNode.Write l u context)) answer is accepts =
      let makes : MakesStep before m (OfNode.Write l u context) answer first = accepts.makes in
      subst (λ i. Wrote i k answer) is.0 (subst (λ x. Wrote m x answer) is.1.0 (record {
        step = OfNode.Write l u context;
        makes = makes;
        low = has_node before (events.Step m (OfNode.Write l u context)) accepts.no_refusal;
        writes = wrote (node_at before m).state makes.state l u context makes.given makes.makes;
      }))
  wrote_by n k v (events.Step m (OfNode.PutOver l u)) answer is accepts =
      let makes : MakesStep before m (OfNode.PutOver l u) answer first = accepts.makes in
      subst (λ i. Wrote i k answer) is.0 (subst (λ x. Wrote m x answer) is.1.0 (record {
        step = OfNode.PutOver l u;
        makes = makes;
        low = has_node before (events.Step m (OfNode.PutOver l u)) accepts.no_refusal;
        writes = puts (node_at before m).state makes.state l u makes.given makes.makes;
      }))
  wrote_by n k v (events.Put m l u read) answer is accepts =
      let makes : MakesStep before m (OfNode.Write l u (numbered before.contexts read)) answer first = accepts.makes in
      subst (λ i. Wrote i k answer) is.0 (subst (λ x. Wrote m x answer) is.1.0 (record {
        step = OfNode.Write l u (numbered before.contexts read);
        makes = makes;
        low = has_node before (events.Put m l u read) accepts.no_refusal;
        writes = wrote (node_at before m).state makes.state l u (numbered before.contexts read) makes.given makes.makes;
      }))
  wrote_by n k v _ answer is accepts = absurd is

  -- the writer is a node of the world
  pub writer_low : (n : ℕ) (k : Key) (v : ValueParts) (event : Event) (answer : Answer) → IsWriteOf n k v event → Outcome before event (Ok answer) first → n < length first.nodes
  writer_low n k v event answer is accepts =
      let o : Wrote n k answer = wrote_by n k v event answer is accepts in
      subst (λ c. n < c) (sym (as_many before first n answer o.step o.makes o.low)) o.low

  -- each node's eager peers stay
  pub peers_stay : (n : ℕ) (k : Key) (v : ValueParts) (event : Event) (answer : Answer) → IsWriteOf n k v event → Outcome before event (Ok answer) first
      → (m : ℕ) → eager_of first m ≡ eager_of before m
  peers_stay n k v event answer is accepts =
      let o : Wrote n k answer = wrote_by n k v event answer is accepts in
      at_each before first n answer o.step o.makes o.low (λ m (i : ImagedNode). i.state.overlay.cast.eager ≡ eager_of before m) o.writes.spreads.eager (λ m. refl)
