-- What is run, and when it is refused at once.
use Rattle.std.specs.Prelude.{◌≤◌, ℕ, nat_eq, nat_lt, Bool, not, ◌||◌, [], ◌∷◌, Option}
use Rattle.meta_types.specs.First.{first_that_applies}
use Rattle.meta_types.specs.Node.{most_nodes}
use Rattle.node_desk.specs.Starting.{most_journal}
use Rattle.inbox.specs.Opening.{most_room}
use Rattle.cluster_worker.specs.declared.fault.ClusterFault.{ClusterFault}
use Rattle.cluster_worker.specs.declared.fault.ClusterFault.TheVariants.{BadLimit, NoSuchNode}
use Rattle.cluster_worker.specs.declared.plan.ClusterPlan.{ClusterPlan}
use Rattle.cluster_worker.specs.declared.plan.Limits.{Limits}

-- how many nodes a cluster may have
abbrev pub IsNodeCount : ℕ → Type 0
IsNodeCount n = (1 ≤ n) × (n ≤ most_nodes)

-- it isn't among the numbers from the first to the last
abbrev pub is_outside : ℕ → ℕ → ℕ → Bool
is_outside first last n = nat_lt n first || nat_lt last n

-- the first that applies, with `devices` devices: the cluster has no node or more than 16; a limit
-- is out of range, or the devices are not as many as the nodes
abbrev pub refusal_of_run : ClusterPlan → Limits → ℕ → Option ClusterFault
refusal_of_run plan limits devices = first_that_applies (
    (is_outside 1 most_nodes plan.nodes, NoSuchNode)
    ∷ (
      is_outside 1 most_room limits.inbox
          || (is_outside 1 most_journal limits.journal || not (nat_eq devices plan.nodes)),
      BadLimit,
    )
    ∷ [])

-- the greatest limits
abbrev pub largest : Limits
largest = record { inbox = most_room; journal = most_journal }
