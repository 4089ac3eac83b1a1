-- New devices in memory hold nothing that is refused.
use Rattle.std.proofs.Common.{zero, suc, ◌+◌, ◌≡◌, ◌<◌, ◌≤◌, ℕ, Bool, true, false, List, [], ◌∷◌, length, map, not, nat_eq, replicate, slice_get, option_map, None, Some, refl, sym, ap, subst, ◌∙◌, arith, ⊎_elim}
use Rattle.std.specs.List.{range_with_len}
use Rattle.std.proofs.lemmas.Bool.{eq-eqb}
use Rattle.std.proofs.lemmas.List.{get_or-replicate, length-map, length-replicate}
use Rattle.std.proofs.lemmas.Option.{slice_get-get_or, slice_get-map, slice_get_within}
use Rattle.meta_types.specs.First.{first_that_applies}
use Rattle.node_file.specs.File.{FileState, empty_file, file_state, new_state}
use Rattle.node_file.specs.Refusal.{refusal_of_serve}
use Rattle.cluster_worker.specs.Plan.{is_outside, largest, refusal_of_run}
use Rattle.cluster.specs.Run.{RefusesNewRun, RefusesRun}
use Rattle.cluster_worker.specs.Serving.{file_bytes, first_lives, life_of, life_on, lives_from}
use Rattle.cluster_worker.specs.declared.fault.ClusterFault.{ClusterFault}
use Rattle.cluster_worker.specs.declared.fault.ClusterFault.TheVariants.{BadLimit, File, Memory, Node, NoSuchNode, NoThread}
use Rattle.cluster_worker.specs.declared.plan.ClusterPlan.{ClusterPlan}
use Rattle.cluster_worker.specs.declared.plan.Limits.{Limits}
use Rattle.cluster.proofs.Gathered.{inboxes_within}

-- an empty file that was made for a node can be served; it was in no life, and holds nothing
abbrev pub ServesEmpty : Type 0
ServesEmpty = (node : ℕ) → node < 16 → (refusal_of_serve (Some node) (empty_file node) ≡ None)
    × (file_state (empty_file node) ≡ new_state node 0 [])

-- so new devices begin first lives
first_from : ServesEmpty → (node nodes : ℕ) → node + nodes ≤ 16
    → lives_from node (replicate nodes [])
    ≡ map (λ n. life_of n 1 []) (range_with_len node nodes)
first_from serves node zero few = refl
first_from serves node (suc nodes) few =
    let here : life_on node [] ≡ life_of node 1 [] =
    ap (λ (s : FileState). life_of node (s.contents.life + 1) s.contents.table) (serves node (omega (arith, few))).1 in
    ap (λ l. l ∷ lives_from (node + 1) (replicate nodes [])) here
    ∙ ap (λ l. life_of node 1 [] ∷ l) (first_from serves (node + 1) nodes (omega (arith, few)))

pub first_on : ServesEmpty → (nodes : ℕ) → nodes ≤ 16
    → lives_from 0 (replicate nodes []) ≡ first_lives nodes
first_on serves nodes few = first_from serves 0 nodes (omega (arith, few))

-- of so many devices that hold nothing, each holds nothing
pub holds_nothing : {D : Type 0} (content : D → List ℕ) (devices : List D) (count node : ℕ)
    (device : D) → map content devices ≡ replicate count [] → slice_get devices node ≡ Some device
    → (content device ≡ []) × (node < count)
holds_nothing content devices count node device is there =
    let none : List ℕ = [] in
    let number : length devices ≡ count =
    sym (length-map devices content) ∙ (ap length is ∙ length-replicate count none) in
    let low : node < count = omega (arith, slice_get_within devices node device there, number) in
    let here : slice_get (map content devices) node ≡ Some (content device) =
    slice_get-map content devices node ∙ ap (option_map content) there in
    let within : node < length (replicate count none) = omega (arith, low, length-replicate count none) in
    let there_too : slice_get (replicate count none) node ≡ Some none =
    slice_get-get_or (replicate count none) node none within ∙ ap Some (get_or-replicate count node none none low) in
    let same : Some (content device) ≡ Some none =
    sym here ∙ (ap (λ l. slice_get l node) is ∙ there_too) in
    (cc (same), low)

bad_limit : (b c : Bool) → c ≡ false
    → first_that_applies ((b, NoSuchNode) ∷ (c, BadLimit) ∷ []) ≡ Some BadLimit → ⊥
bad_limit true c is found = absurd (cc (found))
bad_limit false true is found = absurd (cc (is))
bad_limit false false is found = absurd (cc (found))

counted : {D : Type 0} (content : D → List ℕ) (plan : ClusterPlan) (devices : List D)
    → map content devices ≡ replicate plan.nodes [] → length devices ≡ plan.nodes
counted content plan devices is =
    let none : List ℕ = [] in
    sym (length-map devices content) ∙ (ap length is ∙ length-replicate plan.nodes none)

refused_new : {D : Type 0} (content : D → List ℕ) (failed : D → ℕ) (plan : ClusterPlan)
    (devices : List D) (fault : ClusterFault) → ServesEmpty → map content devices ≡ replicate plan.nodes []
    → ((d : D) → failed d ≡ 0) → RefusesRun content failed plan largest devices fault
    → RefusesNewRun plan fault
refused_new content failed plan devices (File fault) serves is still refused =
    let within = inboxes_within plan largest plan.nodes (subst (λ n. refusal_of_run plan largest n ≡ None) (counted content plan devices is) refused.0) in
    let one = refused.1 in
    let nothing = holds_nothing content devices plan.nodes one.node one.device is one.there in
    let low : one.node < 16 = omega (arith, nothing.1, within.0.1) in
    ⊎_elim
    (λ failing. ⊎_elim
    (λ less. omega (arith, less, still one.device, still one.refused.left))
    (λ most. omega (arith, most, still one.device))
    failing.1.1)
    (λ other.
    let here = subst (λ b. refusal_of_serve (Some one.node) (file_bytes one.node b) ≡ Some fault) nothing.0 other in
    let clash : None ≡ Some fault = sym (serves one.node low).0 ∙ here in
    absurd (cc))
    one.refused.cause
refused_new content failed plan devices NoSuchNode serves is still refused =
    subst (λ n. refusal_of_run plan largest n ≡ Some NoSuchNode) (counted content plan devices is) refused
refused_new content failed plan devices BadLimit serves is still refused =
    let here = subst (λ n. refusal_of_run plan largest n ≡ Some BadLimit) (counted content plan devices is) refused in
    bad_limit (is_outside 1 16 plan.nodes) (not (nat_eq plan.nodes plan.nodes)) (ap not (eq-eqb plan.nodes plan.nodes refl)) here
refused_new content failed plan devices NoThread serves is still can =
    subst (λ n. refusal_of_run plan largest n ≡ None) (counted content plan devices is) can.none
refused_new content failed plan devices (Node fault) serves is still refused =
    (subst (λ n. refusal_of_run plan largest n ≡ None) (counted content plan devices is) refused.0.none, refused.1)
refused_new content failed plan devices Memory serves is still none =
    subst (λ n. refusal_of_run plan largest n ≡ None) (counted content plan devices is) none

-- with the largest limits
pub refused_largest : {D : Type 0} (content : D → List ℕ) (failed : D → ℕ) (plan : ClusterPlan)
    (limits : Limits) (devices : List D) (fault : ClusterFault) → ServesEmpty
    → map content devices ≡ replicate plan.nodes [] → ((d : D) → failed d ≡ 0)
    → limits ≡ largest → RefusesRun content failed plan limits devices fault
    → RefusesNewRun plan fault
refused_largest content failed plan limits devices fault serves is still same refused =
    refused_new content failed plan devices fault serves is still
    (subst (λ l. RefusesRun content failed plan l devices fault) same refused)
