-- How the lives of nodes are begun, one device after the other.
use Rattle.std.proofs.Common.{◌≡◌, ◌+◌, inl, inr, ℕ, List, [], ◌∷◌, ◌++◌, length, map, slice_get, Some, None, sym, ap, subst, ◌∙◌, arith}
use Rattle.std.proofs.lemmas.Bool.{cases_lt}
use Rattle.std.proofs.lemmas.List.{append_assoc, length_push, map_push}
use Rattle.cluster_worker.specs.declared.fault.ClusterFault.{ClusterFault}
use Rattle.cluster_worker.specs.declared.fault.ClusterFault.TheVariants.{BadLimit, File, Memory, Node, NoSuchNode, NoThread}
use Rattle.cluster_worker.specs.Serving.{CanServeBefore, LifeView, RefusesServing, RefusesServingOne, file_bytes, life_on, lives_from, refusal_on}

-- one more life was begun, on the first device that was left
pub lives_on : {A : Type 0} (life : A → LifeView) (all : List A) (one : A) (bytes : List ℕ)
    (later : List (List ℕ)) → life one ≡ life_on (length all) bytes
    → map life (all ++ one ∷ []) ++ lives_from (length (all ++ one ∷ [])) later
    ≡ map life all ++ lives_from (length all) (bytes ∷ later)
lives_on life all one bytes later is =
    ap (λ n. map life (all ++ one ∷ []) ++ lives_from n later) (length_push all one)
    ∙ (ap (λ l. l ++ lives_from (length all + 1) later) (map_push life all one)
    ∙ (append_assoc (map life all) (life one ∷ []) (lives_from (length all + 1) later)
    ∙ ap (λ l. map life all ++ l ∷ lives_from (length all + 1) later) is))

-- a life can be begun on one device more
pub one_more_can : {D : Type 0} (content : D → List ℕ) (devices : List D) (begun : ℕ) (device : D)
    → slice_get devices begun ≡ Some device → refusal_on begun (content device) ≡ None
    → CanServeBefore content devices begun → CanServeBefore content devices (begun + 1)
one_more_can {D} content devices begun device there none before node other less at =
    elim (cases_lt node begun) [
      | inl lt ↦ before node other lt at
      | inr ge ↦ here (omega (arith, ge, less))
    ]
  where
    here : node ≡ begun → refusal_on node (content other) ≡ None
    here same =
        let one : Some other ≡ Some device = sym at ∙ (ap (slice_get devices) same ∙ there) in
        let is : other ≡ device = cc (one) in
        subst (λ n. refusal_on n (content other) ≡ None) (sym same)
        (subst (λ d. refusal_on begun (content d) ≡ None) (sym is) none)

-- the refusal of one device is the refusal of all
pub refused_at : {D : Type 0} (content : D → List ℕ) (failed : D → ℕ) (devices : List D)
    (node : ℕ) (device : D) (fault : ClusterFault)
    → slice_get devices node ≡ Some device → CanServeBefore content devices node
    → RefusesServing failed device node (file_bytes node (content device)) fault
    → RefusesServingOne content failed devices fault
refused_at content failed devices node device (File fault) there before refused = record {
  node = node;
  device = device;
  there = there;
  before = before;
  refused = refused;
}
refused_at content failed devices node device Memory there before refused = tt
refused_at content failed devices node device NoSuchNode there before refused = absurd refused
refused_at content failed devices node device BadLimit there before refused = absurd refused
refused_at content failed devices node device NoThread there before refused = absurd refused
refused_at content failed devices node device (Node fault) there before refused = absurd refused
