-- How the lives of nodes are begun in their devices.
use Rattle.std.specs.Prelude.{◌≡◌, ◌≢◌, ◌⊎◌, ◌+◌, ◌<◌, ℕ, List, [], ◌∷◌, length, map, slice_get, Option, Some, None}
use Rattle.std.specs.List.{range_with_len}
use Rattle.devices.specs.Device.{HasFailed}
use Rattle.meta_store.specs.Table.{Table}
use Rattle.node_file.specs.File.{empty_file, file_state}
use Rattle.node_file.specs.Refusal.{refusal_of_serve}
use Rattle.node_file.specs.View.{FileView}
use Rattle.node_file.specs.declared.fault.FileFault.{FileFault}
use Rattle.node_file.specs.declared.fault.FileFault.TheVariants as OfFile
use Rattle.node_desk.specs.Starting.{IsFileOf}
use Rattle.cluster_worker.specs.declared.fault.ClusterFault.{ClusterFault}
use Rattle.cluster_worker.specs.declared.fault.ClusterFault.TheVariants.{File, Memory}

-- a life of a node: which node, its incarnation, and the table that it opened with
pub record LifeView : Type 0 where
  pub node : ℕ
  pub incarnation : ℕ
  pub opened : Table

abbrev pub life_of : ℕ → ℕ → Table → LifeView
life_of node incarnation opened =
    record { node = node; incarnation = incarnation; opened = opened }

-- the first lives of `nodes` nodes, which hold nothing
abbrev pub first_lives : ℕ → List LifeView
first_lives nodes = map (λ node. life_of node 1 []) (range_with_len 0 nodes)

-- the bytes of the node's file on a device that held these: on an empty one an empty file is made
abbrev pub file_bytes : ℕ → List ℕ → List ℕ
file_bytes node [] = empty_file node
file_bytes node (byte ∷ bytes) = byte ∷ bytes

-- the life that is begun in the node's file of these bytes
abbrev pub next_life : ℕ → List ℕ → LifeView
next_life node bytes =
    life_of node ((file_state bytes).contents.life + 1) (file_state bytes).contents.table

-- the life that is begun on a device that held these
abbrev pub life_on : ℕ → List ℕ → LifeView
life_on node bytes = next_life node (file_bytes node bytes)

-- the lives of the nodes from this number on, on devices that held these bytes
abbrev pub lives_from : ℕ → List (List ℕ) → List LifeView
lives_from node [] = []
lives_from node (bytes ∷ later) = life_on node bytes ∷ lives_from (node + 1) later

-- the life that was begun in a file which holds this table
abbrev pub life_of_file : {D : Type 0} → FileView D → Table → LifeView
life_of_file file held = life_of file.node file.life held

-- the file is that of the life which was begun in it, and holds this table
abbrev pub IsServed : {D : Type 0} → (D → List ℕ) → FileView D → Table → Type 0
IsServed content file held = IsFileOf content file.node file.life held file

-- ---- when a life isn't begun

-- why the node is refused a file of these bytes, or the one that is made if there are none
abbrev pub refusal_on : ℕ → List ℕ → Option FileFault
refusal_on node bytes = refusal_of_serve (Some node) (file_bytes node bytes)

-- a life can be begun on each of the first `end` devices
abbrev pub CanServeBefore : {D : Type 0} → (D → List ℕ) → List D → ℕ → Type 0
CanServeBefore {D} content devices end = (node : ℕ) (device : D) → node < end
    → slice_get devices node ≡ Some device → refusal_on node (content device) ≡ None

-- a life can be begun on each device
abbrev pub CanServeAll : {D : Type 0} → (D → List ℕ) → List D → Type 0
CanServeAll content devices = CanServeBefore content devices (length devices)

-- the device failed, or the node's file of these bytes is refused; memory that runs out is another
-- refusal
pub record CannotServe {D : Type 0} (failed : D → ℕ) (device : D) (node : ℕ) (bytes : List ℕ)
    (fault : FileFault) : Type 0 where
  pub another : fault ≢ OfFile.Memory
  pub left : D
  pub cause : ((fault ≡ OfFile.Device) × HasFailed (failed device) (failed left))
      ⊎ (refusal_of_serve (Some node) bytes ≡ Some fault)

abbrev pub RefusesServing : {D : Type 0} → (D → ℕ) → D → ℕ → List ℕ → ClusterFault → Type 0
RefusesServing failed device node bytes (File fault) = CannotServe failed device node bytes fault
RefusesServing failed device node bytes Memory = Unit {0}
RefusesServing failed device node bytes fault = ⊥

-- no life is begun on the device at some place, and one can be begun on each before it
pub record CannotServeOne {D : Type 0} (content : D → List ℕ) (failed : D → ℕ) (devices : List D)
    (fault : FileFault) : Type 0 where
  pub node : ℕ
  pub device : D
  pub there : slice_get devices node ≡ Some device
  pub before : CanServeBefore content devices node
  pub refused : CannotServe failed device node (file_bytes node (content device)) fault

abbrev pub RefusesServingOne : {D : Type 0} → (D → List ℕ) → (D → ℕ) → List D → ClusterFault
    → Type 0
RefusesServingOne content failed devices (File fault) = CannotServeOne content failed devices fault
RefusesServingOne content failed devices Memory = Unit {0}
RefusesServingOne content failed devices fault = ⊥
