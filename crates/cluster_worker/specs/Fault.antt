-- The numbers and names of refusals, and which refusals of a part they are.
use Rattle.std.specs.Prelude.{ℕ, List, codes}
use Rattle.node_file.specs.declared.fault.FileFault.{FileFault}
use Rattle.node_file.specs.declared.fault.FileFault.TheVariants as OfFile
use Rattle.node_file.specs.Fault as files
use Rattle.node_call.specs.declared.fault.LockFault.{LockFault}
use Rattle.node_call.specs.declared.fault.LockFault.TheVariants as OfNode
use Rattle.node_call.specs.Fault as nodes
use Rattle.cluster_worker.specs.declared.fault.ClusterFault.{ClusterFault}
use Rattle.cluster_worker.specs.declared.fault.ClusterFault.TheVariants.{BadLimit, File, Memory, Node, NoSuchNode, NoThread}

abbrev pub code_of : ClusterFault → ℕ
code_of (File fault) = files.code_of fault
code_of NoSuchNode = 44
code_of BadLimit = 55
code_of NoThread = 56
code_of (Node fault) = nodes.code_of fault
code_of Memory = 99

abbrev pub fault_name : ClusterFault → List ℕ
fault_name (File fault) = files.fault_name fault
fault_name NoSuchNode = codes "NoSuchNode"
fault_name BadLimit = codes "BadLimit"
fault_name NoThread = codes "NoThread"
fault_name (Node fault) = nodes.fault_name fault
fault_name Memory = codes "Memory"

-- the refusal of a file
abbrev pub of_file : FileFault → ClusterFault
of_file OfFile.Memory = Memory
of_file fault = File fault

-- the refusal of a node
abbrev pub of_node : LockFault → ClusterFault
of_node OfNode.Memory = Memory
of_node fault = Node fault
