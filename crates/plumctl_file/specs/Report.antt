-- What `plumctl file` prints of a node's file: a rule of this project.
use Rattle.std.specs.Prelude.{ℕ, Bool, nat_eq, nat_lt, if◌then◌else◌, List, [], ◌++◌, length, take, is_none, Option, Some, None, codes, decimal}
use Rattle.std.specs.List.{flat_map}
use Rattle.dvvset.specs.Object.{Entry}
use Rattle.meta_types.specs.Name.{Key}
use Rattle.meta_store.specs.Table.{Table}
use Rattle.node_file.specs.declared.fault.FileFault.{FileFault}
use Rattle.node_file.specs.declared.fault.FileFault.TheVariants.{Damaged}
use Rattle.node_file.specs.Fault.{code_of, fault_name}
use Rattle.node_file.specs.File.{version_of}
use Rattle.printing.specs.Field.{key_text}
use Rattle.printing.specs.Object.{object_text}
use Rattle.scenario_commands.specs.Meaning.{root_text}
use Rattle.scenario_commands.specs.Printed.{line}

-- as `node 0 life 1 keys 2`
abbrev pub node_line : (node life keys : ℕ) → List ℕ
node_line node life keys = line (codes "node " ++ decimal node ++ codes " life " ++ decimal life
    ++ codes " keys " ++ decimal keys)

-- as `key a/b/k ctx 0.1:1 values x`
abbrev pub key_line : Key × List Entry → List ℕ
key_line row = line (codes "key " ++ key_text row.0 ++ codes " " ++ object_text row.1)

-- of a file: its node and last life, each key in order, and the root that `root N` of a scenario
-- prints of the same table
unfoldable pub report_text : (node life : ℕ) → Table → List ℕ
report_text node life table = node_line node life (length table) ++ flat_map key_line table
    ++ line (root_text table)

-- where a file is damaged
abbrev pub place_text : FileFault → List ℕ
place_text (Damaged at) = codes " at " ++ decimal at
place_text fault = []

-- as `error 31 Damaged at 10`
unfoldable pub refusal_line : FileFault → List ℕ
refusal_line fault = line (codes "error " ++ decimal (code_of fault) ++ codes " "
    ++ fault_name fault ++ place_text fault)

-- what is said at standard error of a file whose closed gate shows that it was changed, by the
-- offset of the gate
unfoldable pub warning_of : Option ℕ → List ℕ
warning_of None = []
warning_of (Some gate) = line (codes "warning: the gate at " ++ decimal gate ++ codes
    " may have been changed on the disk: whole records stand behind it, and are not read")

-- no node file begins so: there are no bytes; or there are enough for a front and a gate, and the
-- first eight are no magic
abbrev pub begins_otherwise : List ℕ → Bool
begins_otherwise bytes =
    if nat_lt (length bytes) 11
    then nat_eq (length bytes) 0
    else is_none (version_of (take 8 bytes))
