use Rattle.meta_store.proofs.Tables.{same_table}
use Rattle.meta_store.proofs.laws.look_ups_determine_a_table.Goals as goal

pub returns : goal.returns
returns c = same_table
