use Rattle.hash_tree.proofs.ByPrefix.{digested_without}
use Rattle.hash_tree.proofs.laws.forgetting_follows_the_table.Goals as goal

pub returns : goal.returns
returns c table key = digested_without key table
