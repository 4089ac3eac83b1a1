use Rattle.hash_tree.proofs.ByPrefix.{digested_put}
use Rattle.hash_tree.proofs.laws.an_update_follows_a_change_of_the_table.Goals as goal

pub returns : goal.returns
returns c table key object = digested_put key object table
