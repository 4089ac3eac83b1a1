use Rattle.std.proofs.Common.{[]}
use Rattle.hash_tree.proofs.Taken.{taken_all}
use Rattle.hash_tree.proofs.text_hasher.TextHasher.new.Goals as goal

pub returns : goal.returns
returns c = taken_all _ [] c.new.ensures c.new-2.ensures
