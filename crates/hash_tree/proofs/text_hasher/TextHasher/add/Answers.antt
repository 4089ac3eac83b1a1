use Rattle.std.proofs.Common.{refl}
use Rattle.hash_tree.proofs.Taken.{taken_more}
use Rattle.hash_tree.proofs.text_hasher.TextHasher.add.Goals as goal

pub returns-in-Ok : goal.returns-in-Ok
returns-in-Ok c = λ text taken. taken_more c.args.self.now _ text c.args.piece.now taken refl c.in-Ok.ensures.ok
