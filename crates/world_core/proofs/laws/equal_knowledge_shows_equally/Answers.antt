use Rattle.std.proofs.Common.{◌≡◌, ℕ, ◌<◌, length, subst}
use Rattle.meta_types.specs.Name.{Key}
use Rattle.hash_tree.specs.Tree.{rows_of, tree_root}
use Rattle.meta_store.specs.Table.{object_at}
use Rattle.past_model.specs.Past.{known}
use Rattle.world_core.specs.Refusal.{table_at}
use Rattle.world_core.specs.Invariant.{IsWholeWorld, IsWorld}
use Rattle.world_core.proofs.Outcomes.{world_of}
use Rattle.world_core.proofs.Shown.{equal_roots, equally, of_told}
use Rattle.world_core.proofs.laws.equal_knowledge_shows_equally.Goals as goal

pub returns-clause-objects : goal.returns-clause-objects
returns-clause-objects c =
    let is : IsWorld c.args.world.now = world_of c.args.world.now (subst IsWholeWorld c.world.view_is c.world.invariant) in
    of_told c.args.world.now is (λ t. (m n : ℕ) (key : Key) → m < length c.args.world.now.nodes → n < length c.args.world.now.nodes
    → ((place : ℕ) → known t.history m key place ≡ known t.history n key place)
    → object_at (table_at c.args.world.now m) key ≡ object_at (table_at c.args.world.now n) key) (equally c.args.world.now is)

pub returns-clause-roots : goal.returns-clause-roots
returns-clause-roots c =
    let is : IsWorld c.args.world.now = world_of c.args.world.now (subst IsWholeWorld c.world.view_is c.world.invariant) in
    of_told c.args.world.now is (λ t. (m n : ℕ) → m < length c.args.world.now.nodes → n < length c.args.world.now.nodes
    → ((key : Key) (place : ℕ) → known t.history m key place ≡ known t.history n key place)
    → tree_root (rows_of (table_at c.args.world.now m)) ≡ tree_root (rows_of (table_at c.args.world.now n))) (equal_roots c.args.world.now is)
