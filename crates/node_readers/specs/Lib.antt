-- What must be believed of readers, in the order in which to read it. The contracts speak of
-- keys, objects, tables and which of them descend others, and of clocks too.
pub use Rattle.meta_types.specs.Name
pub use Rattle.dvvset.specs.Object
pub use Rattle.dvvset.specs.Clock
pub use Rattle.meta_store.specs.Table
pub use Rattle.node_core.specs.Growing
-- changes, and what they make of a table
pub mod Published
-- the list of all changes, and the word that stands for it
pub mod History
-- what is published only grows
pub mod Growth
-- what a seat and the publisher are, and why a look is refused
pub mod Views
-- the numbers of refusals
pub mod Fault
-- ---- not needed to believe the public contracts: the copies that readers take, how a table is
-- spread over buckets in them, and their rule
pub mod Spread
pub mod Copies
pub mod Rule
