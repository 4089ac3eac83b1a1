-- What an accepted call returns.
use Rattle.std.specs.Prelude.{◌≡◌, ℕ, List, true}
use mathlib.Core.List.{IsPrefix}
use Rattle.meta_types.specs.Name.{Key}
use Rattle.meta_types.specs.Value.{ValueParts}
use Rattle.dvvset.specs.Clock.{descends, join}
use Rattle.dvvset.specs.Object.{Counter}
use Rattle.meta_store.specs.Table.{Table, object_at}
use Rattle.node_events.specs.declared.reply.Reply.TheVariants.{Wrote}
use Rattle.node_journal.specs.declared.receipt.Receipt.{Receipt}
use Rattle.node_readers.specs.Published.{Published, with_all}
use Rattle.node_readers.specs.Growth.{DescendsEach}
use Rattle.node_call.specs.Journaled.{EndsWith}

-- its receipt, and all that was published up to it
pub record Acknowledged : Type 0 where
  pub receipt : Receipt
  pub list : List Published

-- a vector that knows all that was known under the key after each change that a seat was shown,
-- among them those that it learnt of from a write, descends the vector that the write was answered
abbrev pub LearntWritesAreKnown : Type 0
LearntWritesAreKnown = (w : ℕ) (key : Key) (value : ValueParts) (answered vector : List Counter)
    (opening : Table) (list learnt shown : List Published)
    → EndsWith w key value (Wrote answered) list → IsPrefix list learnt → IsPrefix learnt shown
    → DescendsEach opening shown key vector → descends vector answered ≡ true

-- a vector that knows all that was known under the key after each change that a seat was shown,
-- among them those that it learnt of from a call, descends what the node held under the key after
-- that call
abbrev pub LearntCallsAreKnown : Type 0
LearntCallsAreKnown = (key : Key) (vector : List Counter) (opening held : Table)
    (list learnt shown : List Published)
    → with_all opening list ≡ held → IsPrefix list learnt → IsPrefix learnt shown
    → DescendsEach opening shown key vector
    → descends vector (join (object_at held key)) ≡ true
