-- A reader and a writer, each at a moment of a run.
use Rattle.std.specs.Prelude.{ℕ, List, Option}
use Rattle.streams.specs.Fault.{Failed}

-- a reader at a moment: whether a read of it has failed, and what is left to read, if that is known
pub record SourceAt : Type 1 where
  pub failed : Type 0
  pub remaining : Option (List ℕ)

-- a writer at a moment: the kinds of error that its calls have returned, whether it holds nothing
-- back, and what it holds, if that is known
pub record SinkAt : Type 1 where
  pub failed : Failed
  pub passed_on : Type 0
  pub contents : Option (List ℕ)
