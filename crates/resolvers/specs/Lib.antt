-- What must be believed of a choice among siblings.
pub mod Greatest
-- which order a rank names; only contracts of private functions cite it
pub mod Ranks
