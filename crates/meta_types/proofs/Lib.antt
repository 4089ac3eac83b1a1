-- the comparisons of specs/Order answer `Less` exactly if one stands before the other
pub mod Comparing
-- heads that differ compare as the byte strings do
pub mod Heads
