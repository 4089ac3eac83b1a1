-- a test that goes along a list with rising ids
pub mod Rising
-- what a comparison answered
pub mod Answered
-- when lists are objects and vectors
pub mod Objects
-- the steps of a merge
pub mod Merging
-- objects of the same shape
pub mod Shapes
-- what a merge and a write do for each writer
pub mod Writers
-- the place of a writer
pub mod Places
-- vectors that descend others
pub mod Descending
-- values that an object shows
pub mod Showing
