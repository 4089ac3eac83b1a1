pub mod Gathered
pub mod Fresh
