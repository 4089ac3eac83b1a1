pub mod Batched
pub mod Kept
pub mod Lasting
pub mod LastingAll
pub mod Served
