-- passes of one inbox
pub mod Passes
