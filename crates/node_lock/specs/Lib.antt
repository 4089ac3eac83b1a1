-- what a call of a node returns
pub mod Call
