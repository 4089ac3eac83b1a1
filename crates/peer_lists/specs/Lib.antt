-- What must be believed of lists of peers.
-- words on ordered lists: who comes, who leaves, and the random choices
pub mod Lists
