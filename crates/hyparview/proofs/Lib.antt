-- the neighbours as the Ups and Downs tell them, and to whom messages go
pub mod Following
-- each row keeps the views lawful
pub mod Standing
