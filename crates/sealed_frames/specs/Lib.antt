-- What must be believed of sealed frames, in the order in which to read it. SHA-256 comes from the
-- crate below.
pub use Rattle.sha2.specs.Sha256
-- HMAC, by its standard
pub mod Hmac
-- the seal of a frame, and which bytes open
pub mod Seal
-- the keys that bytes are
pub mod Keys
-- bytes that open though nobody sealed them
pub mod Forged
-- the number and the name of a refusal
pub mod Fault
