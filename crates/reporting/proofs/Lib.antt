-- What the proofs of both reports share.
pub mod Telling
