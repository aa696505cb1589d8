-- What the proofs of the bytes of a case share.
pub mod Numerals
pub mod Pairs
pub mod Runs
