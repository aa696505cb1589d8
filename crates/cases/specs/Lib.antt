-- What the bytes of a case are.
pub mod Digits
pub mod Lines
pub mod Runs
