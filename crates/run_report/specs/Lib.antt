pub mod Answers
pub mod Decimals
pub mod Lines
pub mod Sessions
pub mod Text
