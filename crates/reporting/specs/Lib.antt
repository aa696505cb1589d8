pub mod Sessions
pub mod Told
pub mod Appending
