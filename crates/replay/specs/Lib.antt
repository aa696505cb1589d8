pub mod Account
pub mod Performing
pub mod Promises
pub mod Replaying
pub mod Runs
