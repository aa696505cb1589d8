pub mod Accounts
pub mod Bounds
pub mod Deliveries
pub mod Folding
pub mod HeldCalls
pub mod Replays
