pub mod Causes
pub mod CauseText
pub mod Prices
pub mod Orders
pub mod Ranges
pub mod Calls
pub mod RankingNames
