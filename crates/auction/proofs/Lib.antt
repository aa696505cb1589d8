pub mod CrossOutcome
pub mod FigureSums
pub mod RefusalNumbers
pub mod Settlements
