pub mod Pricing
pub mod Text
