pub mod Pairs
pub mod Keys
