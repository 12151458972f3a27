pub mod Chains
pub mod Chained
pub mod Wanted
