pub mod Groups
pub mod Classless
