pub mod Refusals
pub mod Sections
