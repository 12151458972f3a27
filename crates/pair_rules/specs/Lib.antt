pub mod Slots
pub mod Clearing
pub mod Judged
