pub mod Held
pub mod Lines
