pub mod Steps
pub mod Start
pub mod Taking
pub mod Readings
