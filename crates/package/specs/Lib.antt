pub mod Judging
pub mod Elements
pub mod Taking
pub mod Readings
