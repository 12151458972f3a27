pub mod Finding
pub mod Walking
pub mod Lows
pub mod Starts
pub mod Filling
