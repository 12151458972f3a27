pub mod Bit
pub mod Rows
pub mod Fold
pub mod Closing
