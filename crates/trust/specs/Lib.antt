pub mod Relations
pub mod Turns
pub mod Homes
pub mod Known
pub mod Below
