pub mod Digits
pub mod Frames
pub mod Kinds
pub mod Reading
pub mod Cutting
