pub mod Contents
pub mod Fillers
pub mod View
pub mod Held
pub mod Bytes
