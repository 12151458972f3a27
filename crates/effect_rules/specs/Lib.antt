pub mod Rules
pub mod Sites
pub mod Facts
pub mod Search
