pub mod BitLaws
pub mod RowLaws
pub mod Closure
