pub mod Arithmetic
pub mod Operations
