pub mod Cores
pub mod Measures
pub mod Calls
