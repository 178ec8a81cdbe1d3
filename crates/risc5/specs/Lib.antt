pub mod Registers
pub mod Units
pub mod Set
