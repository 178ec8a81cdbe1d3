pub mod Line
pub mod Quantity
