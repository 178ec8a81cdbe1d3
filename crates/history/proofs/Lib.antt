pub mod Parts
pub mod Records
pub mod Playing
pub mod Stepping
