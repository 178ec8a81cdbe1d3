pub mod Lanes
pub mod Meaning
pub mod Calls
pub mod Over
pub mod Filled
