pub mod Ending
pub mod Counting
pub mod Scans
pub mod Reaching
pub mod Loops
pub mod Steps
pub mod Hearing
