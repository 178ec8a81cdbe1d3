pub mod Scans
pub mod Writing
pub mod Counting
pub mod Storing
pub mod Lasting
pub mod Sequence
pub mod Lowest
