pub mod Cuts
pub mod Waits
pub mod Runs
pub mod Histories
pub mod Stalls
pub mod Finishing
