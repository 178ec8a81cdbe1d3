pub mod After
pub mod Waiting
pub mod Steps
pub mod Exact
