pub mod Accepted
pub mod Answering
