pub mod Words
pub mod Keeps
