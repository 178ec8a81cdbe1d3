pub mod Numbers
pub mod Word
pub mod Kinds
pub mod Access
pub mod Branch
pub mod Names
pub mod Digits
