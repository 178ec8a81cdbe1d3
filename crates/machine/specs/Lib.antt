pub mod Lines
pub mod State
pub mod Isa
pub mod Clock
pub mod Shares
pub mod Instructions
pub mod Histories
pub mod Laws
