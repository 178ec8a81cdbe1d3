pub mod Field
pub mod Rows
pub mod Decks
pub mod Loaded
pub mod Law
