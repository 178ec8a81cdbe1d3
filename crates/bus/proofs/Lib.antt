pub mod Copied
pub mod Layers
pub mod Parting
