pub mod Carries
pub mod Rotations
