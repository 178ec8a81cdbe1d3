pub mod Panels
pub mod Handing
