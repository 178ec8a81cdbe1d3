pub mod Table
pub mod Boot
