pub mod Cells
pub mod HandsOut
pub mod Numbers
