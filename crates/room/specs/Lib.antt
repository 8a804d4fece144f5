pub mod Supply
pub mod Asks
pub mod Counting
