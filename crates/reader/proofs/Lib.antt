pub mod Lending
pub mod Start
pub mod End
pub mod Checks
pub mod Counts
