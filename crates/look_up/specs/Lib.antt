-- The records of an index of subjects, and the look-up in them.
pub mod Record
pub mod Look
pub mod Code
