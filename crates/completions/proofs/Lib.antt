-- What the tokens so far write is what the machine has written after them.
pub mod After
pub mod Closing
pub mod Names
pub mod Effects
pub mod Complete
pub mod Sane
pub mod Largest
pub mod Untied
pub mod FailsFirst
pub mod Refused
pub mod Examples
