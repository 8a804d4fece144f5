-- What the check of the tables computes, as its routines do.
pub mod Places
pub mod Lent
