-- The token machine: what each token writes and which refusal it meets, one token at a time; the reader's whole answer.
pub mod Memory
pub mod Places
pub mod Call
pub mod Refusals
pub mod Construction
pub mod Demand
pub mod Frame
pub mod Rules
pub mod Step
pub mod Read
