-- Numbers in chains by remainders of their keys.
pub mod Chains
