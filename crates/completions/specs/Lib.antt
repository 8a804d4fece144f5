-- What the tokens so far write, where the grammar fails first, which refusal stands where, and the whole answer, in words about derivations.
pub mod Written
pub mod FailsFirst
pub mod Refused
pub mod Answered
