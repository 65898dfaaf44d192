-- Definitions that only contracts of inner functions, and proofs, cite.
pub mod Passed
pub mod RecoveryStates
