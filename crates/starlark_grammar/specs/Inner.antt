-- What only contracts of inner functions and proofs of the crates above speak of.
pub mod Openings
pub mod KeptFaults
