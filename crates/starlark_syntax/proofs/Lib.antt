-- Held: code maps: the code map of a text holds its outcome.
pub mod Held
