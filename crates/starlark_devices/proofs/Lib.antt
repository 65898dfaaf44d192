-- Where each proof is. What belongs to one function is in a folder that has its name.
-- Calls: calls of a device one after another.
pub mod Calls
