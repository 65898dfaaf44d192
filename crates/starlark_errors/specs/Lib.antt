pub mod Errors
pub mod Exceptions
