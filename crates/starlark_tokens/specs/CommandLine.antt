-- What the command line asks for.
pub mod CommandWords
pub mod Requests
