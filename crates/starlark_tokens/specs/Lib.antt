pub mod Inner
pub mod CommandLine
pub mod Files
pub mod ToldFaults
pub mod OutputFormats
pub mod Reporting
