-- Definitions that only contracts of inner functions, and proofs, cite.
pub mod Reporters
pub mod ShownKinds
pub mod ByteColumns
pub mod CollectedReports
pub mod KnownPositions
pub mod FoundProblems
pub mod GlobAnswers
pub mod NotedGlobs
pub mod ReportedFailures
