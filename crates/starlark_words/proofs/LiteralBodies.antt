-- Bodies of literals, item by item and run by run.
pub mod DigitRuns
pub mod Escapes
pub mod FirstBytes
pub mod ReadFronts
pub mod ItemEdges
pub mod BodySteps
pub mod BodyReads
pub mod EndLanes
pub mod RunBytes
pub mod BodyRuns
pub mod BodyRounds
pub mod PlainBodies
