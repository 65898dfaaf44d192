-- Bodies of literals.
pub mod Bodies
pub mod Forms
pub mod ListedBodies
pub mod Silent
pub mod LiteralSteps
