pub mod RecoveringLexer
pub mod Restarts
pub mod Inner
