-- Definitions that only contracts of inner functions, and proofs, cite.
pub mod Pending
pub mod MarginLines
pub mod MarginViews
pub mod Nesting
pub mod StepViews
pub mod PieceViews
pub mod ReadBounds
pub mod MarginCuts
pub mod Reader
pub mod Lookaheads
