-- Definitions that only proofs and the relation of a checker to what it passed cite.
pub mod CheckerViews
