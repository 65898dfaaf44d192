-- Margins, and the open widths.
pub mod MarginLines
pub mod Blanks
pub mod PlainMargins
pub mod Pending
pub mod PendingLexemes
pub mod Indents
pub mod LaidMargins
pub mod TakenWidths
