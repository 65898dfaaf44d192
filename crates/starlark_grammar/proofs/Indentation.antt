-- Open widths, indents and dedents.
pub mod Widths
pub mod Balance
pub mod LayoutTotals
