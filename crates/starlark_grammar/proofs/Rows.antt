-- Worked texts, in files by what they show, and what they are made of.
pub mod Shapes
mod Fronts
mod Words
mod Literals
mod Bodies
mod Layout
mod FStrings
mod Mixed
mod Cuts
mod LineEnds
mod EarlierLanguage
mod Recovery
mod KeptLines
