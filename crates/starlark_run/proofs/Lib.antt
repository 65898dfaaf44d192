-- Where each proof is. What belongs to one function is in a folder that has its name.
-- PrintedItems, Answered: items: the next item by its number, its line, order and edges.
-- Writing: writing: steps one after another, and where one stops.
-- BlockReads, BufferedWrites: the run: how often devices are called.
-- Edited: edits: versions in order, what is left to edit.
-- RefusedEdits: edits: a refused edit.
-- RunEnds: the run: how a run ends.
-- LineRows: worked rows, by computing.
mod LineRows
pub mod PrintedItems
pub mod RunEnds
pub mod Writing
pub mod BlockReads
pub mod BufferedWrites
pub mod Answered
pub mod Edited
pub mod RefusedEdits
