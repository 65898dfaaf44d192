-- Where each proof is. What belongs to one function is in a folder that has its name.
-- UnclosedBrackets: the brackets never closed, without the outermost of what is open.
-- FindingRows: worked rows, by computing.
-- FoundNothing: lexemes at which no check finds anything.
-- NestedStacks: what is open along lexemes whose brackets and f-strings nest.
-- QuietStacks: lexemes at which no check of brackets finds anything, and what they close.
pub mod UnclosedBrackets
pub mod FoundNothing
pub mod NestedStacks
pub mod QuietStacks
mod FindingRows
