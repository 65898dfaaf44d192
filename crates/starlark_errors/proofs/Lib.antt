-- Where each proof is.
-- ErrorRows: worked rows, by computing.
mod ErrorRows
