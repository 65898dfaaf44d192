-- The fault of a text lies inside of it.
use Rattle.std.proofs.Common.{◌≤◌, List, length, drop, arith}
use Rattle.std.specs.Prelude.{IfSome}
use Rattle.std.proofs.lemmas.List.{length-drop}
use Rattle.starlark_grammar.specs.Words.{Text, Table}
use Rattle.starlark_grammar.specs.Tokens.{Fault, Spanned, moved}
use Rattle.starlark_grammar.specs.Pieces.{Piece, Step, Stands, Fails, Ends}
use Rattle.starlark_grammar.specs.Reading.{nothing, after_all, pieces_len, outcome_of, outcome_in, read}
use Rattle.starlark_grammar.specs.Longest.{IsLongestReading}
use Rattle.starlark_grammar.proofs.Reading.Readings.{fault_fits, reading_fits, read_is}

abbrev Inside : Text → Spanned Fault → Type 0
Inside text fault = (fault.begin ≤ fault.end) × (fault.end ≤ length text)

moved_inside : (table : Table) (text : Text) (pieces : List Piece) (fault : Spanned Fault) → IsLongestReading table nothing text pieces (Fails fault) → Inside text (moved (pieces_len pieces) fault)
moved_inside table text pieces fault h =
    let fits = fault_fits table (after_all nothing pieces) (drop (pieces_len pieces) text) fault h.stands_last in
    let order = fits.order in
    let inside = fits.inside in
    let total = reading_fits table nothing text pieces h.reads in
    (omega (arith, order), omega (arith, inside, total, length-drop (pieces_len pieces) text))

fault_of : (table : Table) (text : Text) (pieces : List Piece) (last : Step) → IsLongestReading table nothing text pieces last → IfSome (outcome_of text pieces last).fault (Inside text)
fault_of table text pieces (Fails fault) h = moved_inside table text pieces fault h
fault_of table text pieces (Stands piece) h = tt
fault_of table text pieces Ends h = tt

pub outcome_fault : (table : Table) (text : Text) → IfSome (outcome_in table text).fault (Inside text)
unfolding outcome_in
outcome_fault table text = fault_of table text (read table text).pieces (read table text).last (read_is table text)
