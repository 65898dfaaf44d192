-- The lexemes and faults of a document that touch a range, in the caller's buffers.
use Rattle.std.specs.Prelude.{◌≡◌, ◌&&◌, ℕ, Bool, nat_le, List, map, filter, Option}
use Rattle.starlark_c.specs.DocumentSlots.{HoldsNone, Keeps}
use Rattle.starlark_c.specs.RecoveredOutcomes.{nothing_recovered}
use Rattle.starlark_c.specs.RecoveredTexts.{AreFilled, Contents, HoldFitting, LackItems, contents}
use Rattle.starlark_c.specs.declared.document_endings.FillEnding.{FillEnding}
use Rattle.starlark_c.specs.declared.document_endings.FillEnding.TheVariants as ending
use Rattle.starlark_c.specs.declared.outcomes.TheConstants.{WHOLE, FULL}
use Rattle.starlark_c.specs.declared.recovered_outcomes.RecoveredOutcome.{RecoveredOutcome}
use Rattle.starlark_c.specs.declared.replies.TheConstants.{CLOSED}
use Rattle.starlark_document.specs.Documents.{DocumentView, faults_of, lexemes_of}
use Rattle.starlark_grammar.specs.Tokens.{Spanned}
use Rattle.starlark_grammar.specs.Words.{Text}
use Rattle.starlark_token.specs.TextItems.{LexerItem, Given, Refused}

-- a span touches a range: it neither ends before it nor begins after it
abbrev pub touches : {A : Type 0} → (from to : ℕ) → Spanned A → Bool
touches from to x = nat_le from x.end && nat_le x.begin to

-- the lexemes of a text that touch a range
abbrev pub lexemes_touching : (from to : ℕ) → Text → List LexerItem
lexemes_touching from to text = map Given (filter (touches from to) (lexemes_of text))

-- the faults of a text that touch a range
abbrev pub faults_touching : (from to : ℕ) → Text → List LexerItem
faults_touching from to text = map Refused (filter (touches from to) (faults_of text))

-- filling buffers with items: all of them, or those before the first that has no room
abbrev pub Fills : List LexerItem → Contents → Contents → FillEnding → Type 0
Fills items before after (ending.Whole filled) = AreFilled (contents items) before after filled
Fills items before after (ending.Full wanted) = LackItems items before wanted × HoldFitting items before after
Fills items before after ending.Closed = ⊥

-- filling buffers with items of the text of the document in a slot
abbrev pub FillsWith : (Text → List LexerItem) → (old new : Option DocumentView) → Contents → Contents → FillEnding → Type 0
FillsWith items old new before after ending.Closed = HoldsNone old new × (after ≡ before)
FillsWith items old new before after end = Keeps old new (λ text. Fills (items text) before after end)

-- the outcome of how that ends
abbrev pub filled_record : FillEnding → RecoveredOutcome
filled_record (ending.Whole filled) =
    let none = nothing_recovered WHOLE in record none { lexemes = filled.lexemes; values = filled.values; faults = filled.faults }
filled_record (ending.Full wanted) =
    let none = nothing_recovered FULL in record none { wanted_lexemes = wanted.lexemes; wanted_values = wanted.values; wanted_faults = wanted.faults }
filled_record ending.Closed = nothing_recovered CLOSED
