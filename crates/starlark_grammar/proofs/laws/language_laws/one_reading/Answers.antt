use Rattle.starlark_grammar.proofs.Reading.Readings.{readings_agree, reading_fits}
use Rattle.starlark_grammar.proofs.laws.language_laws.one_reading.Goals as goal

-- src/laws.rt:15:1
pub returns-clause-agree : goal.returns-clause-agree
returns-clause-agree c = readings_agree

-- src/laws.rt:15:1
pub returns-clause-inside : goal.returns-clause-inside
returns-clause-inside c = reading_fits
