use Rattle.starlark_grammar.proofs.KeptLines.KeptFaultPlaces.{kept_faults_have_bytes, words_keep_lines}
use Rattle.starlark_grammar.proofs.laws.kept_line_laws.faults_keep_lines.Goals as goal

pub returns-clause-words : goal.returns-clause-words
returns-clause-words c = words_keep_lines

pub returns-clause-bytes : goal.returns-clause-bytes
returns-clause-bytes c = kept_faults_have_bytes
