use Rattle.starlark_grammar.specs.Words.{class_in, language}
use Rattle.starlark_grammar.specs.Front.{language_front}
use Rattle.starlark_grammar.proofs.Words.Fronts.{longest_front_is, longest_front_found, front_none_exactly}
use Rattle.starlark_grammar.proofs.laws.language_laws.one_longest_front.Goals as goal

pub returns-clause-is_longest : goal.returns-clause-is_longest
unfolding language_front
returns-clause-is_longest c = longest_front_is (class_in language)

pub returns-clause-only : goal.returns-clause-only
unfolding language_front
returns-clause-only c = longest_front_found (class_in language)

pub returns-clause-none : goal.returns-clause-none
unfolding language_front
returns-clause-none c = front_none_exactly (class_in language)
