-- How long the longest front of a text is that passes a test.
use Rattle.std.specs.Prelude.{ℕ, Bool, if◌then◌else◌, Some, None, unwrap_or}
use Rattle.std.specs.Option.{option_map}
use Rattle.starlark_grammar.specs.Words.{Text}
use Rattle.starlark_grammar.specs.Front.{longest_front}

-- the length of the longest front that passes a test, and 0 where there is none
unfoldable pub longest_len : (Text → Bool) → Text → ℕ
longest_len test text = unwrap_or (option_map (λ front. front.1) (longest_front {C = ℕ} (λ word. if test word then Some 0 else None) text)) 0
