-- Margins, which stand at the start of lines, and the widths that are open.
use Rattle.std.specs.Prelude.{ℕ, suc, ◌+◌, Bool, false, ◌&&◌, ◌||◌, not, ◌==◌, if◌then◌else◌, nat_eq, nat_lt, List, [], ◌∷◌, length, take, drop, take_while, count_by, sum_by, replicate, codes}
use Rattle.std.specs.List.{list_all, list_any, onto_first, prefix_len, starts_with}
use Rattle.std.specs.Str.{byte}
use Rattle.starlark_grammar.specs.Words.{Text}
use Rattle.starlark_grammar.specs.Tokens.{Lexeme, Comment, Indent, Dedent}

-- a space, a tab or a CR
abbrev pub is_blank : ℕ → Bool
is_blank b = b == byte " " || b == byte "\t" || b == byte "\r"

abbrev pub is_lf : ℕ → Bool
is_lf b = b == byte "\n"

-- whether a line end stands at the front
abbrev pub begins_with_line_end : Text → Bool
begins_with_line_end text = starts_with nat_eq text (codes "\n") || starts_with nat_eq text (codes "\r\n")

abbrev pub blanks_len : Text → ℕ
blanks_len text = prefix_len is_blank text

-- the lines of a text, each with its LF
unfoldable pub lines : Text → List Text
lines [] = []
lines (b ∷ bs) = if is_lf b then (b ∷ []) ∷ lines bs else onto_first b (lines bs)

abbrev pub begins_comment : Text → Bool
begins_comment [] = false
begins_comment (b ∷ bs) = b == byte "#"

-- blanks and then a comment, and nothing else
abbrev pub is_comment_only : Text → Bool
is_comment_only line = begins_comment (drop (blanks_len line) line)

-- a text without the one CR at its end, where it has one there
abbrev pub without_return : Text → Text
without_return [] = []
without_return (b ∷ []) = if b == byte "\r" then [] else b ∷ []
without_return (b ∷ c ∷ bs) = b ∷ without_return (c ∷ bs)

-- a comment-only line up to its line end
abbrev pub comment_part : Text → Text
comment_part line = without_return (take_while (λ b. not (is_lf b)) line)

-- the comment of a comment-only line
abbrev pub comment_of : ℕ → Text → Lexeme
comment_of at line = record {
  begin = at + blanks_len line;
  node = Comment (drop (suc (blanks_len line)) (comment_part line));
  end = at + length (comment_part line);
}

-- the comments of the lines from a place on
abbrev pub comments_from : ℕ → List Text → List Lexeme
comments_from at [] = []
comments_from at (line ∷ more) = comment_of at line ∷ comments_from (at + length line) more

-- A margin: its comments, the place of its last line, the blanks there, and what follows them.
pub record Margin : Type 0 where
  pub comments : List Lexeme
  pub at : ℕ
  pub blanks : Text
  pub remainder : Text

-- all of a text's comment-only lines from its front on
abbrev pub comment_lines : Text → List Text
comment_lines text = take_while is_comment_only (lines text)

abbrev pub margin_from : List Text → ℕ → Text → Margin
margin_from passed at line = record {
  comments = comments_from 0 passed;
  at = at;
  blanks = take (blanks_len line) line;
  remainder = drop (blanks_len line) line;
}

-- The margin at the front of a text: whole comment-only lines, as many as stand there, and the blanks after them.
unfoldable pub margin_of : Text → Margin
margin_of text = go (comment_lines text) (sum_by length (comment_lines text))
  where
    go : List Text → ℕ → Margin
    go passed at = margin_from passed at (drop at text)

abbrev pub margin_len : Margin → ℕ
margin_len margin = margin.at + length margin.blanks

-- Content follows unless the text ends there or the line is blank.
abbrev pub is_content : Text → Bool
is_content [] = false
is_content (b ∷ bs) = not (is_lf b)

abbrev pub has_tab : Margin → Bool
has_tab margin = list_any (nat_eq (byte "\t")) margin.blanks

-- the width of a line is the number of spaces before its content
abbrev pub width_of : Margin → ℕ
width_of margin = count_by (nat_eq (byte " ")) margin.blanks

-- The open ones of the widths of the content lines so far: those that are positive and that no later line is
-- narrower than. Of equal ones the last is taken.
unfoldable pub open_widths : List ℕ → List ℕ
open_widths [] = []
open_widths (width ∷ later) = if nat_lt 0 width && list_all (nat_lt width) later then width ∷ open_widths later else open_widths later

-- wider than every open width
abbrev pub is_widest : ℕ → List ℕ → Bool
is_widest width levels = list_all (λ w. nat_lt w width) levels

-- A width fits if it is 0, or open, or greater than every open one.
unfoldable pub fits : ℕ → List ℕ → Bool
fits width levels = width == 0 || list_any (nat_eq width) levels || is_widest width levels

-- What a fitting width gives: an `Indent` up to the content where it is positive and the widest, and else a `Dedent`
-- for each open width that is greater.
unfoldable pub indentation : List ℕ → Margin → List Lexeme
indentation levels margin =
    if nat_lt 0 (width_of margin) && is_widest (width_of margin) levels
    then record { begin = margin.at; node = Indent; end = margin_len margin } ∷ []
    else replicate (count_by (nat_lt (width_of margin)) levels) (record { begin = margin.at; node = Dedent; end = margin.at })
