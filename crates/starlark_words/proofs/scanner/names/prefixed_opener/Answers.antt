use Rattle.std.proofs.Common.{◌∙◌, arith, sym, ap}
use Rattle.starlark_words.proofs.Scan.Listed.{opener_of}
use Rattle.starlark_words.proofs.Scan.Openers.{long_name_is_no_prefix, opener_at, unquoted_is_no_opener}
use Rattle.starlark_words.proofs.scanner.names.prefixed_opener.Goals.{in-39, in-34}
use Rattle.starlark_words.proofs.scanner.names.prefixed_opener.Goals as goal

pub returns-then-len-gt-PREFIX_LEN-clause-opener : goal.returns-then-len-gt-PREFIX_LEN-clause-opener
returns-then-len-gt-PREFIX_LEN-clause-opener c =
    let l = c.if-len-gt-PREFIX_LEN.true in sym (long_name_is_no_prefix c.args.text.now c.args.len c.requires.len (omega arith))

pub returns-in_default-clause-opener : goal.returns-in_default-clause-opener
returns-in_default-clause-opener c = sym (unquoted_is_no_opener c.args.text.now c.args.len c.requires.len (λ e. omega (arith, e, c.byte_at.ensures)) (λ e. omega (arith, e, c.byte_at.ensures)))

pub returns-clause-opener : goal.returns-clause-opener
returns-clause-opener c = elim c.match-byte_at.branch [
  | in-39 w ↦ rw w.quote-is at c.opener_class.ensures ∙ ap opener_of (opener_at c.args.text.now c.args.len 39 (omega arith) (sym c.byte_at.ensures ∙ w.in-39.is))
  | in-34 w ↦ rw w.quote-is at c.opener_class.ensures ∙ ap opener_of (opener_at c.args.text.now c.args.len 34 (omega arith) (sym c.byte_at.ensures ∙ w.in-34.is))
]
