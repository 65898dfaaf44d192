use Rattle.std.proofs.Common.{◌≡◌, ◌<◌, ◌+◌, ◌-◌, ℕ, arith, length, rules}
use Rattle.std.proofs.lemmas.Option.{get_or_from_slice_get, slice_get_cases, slice_get_within}
use Rattle.std.specs.Option.{ok_or}
use Rattle.std.specs.Prelude.{IfOk, IfSome, None, Option, Some}
use Rattle.starlark_words.specs.Inner.Reads.{more_reads}
use Rattle.starlark_reader.specs.declared.margins.Margin.{Margin}
use Rattle.starlark_reader.proofs.TakenMargins.PlainMargins.{content_plain, line_end_first, spaces_alone}
use Rattle.starlark_reader.proofs.margins.plain_margin.Goals.{in-None-1, in-Some+else-next-gt35+in-10-1}
use Rattle.starlark_reader.proofs.margins.plain_margin.Goals as goal

pub returns-in-Some-clause-margin : goal.returns-in-Some-clause-margin
returns-in-Some-clause-margin c = search (rules, content_plain, get_or_from_slice_get, slice_get_within)

pub returns-in-None-clause-margin : goal.returns-in-None-clause-margin
returns-in-None-clause-margin c = elim c.in-None-1.branch [
  | in-None-1 w ↦
      let all : c.spaces_len-spaces.result ≡ length c.as_bytes-bytes.result.now = search (rules, slice_get_cases) in
      rw (c.of_spaces-in-None.ensures, ← c.as_bytes-bytes.ensures.value) (spaces_alone c.as_bytes-bytes.result.now c.spaces_len-spaces.result c.spaces_len-spaces.ensures.value all)
  | in-Some+else-next-gt35+in-10-1 w ↦ search (rules, line_end_first, get_or_from_slice_get, slice_get_within)
]

-- the reads of a blank line with CRs
blank_reads : (found : Option Margin) (spaces old mid new : ℕ) → IfSome found (λ margin. (spaces < margin.blanks) × (new ≡ more_reads mid (margin.blanks - spaces))) → mid ≡ more_reads old (spaces + 1)
    → IfOk (ok_or found spaces) (λ margin. new ≡ more_reads old (margin.blanks + 1))
blank_reads None spaces old mid new read is = tt
blank_reads (Some margin) spaces old mid new read is = omega (arith, read.0, read.1, is)

pub returns-in-Some-eq13-clause-reads : goal.returns-in-Some-eq13-clause-reads
returns-in-Some-eq13-clause-reads c = rw c.ok_or.ensures.value (blank_reads _ _ c.args.reads.now _ _ c.blank_margin.ensures.reads c.spaces_len-spaces.ensures.reads)
