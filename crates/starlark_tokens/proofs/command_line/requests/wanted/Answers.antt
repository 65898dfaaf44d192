use Rattle.starlark_tokens.proofs.command_line.requests.wanted.Goals as goal

pub returns : goal.returns
returns c =
    let leading = c.as_slice-leading.ensures.value in
    record {
      check = rw leading at c.has.ensures;
      format = rw leading at c.format_of.ensures;
      colour = rw leading at c.colour_of.ensures;
      columns = rw leading at c.columns_of.ensures;
      quiet = rw leading at c.is_quiet.ensures;
      max_faults = rw leading at c.max_faults.ensures;
      filter = rw leading at c.in_ok-filter_of.ensures;
      excluded = rw leading at c.in_ok-values.ensures;
      included = rw leading at c.in_ok-values-2.ensures;
      lists = rw leading at c.in_ok-values-3.ensures;
      stdin_names = rw leading at c.in_ok-values-4.ensures;
      files = c.in_ok-names_of.ensures;
    }
