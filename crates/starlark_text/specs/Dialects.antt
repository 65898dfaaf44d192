-- The three dialects. Each of the last two is what it adds to the one before.
use Rattle.std.specs.Prelude.{true, false}
use Rattle.starlark_text.specs.declared.dialect.Dialect.{Dialect}
use Rattle.starlark_text.specs.declared.dialect.DialectTypes.TheVariants.{Disable, Enable}

-- functions and loads, and nothing else
abbrev pub standard : Dialect
standard = record {
  enable_def = true;
  enable_lambda = true;
  enable_load = true;
  enable_keyword_only_arguments = false;
  enable_positional_only_arguments = false;
  enable_types = Disable;
  enable_load_reexport = true;
  enable_top_level_stmt = false;
  enable_f_strings = false;
  _non_exhaustive = tt;
}

-- the standard dialect with keyword-only parameters, types, and statements outside of functions
abbrev pub extended : Dialect
extended = record standard { enable_keyword_only_arguments = true; enable_types = Enable; enable_top_level_stmt = true }

-- the extended dialect with positional-only parameters and f-strings
abbrev pub all_options : Dialect
all_options = record extended { enable_positional_only_arguments = true; enable_f_strings = true }
