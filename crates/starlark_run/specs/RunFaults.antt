-- The printed texts of why runs fail.
use Rattle.std.specs.Prelude.{◌++◌, codes}
use Rattle.std.specs.Fmt.{decimal}
use Rattle.starlark_base.specs.Places.{Text}
use Rattle.starlark_run.specs.declared.ends.RunFault.{RunFault}
use Rattle.starlark_run.specs.declared.ends.RunFault.TheVariants.{NotUtf8, TooLong, BadEdit, Read, Write, Memory}

-- the printed text of why a run fails
abbrev pub run_fault_text : RunFault → Text
run_fault_text NotUtf8 = codes "input is not UTF-8"
run_fault_text TooLong = codes "input is longer than 4294967295 bytes"
run_fault_text (BadEdit at) = codes "edit " ++ decimal at ++ codes " does not fit the text"
run_fault_text Read = codes "cannot read the input"
run_fault_text Write = codes "cannot write the output"
run_fault_text Memory = codes "out of memory"
