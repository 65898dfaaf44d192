use Rattle.std.proofs.lemmas.Str.{IsUtf8-string_bytes}
use Rattle.starlark_base.proofs.codemap.code_map.CodeMap.starts.Goals as goal

pub returns-clause-utf8 : goal.returns-clause-utf8
returns-clause-utf8 c = rw (← c.self.view_is) (IsUtf8-string_bytes c.self.inside.data.value.source)
