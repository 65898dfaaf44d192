use Rattle.std.proofs.Common.{◌≡◌, subst}
use Rattle.starlark_c.proofs.KindNames.{token_named}
use Rattle.starlark_c.specs.Kinds.{kind_name}
use Rattle.starlark_token.specs.TokenTexts.{whole_kind}
use Rattle.starlark_c.proofs.starlark_kind_name.Goals as goal

pub returns-clause-tokens : goal.returns-clause-tokens
returns-clause-tokens c token same = subst (λ kind. kind_name kind ≡ whole_kind token) same (token_named token)
