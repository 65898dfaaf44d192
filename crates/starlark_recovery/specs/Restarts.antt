-- The place of a fault, as code tells it to find where lexing begins again.
use Rattle.std.specs.Prelude.{◌≡◌, ℕ, Bool}
use Rattle.starlark_grammar.specs.Tokens.{Fault, Spanned}
use Rattle.starlark_grammar.specs.Recovery.{is_tab}

-- the offsets are those of the fault, and `tab` says whether it is that of a tab
pub record IsPlaceOf (fault : Spanned Fault) (begin end : ℕ) (tab : Bool) : Type 0 where
  pub begins : begin ≡ fault.begin
  pub ends : end ≡ fault.end
  pub is_tab : tab ≡ is_tab fault.node
