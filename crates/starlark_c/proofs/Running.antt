-- What a walk says of the program that runs it. Assumes `Logic`.
use seplogic.Ra.Ura.{Ura}
use types.Logic.{Logic}
use prog.Model.{Model}
use contract.Running.{Running, MachineTables, tables}
use denote.Triple.Table
use sound.WpLaws

module _ {M : Type 1} {𝓤 : Ura M} (𝓛 : Logic 𝓤) (𝓜 : Model 𝓤 𝓛.H) (𝓡 : Running 𝓤 𝓛.H 𝓜) where
  abbrev 𝓣 : MachineTables 𝓤 𝓛.H 𝓜
  𝓣 = tables 𝓤 𝓛.H 𝓜 𝓡 𝓡.env

  -- what a function changes is only what it owns
  pub fm : sound.WpLaws.FmC 𝓤 𝓛.H 𝓛.laws 𝓣.C
  fm f = denote.Triple.Table.framed 𝓤 𝓛.H 𝓜 𝓣 f
