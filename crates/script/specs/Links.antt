-- The lines of links.
use Rattle.std.specs.Prelude.{◌≡◌, ◌≢◌, ℕ, ◌^◌, ◌<◌, List, [], ◌∷◌, unwrap_or, decimal}
use Rattle.metric.specs.Distance.{IsCost}
use Rattle.network_model.specs.declared.network.LinkSpec.{LinkSpec}
use Rattle.script.specs.{declared.fault.LineFault.LineFault, declared.fault.LineFault.TheVariants.BadLine, declared.fault.LineFault.TheVariants.BadCost, Routers.router_number, Routers.no_router}
use Rattle.texts.specs.Words.{Text, words_of}

-- a line of four words: two names, neither of them empty, and the decimal texts of two numbers of 32 bits
pub record LinkWords (line : Text) : Type 0 where
  pub a : Text
  pub b : Text
  pub from_a : ℕ
  pub from_b : ℕ
  pub words : words_of line ≡ a ∷ b ∷ decimal from_a ∷ decimal from_b ∷ []
  pub has_a : a ≢ []
  pub has_b : b ≢ []
  pub small_a : from_a < 2 ^ 32
  pub small_b : from_b < 2 ^ 32

-- both numbers of the line are costs
abbrev pub SpellsCosts : {line : Text} → LinkWords line → Type 0
SpellsCosts l = IsCost l.from_a × IsCost l.from_b

-- the router at an end of a link: no router where the name is not known
abbrev pub router_named : List Text → Text → ℕ
router_named names word = unwrap_or (router_number names word) no_router

-- the link that a line says
abbrev pub IsLink : List Text → Text → LinkSpec → Type 0
IsLink names line link = (l : LinkWords line) × SpellsCosts l
    × (link ≡ record { a = router_named names l.a; b = router_named names l.b; from_a = l.from_a; from_b = l.from_b })

-- why a line says no link
abbrev pub IsLinkFault : Text → LineFault → Type 0
IsLinkFault line BadLine = ¬ (LinkWords line)
IsLinkFault line BadCost = (l : LinkWords line) × ¬ (SpellsCosts l)
IsLinkFault line _ = ⊥
