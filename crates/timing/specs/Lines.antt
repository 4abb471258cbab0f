-- The lines of a document of times.
use Rattle.std.specs.Prelude.{◌≡◌, ℕ, ◌==◌, if◌then◌else◌, false, List, [], ◌∷◌, Some, slice_get, position, decimal}
use Rattle.ipv4_prefix.specs.Prefix.{Prefix}
use Rattle.network_model.specs.{declared.network.LinkSpec.LinkSpec, Network.joins}
use Rattle.coming_to_rest.specs.Worlds.{is_own}
use Rattle.texts.specs.Words.{Text, words_of}
use Rattle.script.specs.{Routers.router_number, Commands.AsksStep}
use Rattle.timed_simulation.specs.{declared.links.LinkDelays.LinkDelays, declared.events.Change.Change}
use Rattle.timing.specs.declared.given.Given.{Given}

-- the delays of a link on which an item is so long on its way from a router, and so long back
abbrev pub delays_from : ℕ → LinkSpec → ℕ → ℕ → LinkDelays
delays_from router link there back =
    if link.a == router then record { to_a = back; to_b = there } else record { to_a = there; to_b = back }

-- the line names two routers, the first link that joins them is this one, and the two numbers are how long an item is on its way from the first to the second, and back
pub record SaysLink (names : List Text) (links : List LinkSpec) (line : Text) (given : Given LinkDelays) : Type 0 where
  pub name : Text
  pub neighbour : Text
  pub router : ℕ
  pub far : ℕ
  pub there : ℕ
  pub back : ℕ
  pub spelled : words_of line ≡ name ∷ neighbour ∷ decimal there ∷ decimal back ∷ []
  pub known : router_number names name ≡ Some router
  pub far_known : router_number names neighbour ≡ Some far
  pub joined : position (joins router far) links ≡ Some given.number
  pub link : LinkSpec
  pub at : slice_get links given.number ≡ Some link
  pub delays : given.value ≡ delays_from router link there back

-- the line names a router, and the number is how long it takes to publish
pub record SaysRouter (names : List Text) (line : Text) (given : Given ℕ) : Type 0 where
  pub name : Text
  pub spelled : words_of line ≡ name ∷ decimal given.value ∷ []
  pub known : router_number names name ≡ Some given.number

-- the line says a moment, and then a step that is a change
pub record SaysChange (names : List Text) (links : List LinkSpec) (attachments : List (Prefix × ℕ × ℕ)) (line : Text) (change : Change) : Type 0 where
  pub words : List Text
  pub spelled : words_of line ≡ decimal change.moment ∷ words
  pub step : AsksStep names links attachments words change.step
  pub given : is_own change.step ≡ false
