-- The four facts on which the freedom from loops rests, said of a whole network: of what a prefix sees at the two ends of each link that is up.
use Rattle.std.specs.Prelude.{◌≡◌, true, List, Some}
use Rattle.ipv4_prefix.specs.Prefix.{Prefix}
use Rattle.network_model.specs.{declared.network.Place.Place, declared.step.Step.Step, Network.IsNetwork, Run.Runs, Run.history}
use Rattle.network_model.specs.World.{World, Network, other, opening}
use Rattle.network_model.specs.View.{LinkEnd, State, lay, destination_view}
use Rattle.loop_freedom.specs.Facts.{LinkFacts, end_towards}

-- the other end of the same link
abbrev pub across : Place → Place
across x = record { link = x.link; end = other x.end }

-- the facts hold from link end e to f, which lie at the two ends of one link, wherever that is up
abbrev pub HasFourFacts : Network → State → Type 0
HasFourFacts n s = (e f : LinkEnd) (x : Place) → lay n e ≡ Some x → lay n f ≡ Some (across x) → s.up e ≡ true → LinkFacts (end_towards s e f) (end_towards s f e)

-- after every list of lawful steps the facts hold for every prefix
abbrev pub FourFactsAlwaysHold : Type 0
FourFactsAlwaysHold = (n : Network) (ss : List Step) (w : World) → IsNetwork n → Runs (opening n) ss w → (p : Prefix) → HasFourFacts n (destination_view n p (history n ss))
