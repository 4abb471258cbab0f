-- A packet that is on its way while steps are done, in none of which a router takes a message or a notice. At each router it goes by the
-- row, or by any next hop that was feasible when the router published last, or that is feasible at that moment.
use Rattle.std.specs.Prelude.{◌≡◌, ℕ, Bool, false, List, [], ◌∷◌, ⊤}
use Rattle.network_model.specs.{Run.History, Run.with_step, Step.Lawful}
use Rattle.loop_freedom.specs.Network.{meets_twice}
use Rattle.all_packets.specs.Journeys.{is_taking, Event, Goes, Does, routers_met}
use Rattle.many_ways.specs.Packets.{MayGoByFeasible}

-- a packet that is at router i goes on so at that moment; meanwhile lawful steps are done, in none of which a router takes anything
abbrev pub IsHopJourney : History → ℕ → ℕ → List Event → Type 0
IsHopJourney h addr i [] = ⊤
IsHopJourney h addr i (Goes k ∷ es) = ((is_present : Bool) × MayGoByFeasible h is_present addr i k) × IsHopJourney h addr k es
IsHopJourney h addr i (Does s ∷ es) = (is_taking s ≡ false) × Lawful h.world s × IsHopJourney (with_step h s) addr i es

-- a packet meets no router twice while routers publish and release, links come up and go down, and costs and attachments change
abbrev pub NoHopJourneyCircles : History → Type 0
NoHopJourneyCircles h = (addr i : ℕ) (es : List Event) → IsHopJourney h addr i es → meets_twice (i ∷ routers_met es) ≡ false
