-- What the laws of all runs say of every simulation.
use Rattle.std.proofs.Common.{refl, sym, ap, ◌∙◌, ◌≡◌, ℕ, List, Option, Some, None, option_map, option_and_then, slice_get}
use Rattle.no_packet_loops.proofs.Common.{slice_get-map, longest_match, entry_leads, Router, image_answer, hop}
use Rattle.all_packets.specs.Packets.{IsWay, NoPacketCircles}
use Rattle.all_packets.proofs.Improving.{way_by}
use Rattle.course.specs.Images.{image_in_force}
use Rattle.simulation.specs.{Simulation.Simulation, Simulation.IsSimulation, Headline.hop_by_image, Headline.IsWayByImages, Headline.NeverMeetsTwice}

-- along an image in force a packet goes where it goes by what its router published
pub hop_is : (s : Simulation) → IsSimulation s → (addr i : ℕ) → hop_by_image s addr i ≡ hop s.world addr i
hop_is s kept addr i =
    ap (λ o. option_and_then (λ r. entry_leads s.world i r.1) (option_and_then (λ image. image_answer image addr) o)) (ap (λ xs. slice_get xs i) kept ∙ slice_get-map image_in_force s.world.routers i)
    ∙ by_router (slice_get s.world.routers i)
  where
    by_router : (o : Option Router) → option_and_then (λ r. entry_leads s.world i r.1) (option_and_then (λ image. image_answer image addr) (option_map image_in_force o))
        ≡ option_and_then (λ r. entry_leads s.world i r.1) (option_and_then (λ (r : Router). longest_match addr (r.table).published) o)
    by_router None = refl
    by_router (Some r) = refl

-- so a way along images is one along tables
along_tables : (s : Simulation) → IsSimulation s → (addr : ℕ) (way : List ℕ) → IsWayByImages s addr way → IsWay s.world addr way
along_tables s kept addr = way_by (λ i k. hop_by_image s addr i ≡ Some k) (λ i k. hop s.world addr i ≡ Some k) (λ i k h. sym (hop_is s kept addr i) ∙ h)

-- and the other way round
pub along_images : (s : Simulation) → IsSimulation s → (addr : ℕ) (way : List ℕ) → IsWay s.world addr way → IsWayByImages s addr way
along_images s kept addr = way_by (λ i k. hop s.world addr i ≡ Some k) (λ i k. hop_by_image s addr i ≡ Some k) (λ i k h. hop_is s kept addr i ∙ h)

pub never_twice : (s : Simulation) → IsSimulation s → NoPacketCircles s.world → NeverMeetsTwice s
never_twice s kept none addr way w = none addr way (along_tables s kept addr way w)
