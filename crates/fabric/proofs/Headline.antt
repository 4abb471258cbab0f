-- What the laws of all runs say of every fabric.
use Rattle.std.proofs.Common.{refl, sym, ap, ◌∙◌, ◌≡◌, ℕ, Bool, true, false, cond, ◌&&◌, List, [], Option, Some, None, option_map, option_and_then, slice_get}
use Rattle.no_packet_loops.proofs.Common.{option_map_or, slice_get-map, Prefix, longest_match, Entry, entry_leads, Router, router_publishing, IsNetwork, image_answer, None_not_Some}
use Rattle.no_packet_loops.specs.Packets.{mixture_rows}
use Rattle.all_packets.specs.Packets.{mixture_hop, IsMovingWay, MayGoOn}
use Rattle.all_packets.proofs.{Improving.way_by, Ways.always_no_moving_circles}
use Rattle.course.specs.Images.{image_in_force}
use Rattle.fabric.specs.Fabric.{Fabric, is_lent, IsFabric}
use Rattle.fabric.specs.Headline.{image_row, image_hop, GoesByImage, IsMovingImageWay, NeverMeetsTwice}

-- a packet that a mixture of images sends on is one that the mixture of tables does
forwarded : (f : Fabric) (capacity : ℕ) → IsFabric f capacity → (by_control : ℕ → Bool) (i addr : ℕ) (p : Prefix) (entry : Entry) → image_row f by_control i addr ≡ Some (p, entry)
    → longest_match addr (mixture_rows (λ k. by_control k && is_lent f k) f.world i) ≡ Some (p, entry)
forwarded f capacity kept by_control i addr p entry row = by_choice (by_control i && is_lent f i) (slice_get f.world.routers i) (ap (λ xs. slice_get xs i) kept.in_force ∙ slice_get-map image_in_force f.world.routers i) row
  where
    by_choice : (b : Bool) (o : Option Router) → slice_get f.images i ≡ option_map image_in_force o
        → option_and_then (λ image. image_answer image addr) (cond b (option_map (λ r. image_in_force (router_publishing r)) o) (slice_get f.images i)) ≡ Some (p, entry)
        → longest_match addr (option_map_or (λ (r : Router). cond b (r.table).control (r.table).published) o []) ≡ Some (p, entry)
    by_choice true None at is = absurd (None_not_Some is)
    by_choice true (Some r) at is = is
    by_choice false None at is = absurd (None_not_Some (sym (ap (option_and_then (λ image. image_answer image addr)) at) ∙ is))
    by_choice false (Some r) at is = sym (ap (option_and_then (λ image. image_answer image addr)) at) ∙ is

-- so where a packet goes on along an image, it goes on in a mixture of tables
goes_on : (f : Fabric) (capacity : ℕ) → IsFabric f capacity → (by_control : ℕ → Bool) (addr i k : ℕ) → image_hop f by_control addr i ≡ Some k → mixture_hop (λ j. by_control j && is_lent f j) f.world addr i ≡ Some k
goes_on f capacity kept by_control addr i k h = by_row (image_row f by_control i addr) refl h
  where
    by_row : (o : Option (Prefix × Entry)) → image_row f by_control i addr ≡ o → option_and_then (λ r. entry_leads f.world i r.1) o ≡ Some k → mixture_hop (λ j. by_control j && is_lent f j) f.world addr i ≡ Some k
    by_row None is g = absurd (None_not_Some g)
    by_row (Some r) is g = ap (option_and_then (λ (x : Prefix × Entry). entry_leads f.world i x.1)) (forwarded f capacity kept by_control i addr r.0 r.1 is) ∙ g

-- and a way along images in force is one along the rows of tables
along_rows : (f : Fabric) (capacity : ℕ) → IsFabric f capacity → (addr : ℕ) (way : List ℕ) → IsMovingImageWay f addr way → IsMovingWay f.world addr way
along_rows f capacity kept addr = way_by (GoesByImage f addr) (MayGoOn f.world addr) (λ i k h. (h.0 && is_lent f i, goes_on f capacity kept (λ j. h.0) addr i k h.1))

-- no packet circles
pub never_twice : (f : Fabric) (capacity : ℕ) → IsFabric f capacity → IsNetwork f.network → NeverMeetsTwice f
never_twice f capacity kept valid addr way w = always_no_moving_circles f.network f.journal f.world valid kept.runs addr way (along_rows f capacity kept addr way w)
