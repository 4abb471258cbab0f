-- Which link's items a release moves.
use Rattle.std.proofs.Common.{ap, ◌∙◌, ◌≡◌, ℕ, Bool, true, false, not, if◌then◌else◌, Option, Some, None, slice_get, option_map, option_and_then}
use Rattle.no_packet_loops.proofs.Common.{option_map_or, Held, Place, Link, World, other, place_at, release_at, is_up_in, Release}
use Rattle.world.specs.Steps.{is_stale}
use Rattle.timed_simulation.specs.{declared.links.Motion.Motion, declared.links.Motion.TheVariants.Put, Links.motion_of}

-- a router that releases this, over a link that is there
module _ (w : World) (i : ℕ) (h : Held) (at : release_at w i ≡ Some h) (p : Place) (there : place_at w i h.port ≡ Some p) (k : Link) (link : slice_get w.links p.link ≡ Some k) where
  abbrev by_stale : Bool → Option Place → Option (ℕ × Motion)
  by_stale b o = if b then None else option_map (λ (p : Place). (p.link, Put (other p.end) false)) o

  is_moved : (b : Bool) → is_up_in h.session k ≡ b → motion_of w (Release i) ≡ by_stale (not b) (Some p)
  is_moved b up =
      ap (option_and_then (λ (x : Held). by_stale (is_stale w i x) (place_at w i x.port))) at
      ∙ ap (λ o. by_stale (not (option_map_or (is_up_in h.session) (option_and_then (λ (p : Place). slice_get w.links p.link) o) false)) o) there
      ∙ ap (λ o. by_stale (not (option_map_or (is_up_in h.session) o false)) (Some p)) link
      ∙ ap (λ c. by_stale (not c) (Some p)) up

  -- it is put towards the other end
  pub put_over : is_up_in h.session k ≡ true → motion_of w (Release i) ≡ Some (p.link, Put (other p.end) false)
  put_over up = is_moved true up

  -- it is stale, and no item is moved
  pub discarded : is_up_in h.session k ≡ false → motion_of w (Release i) ≡ None
  discarded down = is_moved false down
