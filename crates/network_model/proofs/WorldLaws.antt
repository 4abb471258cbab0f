-- What a change of one part of a world leaves of the others.
use Rattle.std.proofs.Common.{refl, ◌≡◌, ℕ}
use Rattle.network_model.specs.{declared.network.End.End, Machine.changed_at, World.Link, World.World, World.place_at, Step.changed_link}
use Rattle.network_model.proofs.ListLaws.{option_map_or-ind}

-- a change of the link at a port leaves the routers
pub routers-changed_link : (i q : ℕ) (f : End → Link → Link) (w : World) → (changed_link i q f w).routers ≡ w.routers
routers-changed_link i q f w = option_map_or-ind (λ (v : World). v.routers ≡ w.routers) (λ p. record w { links = changed_at p.link (f p.end) w.links }) (place_at w i q) w refl (λ p _. refl)
