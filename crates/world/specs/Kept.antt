-- What every world keeps: each port lies at an end of a link that no other port has, each router has its attachments, and
-- what stands on a link towards a port leads from the port as its router last knew it to the link as it is.
use Rattle.std.specs.Prelude.{◌≡◌, ℕ, ◌<◌, Bool, true, false, List, [], ◌∷◌, Some, slice_get, length}
use Rattle.network_model.specs.{declared.item.Item.Item, declared.network.Place.Place, declared.network.Port.Port}
use Rattle.network_model.specs.World.{Link, Router, World, place_at, side}

-- from a port that is up or not, taking these items leads to a link that is up or not: Up is taken by a port that is down, all else by one that is up
abbrev pub ItemsLead : Bool → Bool → List Item → Type 0
ItemsLead port link [] = port ≡ link
ItemsLead port link (Item.Up session cost ∷ items) = (port ≡ false) × ItemsLead true link items
ItemsLead port link (Item.Down session ∷ items) = (port ≡ true) × ItemsLead false link items
ItemsLead port link (Item.Cost session cost ∷ items) = (port ≡ true) × ItemsLead port link items
ItemsLead port link (Item.Message message ∷ items) = (port ≡ true) × ItemsLead port link items

-- a world whose ports and links fit together
pub record IsWorld (w : World) : Type 0 where
  pub links_known : (i q : ℕ) (p : Place) → place_at w i q ≡ Some p → p.link < length w.links
  pub places_apart : (i q j r : ℕ) (p : Place) → place_at w i q ≡ Some p → place_at w j r ≡ Some p → (i ≡ j) × (q ≡ r)
  pub routers_placed : length w.places ≡ length w.routers
  pub attachments_placed : length w.attachments ≡ length w.routers
  pub ports_placed : (i : ℕ) (r : Router) (ps : List Place) → slice_get w.routers i ≡ Some r → slice_get w.places i ≡ Some ps → length r.ports ≡ length ps
  pub inboxes : (i q : ℕ) (r : Router) (x : Port) (p : Place) (k : Link) → slice_get w.routers i ≡ Some r → slice_get r.ports q ≡ Some x
      → place_at w i q ≡ Some p → slice_get w.links p.link ≡ Some k → ItemsLead x.up k.up (side p.end k).inbox
