-- Mixtures are not empty: a packet goes on by a row that a writer is still out to publish.
use Rattle.std.specs.Prelude.{◌≡◌, ℕ, true, None, Some}
use Rattle.network_model.specs.{Network.IsNetwork, Journal.most_steps}
use Rattle.fabric.specs.{Fabric.Fabric, Fabric.IsFabric, Headline.image_hop, Headline.none_published, Writers.LentAreDue}

-- in the fabric, of which all that is kept of every fabric holds, a packet for the address goes from router i to router k by the row that router i's writer is out to publish; in the image with which that writer left no row matches
pub record GoesAhead (f : Fabric) (addr i k : ℕ) : Type 0 where
  pub network : IsNetwork f.network
  pub fabric : IsFabric f most_steps
  pub due : LentAreDue f
  pub goes : image_hop f (λ j. true) addr i ≡ Some k
  pub stays : image_hop f none_published addr i ≡ None

-- there is such a fabric
abbrev pub SomePacketGoesAhead : Type 0
SomePacketGoesAhead = (f : Fabric) × (addr : ℕ) × (i : ℕ) × (k : ℕ) × GoesAhead f addr i k
