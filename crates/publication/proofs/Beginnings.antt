-- Beginnings of lists of publications.
use Rattle.std.proofs.Common.{◌∙◌, List, [], ◌∷◌, refl}
use Rattle.network_model.specs.Publication.{Patch}
use Rattle.receipts.proofs.Beginnings.{prefix_self, prefix_trans}
use Rattle.publication.specs.{declared.known.Known.Known, Lists.Begins, Lists.with_publication}

pub begins_self : (k : Known) → Begins k k
begins_self k = record { router = refl; publications = prefix_self k.publications }

pub begins_trans : (j k l : Known) → Begins j k → Begins k l → Begins j l
begins_trans j k l a b = record { router = b.router ∙ a.router; publications = prefix_trans j.publications k.publications l.publications a.publications b.publications }

-- a list begins itself with one more publication
pub begins_more : (k : Known) (ps : List Patch) → Begins k (with_publication k ps)
begins_more k ps = record { router = refl; publications = (ps ∷ [], refl) }
