use Rattle.std.proofs.Common.{◌≡◌, ◌+◌, All, map, length, drop, vec_len}
use Rattle.std.specs.{Vec.vec_capacity, Vec.Iter.into_iter_items}
use Rattle.publication.specs.Lists.{EachAt, new_writing, no_patches}
use Rattle.publication.proofs.writers.open_all.Given as goal

abbrev pub invariant-loop-image : goal.invariant-loop-image
invariant-loop-image g l =
    (goal.iterator-loop-image g).can_next l.image-iterator ×
    (goal.iterator-loop-image g).is_finite l.image-iterator ×
    (into_iter_items l.unnamed ≡ drop l.router g.B.FabricName.books) ×
    (map (λ i. i.rows) (into_iter_items l.image-iterator) ≡ drop l.router g.B.FabricName.openings) ×
    All (λ i. i.generation ≡ 0) (into_iter_items l.image-iterator) ×
    (length (into_iter_items l.unnamed) ≡ length (into_iter_items l.image-iterator)) ×
    (l.router + length (into_iter_items l.image-iterator) ≡ vec_len l.fn.images) ×
    (vec_len l.writers ≡ l.router) ×
    (vec_len l.lists ≡ l.router) ×
    (vec_capacity l.writers ≡ vec_len l.fn.images) ×
    (vec_capacity l.lists ≡ vec_len l.fn.images) ×
    EachAt (λ router w. w ≡ new_writing router) l.writers.items ×
    EachAt (λ router rs. (vec_len rs ≡ l.fn.readers) × All (λ r. r ≡ no_patches router) rs.items) l.lists.items
