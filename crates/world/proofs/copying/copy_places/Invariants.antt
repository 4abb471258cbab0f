use Rattle.std.proofs.Common.{◌≡◌, take, map, length, vec_len, vec_capacity}
use Rattle.world.proofs.copying.copy_places.Given as goal

abbrev pub invariant-loop-own : goal.invariant-loop-own
invariant-loop-own g l = record {
  so_far : map (λ ps. ps.items) (l.copies).items ≡ map (λ ps. ps.items) (take l.own-index l.places);
  count : vec_len l.copies ≡ l.own-index;
  room : vec_capacity l.copies ≡ length l.places;
}
