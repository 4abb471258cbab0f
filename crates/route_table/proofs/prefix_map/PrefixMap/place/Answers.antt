use Rattle.std.proofs.Common.{rules}
use Rattle.std.proofs.lemmas.List.Sorted.{answers_always}
use Rattle.route_table.proofs.PrefixPlaces.{place_from_search}
use Rattle.route_table.proofs.prefix_map.PrefixMap.place.Goals as goal

pub returns : goal.returns
returns g c =
    let found = c.binary_search_by_key.ensures in
    let map = c.args.self.now in
    let by_key = found.position (λ entry. entry.0) (answers_always _ _ _ (λ f a r g called. search rules)) in
    rw (← c.deref.ensures.value) (place_from_search c.deref.result.now c.args.prefix c.binary_search_by_key.result (rw c.deref.ensures.value map.sorted) found.bound by_key)
