use Rattle.std.proofs.Common.{rules}
use Rattle.std.proofs.lemmas.List.Sorted.{answers_always}
use Rattle.route_table.proofs.PrefixPlaces.{place_from_search}
use Rattle.router_core.proofs.router.place_of.Goals as goal

pub returns : goal.returns
returns g c =
    let found = c.binary_search_by_key.ensures in
    let by_key = found.position (λ machine. machine.0) (answers_always _ _ _ (λ f a r g called. search rules)) in
    place_from_search c.args.machines.now c.args.prefix c.binary_search_by_key.result c.requires found.bound by_key
