use Rattle.std.proofs.Common.{arith, ap, ◌∙◌, map}
use Rattle.no_packet_loops.proofs.Common.{range_with_len, opening_router_of, places_from, rows_of, costs_of}
use Rattle.world.proofs.{ByRouter.made_at, ByRouter.made_count, Ranges.one_made, Ranges.all_made}
use Rattle.world.proofs.opening.opening_routers.Goals as goal

pub offset_bounds-places-router : goal.offset_bounds-places-router
offset_bounds-places-router g c =
    let many = made_count (λ v. v.items) (λ i. places_from 0 i (c.args.network.now).links) c.args.places.now (c.args.network.now).routers c.requires.places in
    omega (arith, many)

pub bounds-places-router : goal.bounds-places-router
bounds-places-router g c =
    let many = made_count (λ v. v.items) (λ i. places_from 0 i (c.args.network.now).links) c.args.places.now (c.args.network.now).routers c.requires.places in
    omega (arith, many)

pub offset_bounds-own-router : goal.offset_bounds-own-router
offset_bounds-own-router g c =
    let many = made_count (λ v. rows_of v.items) (costs_of c.args.network.now) c.args.own.now (c.args.network.now).routers c.requires.own in
    omega (arith, many)

pub bounds-own-router : goal.bounds-own-router
bounds-own-router g c =
    let many = made_count (λ v. rows_of v.items) (costs_of c.args.network.now) c.args.own.now (c.args.network.now).routers c.requires.own in
    omega (arith, many)

pub opening_router-requires : goal.opening_router-requires
opening_router-requires g c =
    let n = c.args.network.now in
    record {
      places = c.deref.ensures.value ∙ made_at (λ v. v.items) (λ i. places_from 0 i n.links) c.args.places.now n.routers c.loop-router.router c.index-places-router.result c.requires.places (omega arith) c.index-places-router.is;
      own = ap rows_of c.deref-in-loop-router.ensures.value ∙ made_at (λ v. rows_of v.items) (costs_of n) c.args.own.now n.routers c.loop-router.router c.index-own-router.result c.requires.own (omega arith) c.index-own-router.is;
    }

pub loop-router-preserved : goal.loop-router-preserved
loop-router-preserved g c =
    one_made (opening_router_of c.args.network.now) c.loop-router.routers.items c.push.new.self.items _ c.in_ok-found.found c.loop-router.router c.routers-router-end.result
    (omega arith) c.in_ok-found.ensures c.in_ok-push.ensures.items c.loop-router.invariant

pub returns : goal.returns
returns g c =
    all_made (opening_router_of c.args.network.now) c.loop-router.routers.items _ c.loop-router.router c.routers-router-end.result c.loop-router-test.false c.loop-router.invariant
    ∙ ap (λ n. map (opening_router_of c.args.network.now) (range_with_len 0 n)) c.routers-router-end.ensures.number
