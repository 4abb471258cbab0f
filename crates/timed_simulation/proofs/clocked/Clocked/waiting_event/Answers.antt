use Rattle.std.proofs.Common.{◌≡◌, ◌∙◌, ◌<◌, ◌≤◌, Some, None, sym, ap, subst, arith, length}
use Rattle.no_packet_loops.proofs.Common.{IsNetwork, Some_injective, World, degree_of, place_at}
use Rattle.timed_simulation.specs.{Timed.world_of, Events.arrival_event, Runs.steps_of}
use Rattle.timed_simulation.proofs.Ports.{few, has_degree, past_places, port_of_place}
use Rattle.timed_simulation.proofs.Soonest.{soonest_more, waiting_is}
use Rattle.timed_simulation.proofs.clocked.Clocked.waiting_event.Goals as goal

pub home_event-requires-clause-port : goal.home_event-requires-clause-port
home_event-requires-clause-port g c =
    let w : World = c.self.inside.simulation.world in
    let same : world_of c.args.self.now ≡ w = sym (ap world_of c.self.view_is) in
    let D = has_degree c.self.inside.simulation.network (steps_of c.self.invariant.done) w c.self.invariant.runs c.args.router (subst (λ (v : World). c.args.router < length v.routers) same c.requires) in
    let degree : degree_of (world_of c.args.self.now) c.args.router ≡ Some D.0 = ap (λ v. degree_of v c.args.router) same ∙ D.1 in
    let none : place_at w c.args.router c.loop-port.port ≡ None = ap (λ v. place_at v c.args.router c.loop-port.port) (sym c.world.ensures) ∙ sym c.port.ensures ∙ c.in_default.is in
    let over = past_places w c.args.router c.loop-port.port D.0 D.1 none in
    let within = c.loop-port.invariant.within D.0 degree in
    let at : D.0 ≡ c.loop-port.port = omega (arith, over, within) in
    degree ∙ ap Some at

pub returns-in_default : goal.returns-in_default
returns-in_default g c =
    let w : World = c.self.inside.simulation.world in
    let same : world_of c.args.self.now ≡ w = sym (ap world_of c.self.view_is) in
    let D = has_degree c.self.inside.simulation.network (steps_of c.self.invariant.done) w c.self.invariant.runs c.args.router (subst (λ (v : World). c.args.router < length v.routers) same c.requires) in
    let degree : degree_of (world_of c.args.self.now) c.args.router ≡ Some D.0 = ap (λ v. degree_of v c.args.router) same ∙ D.1 in
    let none : place_at w c.args.router c.loop-port.port ≡ None = ap (λ v. place_at v c.args.router c.loop-port.port) (sym c.world.ensures) ∙ sym c.port.ensures ∙ c.in_default.is in
    let over = past_places w c.args.router c.loop-port.port D.0 D.1 none in
    let within = c.loop-port.invariant.within D.0 degree in
    let at : c.loop-port.port ≡ D.0 = omega (arith, over, within) in
    waiting_is c.args.self.now c.args.router D.0 c.loop-port.port c.loop-port.first c.publication_event.result c.sooner-taken.result c.home_event.result c.sooner.result
    degree at c.loop-port.invariant.so_far c.publication_event.ensures c.sooner-taken.ensures c.home_event.ensures c.sooner.ensures

pub loop-port-preserved : goal.loop-port-preserved
loop-port-preserved g c =
    let w : World = c.self.inside.simulation.world in
    let same : world_of c.args.self.now ≡ w = sym (ap world_of c.self.view_is) in
    let there : place_at w c.args.router c.loop-port.port ≡ Some c.in-Some.place = ap (λ v. place_at v c.args.router c.loop-port.port) (sym c.world.ensures) ∙ sym c.port.ensures ∙ c.in-Some.is in
    let P = port_of_place w c.args.router c.loop-port.port c.in-Some.place there in
    record {
      so_far = soonest_more (arrival_event c.args.self.now c.args.router) c.loop-port.port c.loop-port.first c.arrival_event.result c.sooner-first.result c.loop-port.invariant.so_far c.arrival_event.ensures c.sooner-first.ensures;
      within = λ d degree.
          let is : d ≡ P.0 = Some_injective (sym degree ∙ ap (λ v. degree_of v c.args.router) same ∙ P.1) in
          let below = P.2 in
          omega (arith, is, below);
    }

pub unreachable-requires : goal.unreachable-requires
unreachable-requires g c =
    let w : World = c.self.inside.simulation.world in
    let same : world_of c.args.self.now ≡ w = sym (ap world_of c.self.view_is) in
    let D = has_degree c.self.inside.simulation.network (steps_of c.self.invariant.done) w c.self.invariant.runs c.args.router (subst (λ (v : World). c.args.router < length v.routers) same c.requires) in
    let most : D.0 ≤ 32 = few c.self.inside.simulation.network (subst IsNetwork c.network.ensures c.routers-routers.ensures.valid) (steps_of c.self.invariant.done) w c.self.invariant.runs c.args.router D.0 D.1 in
    let within = c.loop-port.invariant.within D.0 (ap (λ v. degree_of v c.args.router) same ∙ D.1) in
    let over = c.loop-port-test.false in
    omega (arith, most, within, over)
