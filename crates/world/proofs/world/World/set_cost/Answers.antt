use Rattle.std.proofs.Common.{sym, subst, Ok}
use Rattle.no_packet_loops.proofs.Common.{IsCost, World, refusal, SetCost}
use Rattle.link_fifo.specs.Refusals.{refusal_to_change}
use Rattle.world.specs.Steps.{IsPort, IsDoneOr}
use Rattle.world.proofs.Insides.{world_in}
use Rattle.world.proofs.Done.{not_refused, set_cost-keeps, done_on_link, refused_by_link, set_cost_refusal}
use Rattle.world.proofs.world.World.set_cost.Goals as goal
use Rattle.world.proofs.world.World.set_cost.Goals.{In_ok-place}
use Rattle.world.proofs.world.World.set_cost.Given as given

-- the port of this place is there
port_is : (g : given.Over) (c : In_ok-place g) → IsPort (world_in c.self.inside) c.args.router c.args.port c.in_ok-place.place
port_is g c = subst (λ w. IsPort w c.args.router c.args.port c.in_ok-place.place) (sym c.self.view_is) c.in_ok-place.ensures.ok

pub invariant_of-self-2 : goal.invariant_of-self-2
invariant_of-self-2 g c =
    set_cost-keeps (world_in c.self.inside) c.args.router c.args.port c.in_ok-place.place c.args.cost c.set_cost.new.self.links
    (subst IsCost c.value.ensures.value c.value.ensures.cost) (port_is g (goal.at.invariant_of-self-2 g c).In_ok-place)
    (not_refused (refusal_to_change c.self.inside.links.links (c.in_ok-place.place).link) c.in_ok-set_cost.field-0 c.in_ok-set_cost.ensures.cause) c.in_ok-set_cost.ensures.ok c.self.invariant

pub returns-in_err-set_cost-clause-cause : goal.returns-in_err-set_cost-clause-cause
returns-in_err-set_cost-clause-cause g c =
    subst (λ (w : World). IsDoneOr (refusal w (SetCost c.args.router c.args.port c.args.cost)) c.from_residual-in_err-set_cost.result) c.self.view_is
    (refused_by_link (refusal_to_change c.self.inside.links.links (c.in_ok-place.place).link) c.in_err-set_cost.field-0.0 c.from_residual-in_err-set_cost.result
    (set_cost_refusal (world_in c.self.inside) c.args.router c.args.port c.in_ok-place.place c.args.cost (port_is g (goal.at.returns-in_err-set_cost-clause-cause g c).In_ok-place))
    c.in_err-set_cost.ensures.cause c.from_residual-in_err-set_cost.ensures.1)

pub returns-clause-cause : goal.returns-clause-cause
returns-clause-cause g c =
    subst (λ (w : World). IsDoneOr (refusal w (SetCost c.args.router c.args.port c.args.cost)) (Ok (tt {0}))) c.self.view_is
    (done_on_link (refusal_to_change c.self.inside.links.links (c.in_ok-place.place).link) c.in_ok-set_cost.field-0
    (set_cost_refusal (world_in c.self.inside) c.args.router c.args.port c.in_ok-place.place c.args.cost (port_is g (goal.at.returns-clause-cause g c).In_ok-place))
    c.in_ok-set_cost.ensures.cause)
