use Rattle.std.proofs.Common.{◌∙◌, ap}
use Rattle.fabric.specs.Fabric.{Fabric, next_fabric_step}
use Rattle.guarded.proofs.guarded.Guarded.pass.Goals as goal

-- its step is still what the router has to do
pub turn-requires : goal.turn-requires
turn-requires g c = record { next = ap (λ (f : Fabric). next_fabric_step f c.in-Some.router) c.turn_from.ensures.same ∙ c.in-Some.ensures.some }
