use Rattle.std.proofs.Common.{◌≡◌, None, map, ap, ◌∙◌}
use Rattle.network_model.proofs.Common.{IfOk-weaker, opening_machine, Router, neighbours}
use Rattle.network_model.specs.declared.network.Port.{Port}
use Rattle.dual_machine.specs.State.{MachineState, opening_neighbours}
use Rattle.router_core.proofs.Opening.{neighbours-infos}
use Rattle.router_core.proofs.router.Router.open_machine.Goals as goal

pub returns : goal.returns
returns g c =
    let infos : opening_neighbours c.deref-2.result.now ≡ neighbours c.args.self.now.ports
    = ap opening_neighbours (c.deref-2.ensures.value ∙ c.in_ok-infos.ensures ∙ ap (map (λ (p : Port). record { up = p.up; cost = p.cost })) c.deref.ensures.value)
    ∙ neighbours-infos c.self.inside.ports.items ∙ ap (λ (r : Router). neighbours r.ports) c.self.view_is in
    IfOk-weaker c.new.result (λ (m : MachineState). m ≡ record { machine = opening_machine None (opening_neighbours c.deref-2.result.now); origin = None }) (λ m. m.machine ≡ opening_machine None (neighbours c.args.self.now.ports))
    (λ m is. ap (λ (x : MachineState). x.machine) is ∙ ap (opening_machine None) infos) c.new.ensures.ok
