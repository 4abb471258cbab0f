use Rattle.std.proofs.Common.{◌≡◌, List, sym, ap, subst, ◌∙◌}
use Rattle.network_model.proofs.Common.{Prefix, prefix_cmp, sorted-map, Router}
use Rattle.dual_machine.specs.State.{MachineState}
use Rattle.route_table.specs.Place.{without}
use Rattle.route_table.proofs.Forgotten.{map-without}
use Rattle.router_core.specs.{Alone.router_forgetting, Parts.router_of, Parts.machines_of, Parts.IsRouter}
use Rattle.router_core.proofs.Kept.{kept-forgetting}
use Rattle.router_core.proofs.router.Router.forget.Given as given
use Rattle.router_core.proofs.router.Router.forget.Goals as goal

pub remove_machine-requires : goal.remove_machine-requires
remove_machine-requires g c = sym (sorted-map prefix_cmp (λ s. s.machine) c.self.inside.machines.items) ∙ c.self.invariant.sorted

module _ (g : given.Over) (c : goal.After-self-1 g) where
  abbrev before : Router
  before = router_of c.self.inside.ports.items c.self.inside.machines.items c.self.inside.effects.table.table c.self.inside.effects.gate.gate c.self.inside.generation

  forgot : router_of c.self.inside.ports.items c.remove_machine.new.machines.items c.forget.new.self.table c.self.inside.effects.gate.gate c.self.inside.generation ≡ router_forgetting c.args.prefix before
  forgot =
      let i = c.self.inside in
      ap (λ (ms : List (Prefix × MachineState)). router_of i.ports.items ms c.forget.new.self.table i.effects.gate.gate i.generation) c.remove_machine.ensures
      ∙ ap (λ ms. record before { machines = ms; table = c.forget.new.self.table }) (map-without (λ (s : MachineState). s.machine) c.args.prefix i.machines.items)
      ∙ ap (λ t. record before { machines = without c.args.prefix (machines_of i.machines.items); table = t }) c.forget.ensures.table

pub invariant_of-self : goal.invariant_of-self
invariant_of-self g c = subst IsRouter (sym (forgot g c)) (kept-forgetting c.args.prefix (before g c) c.self.invariant)

pub returns : goal.returns
returns g c = forgot g c ∙ ap (router_forgetting c.args.prefix) c.self.view_is
