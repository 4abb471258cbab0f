use Rattle.std.proofs.Common.{◌≡◌, ℕ, true, List, Bool, map, length, arith, ap, subst, sym, ◌∙◌}
use Rattle.std.specs.{List.list_any, FinSet.contains}
use Rattle.std.proofs.lemmas.Grind.{common_steps}
use Rattle.network_model.specs.{declared.machine.Neighbour.Neighbour, Machine.port_count}
use Rattle.diffusing_replies.specs.Ports.{Ports}
use Rattle.dual_machine.specs.{State.MachineState, Parts.IsDebtOf, Awaited.awaited_of, Event.is_neighbour_up}
use Rattle.dual_machine.proofs.Awaiting.{list_any-map, awaited_of-up, AwaitsBelow-up}
use Rattle.dual_machine.proofs.machine.Machine.begin.Goals as goal

pub invariant_of-self : goal.invariant_of-self
invariant_of-self g c =
    let i = c.self.inside in
    let ports = (i.ports).items in
    let up = λ (ns : List Neighbour). list_any (λ n. n.up) ns in
    let asked : (q : ℕ) → contains c.begin-replies.result q ≡ is_neighbour_up ports q =
    λ q. ap (λ (s : Ports). contains s q) c.begin-replies.ensures ∙ c.up_ports.ensures q ∙ ap (λ (ns : List Neighbour). is_neighbour_up ns q) c.deref-then-is_any_up-3.ensures in
    let any : up ports ≡ true = ap up (sym c.deref.ensures) ∙ sym c.is_any_up.ensures ∙ c.if-is_any_up.true in
    let asking = ap (λ (bs : List Bool). list_any (λ b. b) bs) (awaited_of-up _ ports asked) ∙ list_any-map ports ∙ any in
    let debt = subst (λ (s : MachineState). IsDebtOf (port_count s.machine) c.args.origin (s.machine).successor c.args.debt) (sym c.self.view_is) c.requires.debt in
    record { few = c.self.invariant.few; costs = c.self.invariant.costs; attached = c.self.invariant.attached; under_way = record { asking = asking; known = AwaitsBelow-up _ ports asked; debt = debt } }

pub returns-then-is_any_up-clause-machine : goal.returns-then-is_any_up-clause-machine
returns-then-is_any_up-clause-machine g c =
    let ports = ((c.self.inside).ports).items in
    let asked : (q : ℕ) → contains c.begin-replies.result q ≡ is_neighbour_up ports q =
    λ q. ap (λ (s : Ports). contains s q) c.begin-replies.ensures ∙ c.up_ports.ensures q ∙ ap (λ (ns : List Neighbour). is_neighbour_up ns q) c.deref-then-is_any_up-3.ensures in
    let awaited : awaited_of (length ports) c.begin-replies.result ≡ map (λ n. n.up) ports = awaited_of-up _ ports asked in
    grind (arith, common_steps)
