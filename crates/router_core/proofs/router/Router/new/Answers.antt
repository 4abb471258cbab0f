use Rattle.std.proofs.Common.{◌≡◌, ℕ, Some, sym, ap, subst, ◌∙◌, arith, ◌-◌, drop, map, List, refl}
use Rattle.network_model.proofs.Common.{put, is_sorted, AllByRecursion, chosen_rows, Prefix, prefix_cmp, Machine, opening_machine, Router, Table, Gate, neighbours, rows_of, opening_router, sorted-map, sorted-rows_of}
use Rattle.network_model.specs.{declared.network.Port.Port, declared.route.Entry.Entry, declared.route.Entry.TheVariants.Local, declared.network.Offer.TheVariants.One, World.opening_hops}
use Rattle.dual_machine.specs.State.{opening_neighbours}
use Rattle.router_core.specs.Parts.{machines_of, HasPorts, IsRouter}
use Rattle.router_core.proofs.Kept.{kept-opening}
use Rattle.router_core.proofs.Opening.{neighbours-infos, rows_of-earlier, opening_machines, local_rows, opening_machines-put, local_rows-put, sorted-machines, machines_of-put}
use Rattle.router_core.proofs.router.Router.new.Goals as goal

pub put_machine-requires : goal.put_machine-requires
put_machine-requires g c =
    let rows = rows_of (drop c.loop-i.i c.args.attachments.now) in
    sorted-machines c.loop-i.machines.items _ c.loop-i.invariant.machines (sorted-map prefix_cmp (λ (cost : ℕ). opening_machine (Some cost) (neighbours c.args.ports.items)) rows ∙ sorted-rows_of (drop c.loop-i.i c.args.attachments.now))

pub loop-i-preserved : goal.loop-i-preserved
loop-i-preserved g c =
    let here = c.index-attachments-i.result in
    let rows = rows_of (drop c.loop-i.i c.args.attachments.now) in
    let earlier : rows_of (drop (c.loop-i.i - 1) c.args.attachments.now) ≡ put prefix_cmp here.0 here.1 rows = rows_of-earlier c.args.attachments.now c.loop-i.i here (omega arith) (omega arith) c.index-attachments-i.is in
    let infos : opening_neighbours c.deref-in-loop-i.result.now ≡ neighbours c.args.ports.items
    = ap opening_neighbours (c.deref-in-loop-i.ensures.value ∙ c.in_ok-infos.ensures ∙ ap (map (λ (p : Port). record { up = p.up; cost = p.cost })) c.deref.ensures.value) ∙ neighbours-infos c.args.ports.items in
    let machine : c.in_ok-machine.machine.machine ≡ opening_machine (Some here.1) (neighbours c.args.ports.items)
    = ap (λ s. s.machine) c.in_ok-machine.ensures.ok ∙ ap (opening_machine (Some here.1)) infos in
    record {
      machines = ap machines_of c.in_ok-put_machine.ensures.ok
          ∙ machines_of-put here.0 c.in_ok-machine.machine c.loop-i.machines.items
          ∙ ap (λ x. put prefix_cmp here.0 x (machines_of c.loop-i.machines.items)) machine
          ∙ ap (put prefix_cmp here.0 (opening_machine (Some here.1) (neighbours c.args.ports.items))) c.loop-i.invariant.machines
          ∙ sym (ap (opening_machines c.args.ports.items) earlier ∙ opening_machines-put c.args.ports.items here.0 here.1 rows);
      control = c.in_ok-set.ensures.control
          ∙ ap (put prefix_cmp here.0 Local) c.loop-i.invariant.control
          ∙ sym (ap local_rows earlier ∙ local_rows-put here.0 here.1 rows);
    }

pub invariant_of-result : goal.invariant_of-result
invariant_of-result g c =
    let ports = c.args.ports.items in
    let costs = rows_of c.args.attachments.now in
    let kept : IsRouter (opening_router ports costs) = kept-opening ports costs c.requires (sorted-rows_of c.args.attachments.now) in
    let over : c.loop-i.i ≡ 0 = omega arith in
    let machines : machines_of c.loop-i.machines.items ≡ opening_machines ports costs = c.loop-i.invariant.machines ∙ ap (λ n. opening_machines ports (rows_of (drop n c.args.attachments.now))) over in
    let control : c.loop-i.table.table.control ≡ local_rows costs = c.loop-i.invariant.control ∙ ap (λ n. local_rows (rows_of (drop n c.args.attachments.now))) over in
    record {
      few = c.requires;
      sorted = ap (is_sorted prefix_cmp) machines ∙ kept.sorted;
      same_ports = subst (AllByRecursion (HasPorts ports)) (sym machines) kept.same_ports;
      rows = ap (λ t. t.table.control) c.in_ok-effects.ensures.table ∙ ap (λ t. t.control) c.mark_published.ensures.table ∙ control ∙ kept.rows ∙ ap (chosen_rows ports) (sym machines);
      hops = refl;
    }

pub returns : goal.returns
returns g c =
    let ports = c.args.ports.items in
    let costs = rows_of c.args.attachments.now in
    let over : c.loop-i.i ≡ 0 = omega arith in
    let machines : machines_of c.loop-i.machines.items ≡ opening_machines ports costs = c.loop-i.invariant.machines ∙ ap (λ n. opening_machines ports (rows_of (drop n c.args.attachments.now))) over in
    let control : c.loop-i.table.table.control ≡ local_rows costs = c.loop-i.invariant.control ∙ ap (λ n. local_rows (rows_of (drop n c.args.attachments.now))) over in
    let parts : List (Prefix × Machine) → Table → Gate → Router = λ ms t g. record { ports = ports; machines = ms; table = t; hops = opening_hops One; gate = g; generation = 0 } in
    let in_force : List (Prefix × Entry) → Table = λ rows. record { control = rows; published = rows } in
    ap (λ ms. parts ms c.in_ok-effects.effects.table.table c.in_ok-effects.effects.gate.gate) machines
    ∙ ap (λ t. parts (opening_machines ports costs) t c.in_ok-effects.effects.gate.gate) (ap (λ t. t.table) c.in_ok-effects.ensures.table ∙ c.mark_published.ensures.table ∙ ap in_force control)
    ∙ ap (parts (opening_machines ports costs) (in_force (local_rows costs))) c.in_ok-effects.ensures.gate
