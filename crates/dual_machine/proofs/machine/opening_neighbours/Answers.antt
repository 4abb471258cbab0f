use Rattle.std.proofs.Common.{rules, ◌≡◌, ◌+◌, ◌++◌, [], ◌∷◌, List, length, take, sym, ap, ap₂, ◌∙◌, subst, arith, add-one, length-append}
use Rattle.std.proofs.{Math.Seq.take-suc, lemmas.List.map-append, lemmas.List.Elements.All-append, lemmas.List.Elements.All-cons}
use Rattle.std.specs.List.{All}
use Rattle.metric.specs.Distance.{IsCost, infinity}
use Rattle.network_model.specs.{declared.machine.Neighbour.Neighbour, declared.machine.PortInfo.PortInfo}
use Rattle.dual_machine.specs.State as state
use Rattle.dual_machine.proofs.machine.opening_neighbours.Goals as goal

pub loop-port-preserved : goal.loop-port-preserved
loop-port-preserved g c =
    let ports = c.args.ports.now in
    let before = c.loop-port.neighbours.items in
    let made = c.opening_neighbour.result in
    let items : c.push_reserved.new.self.items ≡ before ++ made ∷ [] = c.push_reserved.ensures.items in
    let taken : take (c.loop-port.port-index + 1) ports ≡ take c.loop-port.port-index ports ++ c.port-item.result ∷ []
    = ap (λ n. take n ports) (add-one c.loop-port.port-index) ∙ take-suc ports c.loop-port.port-index c.port-item.result (omega arith) ∙ ap (λ x. take c.loop-port.port-index ports ++ x ∷ []) (sym c.port-item.is) in
    record {
      so_far = items ∙ ap₂ (λ (ns : List Neighbour) (n : Neighbour). ns ++ n ∷ []) c.loop-port.invariant.so_far c.opening_neighbour.ensures.value
          ∙ sym (map-append (λ (p : PortInfo). record { up = p.up; cost = p.cost; reported = infinity }) (take c.loop-port.port-index ports) (c.port-item.result ∷ []))
          ∙ ap state.opening_neighbours (sym taken);
      costs = subst (All (λ n. IsCost n.cost)) (sym items) (All-append (λ n. IsCost n.cost) before (made ∷ []) c.loop-port.invariant.costs (All-cons (λ n. IsCost n.cost) made [] c.opening_neighbour.ensures.cost (λ k d h. absurd (omega arith))));
      count = ap length items ∙ length-append before (made ∷ []) ∙ ap (λ n. n + 1) c.loop-port.invariant.count;
      room = search rules;
    }
