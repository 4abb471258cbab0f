use Rattle.std.proofs.Common.{rules, arith, ◌≡◌, ◌++◌, ◌∷◌, [], sym, ◌∙◌, length-set}
use Rattle.std.proofs.{lemmas.List.take_more_set, lemmas.List.FromFn.map-range_with_len_more}
use Rattle.network_calls.specs.Shown.{neighbour_shown}
use Rattle.network_calls.proofs.machine.neighbours_of.Goals as goal

pub loop-port-preserved : goal.loop-port-preserved
loop-port-preserved c =
    let port = c.loop-port.port in
    let before = c.loop-port.shown in
    let m = (c.args.machine.now).machine in
    let kept : c.neighbour_at.result ≡ neighbour_shown m port = search rules in
    record {
      count = length-set before port c.neighbour_at.result ∙ c.loop-port.invariant.count;
      first = take_more_set before port c.neighbour_at.result (omega (arith, c.loop-port.invariant.count))
          ∙ (λ i. c.loop-port.invariant.first i ++ kept i ∷ [])
          ∙ sym (map-range_with_len_more (neighbour_shown m) 0 port port (omega arith));
    }
