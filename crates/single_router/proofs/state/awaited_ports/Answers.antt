use Rattle.std.proofs.Common.{rules, arith, ◌≡◌, ◌++◌, ◌∷◌, [], sym, ◌∙◌, length-set}
use Rattle.std.proofs.{lemmas.List.take_more_set, lemmas.List.FromFn.map-range_with_len_more}
use Rattle.single_router.specs.States.{awaited_flag}
use Rattle.single_router.proofs.state.awaited_ports.Goals as goal

pub loop-port-preserved : goal.loop-port-preserved
loop-port-preserved c =
    let port = c.loop-port.port in
    let before = c.loop-port.awaited in
    let flag : c.from.result ≡ awaited_flag (c.args.machine.now).machine.computation port = search rules in
    record {
      count = length-set before port c.from.result ∙ c.loop-port.invariant.count;
      first = take_more_set before port c.from.result (omega (arith, c.loop-port.invariant.count))
          ∙ (λ i. c.loop-port.invariant.first i ++ flag i ∷ [])
          ∙ sym (map-range_with_len_more (awaited_flag (c.args.machine.now).machine.computation) 0 port port (omega arith));
    }
