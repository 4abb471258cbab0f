use Rattle.std.proofs.Common.{sym, arith}
use Rattle.network_model.proofs.ListLaws.{changed_at_written}
use Rattle.timed_simulation.proofs.Lists.{changed_past}
use Rattle.timing.proofs.given.set_one.Goals as goal

pub returns-then-one-len : goal.returns-then-one-len
returns-then-one-len g c =
    let count = c.len.ensures in
    let over = c.if-one-len.true in
    let ok = c.args.values.now.ok.0 in
    sym (changed_past (λ _. c.args.one.now.value) c.args.one.now.number c.args.values.now.items (omega (arith, count, over, ok)))

pub returns : goal.returns
returns g c = sym (changed_at_written (λ _. c.args.one.now.value) c.args.one.now.number c.args.values.now.items c.index_mut.result.now c.index_mut.ensures.value)
