use Rattle.std.proofs.Common.{rules, ◌≡◌, ◌+◌, ◌-◌, ◌++◌, [], ◌∷◌, All, subst, sym, arith}
use Rattle.std.proofs.lemmas.List.Elements.{All-append}
use Rattle.fabric.specs.Writers.{IsReaderPort}
use Rattle.fabric.proofs.ReaderLists.{all_one}
use Rattle.fabric.proofs.ports.deal.Goals as goal

pub loop-done-init : goal.loop-done-init
loop-done-init g c = record {
  all = search rules;
  given = search rules;
  room = search rules;
  stock = c.in_ok-own.ensures.stock (c.args.workers - 0) (omega arith);
  ports = subst (All (λ port. IsReaderPort c.args.lists.len port.items)) (sym c.in_ok-ports.ensures.items) (λ k d less. absurd (omega (arith, less)));
}

pub loop-done-preserved : goal.loop-done-preserved
loop-done-preserved g c =
    let v = c.loop-done.invariant in
    let pushed : c.push_reserved.new.self.items ≡ c.loop-done.ports.items ++ c.in_ok-take_port.field-0 ∷ [] = search rules in
    record {
      all = search rules;
      given = search rules;
      room = search rules;
      stock = c.in_ok-take_port.ensures.stock (c.args.workers - (c.loop-done.done + 1)) (omega arith);
      ports = subst (All (λ port. IsReaderPort c.args.lists.len port.items)) (sym pushed)
          (All-append (λ port. IsReaderPort c.args.lists.len port.items) c.loop-done.ports.items (c.in_ok-take_port.field-0 ∷ []) v.ports
          (all_one (λ port. IsReaderPort c.args.lists.len port.items) c.in_ok-take_port.field-0 (subst (λ n. IsReaderPort n c.in_ok-take_port.field-0.items) v.all c.in_ok-take_port.ensures.port)));
    }
