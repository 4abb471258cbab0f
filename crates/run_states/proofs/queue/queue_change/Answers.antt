use Rattle.std.proofs.Common.{◌∙◌, ◌++◌, sym, ap}
use Rattle.run_states.proofs.Same.{item_same, starts_same}
use Rattle.run_states.proofs.queue.queue_change.Goals as goal

pub returns-then-starts_with-clause-after : goal.returns-then-starts_with-clause-after
returns-then-starts_with-clause-after c =
    let now = c.args.now.now in
    let n = c.len.result in
    let put = c.in_ok-put.ensures.items_if_clones_equal (λ x y same. same) in
    ap (λ xs. xs ++ (c.in_ok-put.put).items) (sym (c.deref.ensures.value ∙ c.in_ok-left.ensures)) ∙ ap (λ xs. c.deref.result.now ++ xs) put
    ∙ starts_same _ item_same now c.deref.result.now n (c.len.ensures ∙ sym c.deref.ensures.len) c.if-starts_with.ensures.value
