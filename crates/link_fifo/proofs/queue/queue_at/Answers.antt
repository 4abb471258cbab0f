use Rattle.std.proofs.Common.{◌∙◌, ◌++◌, ◌∷◌, [], ap, sym, arith}
use Rattle.std.specs.Bool.{⊤}
use Rattle.std.proofs.lemmas.Option.{MatchOption-at_some, none-some}
use Rattle.network_model.specs.World.{side}
use Rattle.network_model.proofs.{ListLaws.element_there, Fronts.take_next}
use Rattle.link_fifo.proofs.queue.queue_at.Goals as goal
use Rattle.link_fifo.proofs.queue.queue_at.Goals.{in-Some+in_ok-push, in_default}

pub loop-place-preserved : goal.loop-place-preserved
loop-place-preserved c = λ k at.
    let inbox = (side c.args.to k).inbox in
    let place = c.loop-place.place in
    elim c.match-item.branch [
      | in-Some+in_ok-push w ↦
          ap (λ v. v.items) w.items-is ∙ w.in_ok-push.ensures.items ∙ ap (λ xs. xs ++ w.in-Some.item ∷ []) (c.loop-place.invariant k at)
          ∙ sym (take_next inbox place w.in-Some.item (sym (MatchOption-at_some ⊤ _ k at w.in-Some.ensures.item)))
      | in_default w ↦
          let queued = MatchOption-at_some ⊤ _ k at c.queued-place-end.ensures.queued in
          let there = element_there inbox place (omega (arith, queued)) in
          absurd (none-some there.0 (MatchOption-at_some ⊤ _ k at w.in_default.ensures.item ∙ there.1))
    ]
