use Rattle.std.proofs.Common.{◌∙◌, ◌++◌, ◌∷◌, [], ap, sym, arith}
use Rattle.std.proofs.lemmas.Option.{none-some}
use Rattle.network_model.proofs.{ListLaws.element_there, Fronts.take_next}
use Rattle.router_core.proofs.holding.held_messages.Goals as goal
use Rattle.router_core.proofs.holding.held_messages.Goals.{in-Some+in_ok-push, in_default}

pub loop-place-preserved : goal.loop-place-preserved
loop-place-preserved c =
    let held = (c.args.router.now).gate.held in
    let place = c.loop-place.place in
    elim c.match-message.branch [
      | in-Some+in_ok-push w ↦
          ap (λ v. v.items) w.messages-is ∙ w.in_ok-push.ensures.items ∙ ap (λ xs. xs ++ w.in-Some.message ∷ []) c.loop-place.invariant
          ∙ sym (take_next held place w.in-Some.message (sym w.in-Some.ensures))
      | in_default w ↦
          let there = element_there held place (omega arith) in
          absurd (none-some there.0 (w.in_default.ensures ∙ there.1))
    ]
