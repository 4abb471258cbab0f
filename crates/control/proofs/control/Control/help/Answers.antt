use Rattle.std.proofs.Common.{◌≡◌, ◌⊎◌, Some, ap, subst, sym, vec_len}
use Rattle.network_model.specs.declared.step.Refusal.{Refusal}
use Rattle.guarded.specs.Shares.{owes}
use Rattle.guarded.proofs.Shares.{gave_back, halted}
use Rattle.control.proofs.control.Control.help.Goals as goal

pub returns : goal.returns
returns g c =
    let old = owes c.args.share.now in
    let between = owes c.passes-done.new.share in
    let given = owes c.give_all_back-answer.new.share in
    let halt = c.end.new.self.halt in (
      search,
      subst (λ n. (halt ≡ Some Refusal.WrongTicket) ⊎ (n ≡ old)) (ap (λ o. o.amount) (sym c.end.ensures.out))
          (halted c.give_all_back-answer.result halt c.end.ensures.halt
          (gave_back c.passes-done.result c.give_all_back-answer.result old between given _ (vec_len c.passes-done.new.errands) c.passes-done.ensures.back c.no_errands-errands.ensures c.give_all_back-answer.ensures.back)),
    )
