use Rattle.std.proofs.Common.{◌≡◌, ◌∙◌, Err, false, ap, subst, sym, rules}
use Rattle.std.proofs.lemmas.Result.{err_from_is_err_and}
use Rattle.publication.specs.Outings.{Outing}
use Rattle.guarded.specs.Served.{IsTurn}
use Rattle.guarded.proofs.Shares.{began, handed_back, out_of_memory}
use Rattle.control.proofs.control.Control.turn_with.Goals as goal

pub returns-in-Err-clause-turn : goal.returns-in-Err-clause-turn
returns-in-Err-clause-turn g c =
    let t = c.begin-done.ensures.turn in
    (t.0, t.1, handed_back t.0 c.args.router (began t.0 c.args.router c.begin-done.result.0 c.begin-done.result.1 c.in-Some.errand (λ (o : Outing). o.is_published ≡ false) (λ (o : Outing). o.before.router ≡ c.args.router) t.2 t.3 c.in-Some.is))

pub returns-in_err-published-clause-turn : goal.returns-in_err-published-clause-turn
returns-in_err-published-clause-turn g c =
    let t = c.begin-done.ensures.turn in
    let e = err_from_is_err_and c.from_residual.result c.from_residual.ensures.1 in (
      t.0,
      t.1,
      subst (IsTurn t.0 c.args.router) (sym (e.1 ∙ ap Err e.2))
          (out_of_memory t.0 c.args.router (began t.0 c.args.router c.begin-done.result.0 c.begin-done.result.1 c.in-Some.errand (λ (o : Outing). o.is_published ≡ false) (λ (o : Outing). o.before.router ≡ c.args.router) t.2 t.3 c.in-Some.is)),
    )

pub returns-in_default-clause-back : goal.returns-in_default-clause-back
returns-in_default-clause-back g c = search rules

pub returns-in-Err-clause-back : goal.returns-in-Err-clause-back
returns-in-Err-clause-back g c = search rules

pub returns-in_err-published-clause-back : goal.returns-in_err-published-clause-back
returns-in_err-published-clause-back g c = search rules

pub returns-clause-back : goal.returns-clause-back
returns-clause-back g c = search rules
