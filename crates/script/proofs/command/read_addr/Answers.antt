use Rattle.std.proofs.Common.{◌∷◌}
use Rattle.script.specs.declared.fault.LineFault.TheVariants.{Prefix as OfPrefix}
use Rattle.script.proofs.{Common.Text, Common.words_of, Common.NamesNoAddress, Exits.at_err}
use Rattle.script.proofs.command.read_addr.Goals as goal

pub returns-in_err-router-clause-err : goal.returns-in_err-router-clause-err
returns-in_err-router-clause-err c =
    let none = c.in_err-router.ensures.err in
    at_err c.from_residual.result (λ e. (verb : Text) → NamesNoAddress c.args.names.now verb (verb ∷ words_of c.args.operands.now) e) c.in_err-router.field-0.0 c.from_residual.ensures.1
    (rw none.0 none.1)

pub returns-in_err-addr-clause-err : goal.returns-in_err-addr-clause-err
returns-in_err-addr-clause-err c =
    at_err c.from_residual-in_err-addr.result (λ e. (verb : Text) → NamesNoAddress c.args.names.now verb (verb ∷ words_of c.args.operands.now) e) (OfPrefix c.in_err-addr.field-0.0) c.from_residual-in_err-addr.ensures.1
    (λ verb. (c.in_err-addr.ensures.bad_address, (c.in_ok-router.router, c.in_ok-router.text.now, c.in_ok-router.ensures.ok verb, c.in_err-addr.ensures.no_address)))
