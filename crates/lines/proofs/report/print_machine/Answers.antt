use Rattle.std.proofs.Common.{Some, None, subst}
use Rattle.std.proofs.lemmas.Result.{on_ok_weaker}
use Rattle.lines.specs.Report.{IsMachineLine}
use Rattle.lines.proofs.report.print_machine.Goals as goal

pub returns-in-Some : goal.returns-in-Some
returns-in-Some g c =
    on_ok_weaker c.print.result
    (λ printed. (Some c.in-Some.line, subst (IsMachineLine c.args.number c.args.router.now c.args.prefix) c.in-Some.is c.machine_line.ensures, printed)) c.print.ensures

pub returns-in-None : goal.returns-in-None
returns-in-None g c =
    on_ok_weaker c.print-in-None.result
    (λ printed. (None, subst (IsMachineLine c.args.number c.args.router.now c.args.prefix) c.in-None.is c.machine_line.ensures, printed)) c.print-in-None.ensures
