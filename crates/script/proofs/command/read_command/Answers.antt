use Rattle.std.proofs.Common.{IfErr, sym, subst}
use Rattle.script.specs.Commands.{AsksNothing}
use Rattle.script.proofs.command.read_command.Goals as goal

pub returns-in-Some-clause-err : goal.returns-in-Some-clause-err
returns-in-Some-clause-err c =
    subst (λ words. IfErr c.read_words.result (AsksNothing c.args.names.now c.args.links.now c.args.attachments.now words)) (sym c.in-Some.ensures.some) c.read_words.ensures.err
