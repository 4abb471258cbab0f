use Rattle.std.proofs.Common.{OnOk, ◌≡◌, ◌+◌, ◌++◌, [], ◌∷◌, take, sym, ap, subst, ◌∙◌, arith, add-one}
use Rattle.std.proofs.Math.Seq.{take-suc}
use Rattle.script.specs.declared.command.Command.{Command}
use Rattle.interpreter.specs.Commands.{IsDone, AreDone}
use Rattle.interpreter.proofs.Doing.{one_done}
use Rattle.interpreter.proofs.interpreter.do_commands.Goals as goal

pub loop-position-preserved : goal.loop-position-preserved
loop-position-preserved g c =
    let command : Command = c.index-commands-position.result in
    let k = g.N.Live.meaning in
    let after = c.do_command.new.net in
    let is : IsDone k command c.loop-position.net after = subst (λ r. OnOk r (IsDone k command c.loop-position.net after)) c.in-Ok.is c.do_command.ensures.ok in
    let first = take c.loop-position.position c.args.commands.now in
    let commands : take (c.loop-position.position + 1) c.args.commands.now ≡ first ++ command ∷ []
    = ap (λ n. take n c.args.commands.now) (add-one c.loop-position.position) ∙ take-suc c.args.commands.now c.loop-position.position command (omega arith)
    ∙ ap (λ x. first ++ x ∷ []) (sym c.index-commands-position.is) in
    subst (λ cs. AreDone k cs c.args.net.now after) (sym commands) (one_done k first command c.args.net.now c.loop-position.net after c.loop-position.invariant is)
