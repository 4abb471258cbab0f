use Rattle.std.proofs.Common.{inl, inr}
use Rattle.play.proofs.Trying.{tried_one}
use Rattle.play.proofs.shell.do_typed.Goals as goal

pub returns-in_err-do_command : goal.returns-in_err-do_command
returns-in_err-do_command g c =
    tried_one g.N.Live.meaning c.in_ok-command.command c.args.net.now c.do_command.new.net (inr (c.in_err-do_command.field-0.0, c.in_err-do_command.ensures.err))

pub returns : goal.returns
returns g c = tried_one g.N.Live.meaning c.in_ok-command.command c.args.net.now c.do_command.new.net (inl c.in_ok-do_command.ensures.ok)
