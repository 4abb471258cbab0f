use Rattle.std.proofs.Common.{ap, pos, Some}
use Rattle.command_line.proofs.Narrowed.{narrowed}
use Rattle.command_line.proofs.arguments.known_number.Goals as goal

pub returns : goal.returns
returns c =
    narrowed c.value_parser.result c.range.result _ _ (pos 1) (pos 55) c.value_parser.ensures
    (ap Some c.new.ensures.start) (ap Some c.new.ensures.end) c.range.ensures
