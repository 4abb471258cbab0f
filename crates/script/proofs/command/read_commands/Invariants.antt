use Rattle.std.proofs.Common.{◌≡◌, length}
use Rattle.script.proofs.Common.{IsCommand, ReadsFirst, texts}
use Rattle.script.proofs.command.read_commands.Given as goal

abbrev pub invariant-loop-position : goal.invariant-loop-position
invariant-loop-position l = record {
  reads : ReadsFirst (IsCommand l.names l.links l.attachments) (texts l.lines) l.commands.items;
  count : length l.commands.items ≡ l.position;
}
