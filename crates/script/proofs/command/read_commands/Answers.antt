use Rattle.std.proofs.Common.{◌+◌, inr, length, ap, ◌∙◌}
use Rattle.script.proofs.{Common.length_push, Common.IsCommand, Common.IsCommandFault, ReadLines.reads_none, ReadLines.reads_line, ReadLines.stops_line}
use Rattle.script.specs.declared.place.Key.TheVariants.{Script}
use Rattle.script.proofs.command.read_commands.Goals as goal

pub loop-position-init : goal.loop-position-init
loop-position-init c = record { reads = reads_none _ _ _ c.requires; count = ap length c.requires }

pub returns-in_err-push-in-Ok-clause-read : goal.returns-in_err-push-in-Ok-clause-read
returns-in_err-push-in-Ok-clause-read c = rw c.in_err-push-in-Ok.ensures.items c.loop-position.invariant.reads

pub returns-in-Err-clause-stop : goal.returns-in-Err-clause-stop
returns-in-Err-clause-stop c =
    inr (stops_line (IsCommandFault c.args.names.now c.args.links.now c.args.attachments.now) Script c.args.lines.now c.loop-position.commands.items c.loop-position.position c.index-lines-position.result _ _ _
    c.loop-position.invariant.count c.loop-position-test.true c.index-lines-position.is c.as_str.ensures.value c.in-Err.ensures.err c.at.ensures.fault c.at.ensures.place)

pub loop-position-preserved : goal.loop-position-preserved
loop-position-preserved c = record {
  reads = reads_line (IsCommand c.args.names.now c.args.links.now c.args.attachments.now) c.args.lines.now c.loop-position.commands.items _ c.loop-position.position c.index-lines-position.result _ c.in-Ok.command
      c.loop-position.invariant.reads c.loop-position.invariant.count c.loop-position-test.true c.index-lines-position.is c.as_str.ensures.value c.in-Ok.ensures.ok c.in_ok-push-in-Ok.ensures.items;
  count = ap length c.in_ok-push-in-Ok.ensures.items ∙ length_push c.loop-position.commands.items c.in-Ok.command ∙ ap (λ n. n + 1) c.loop-position.invariant.count;
}
