use Rattle.std.proofs.Common.{◌∙◌, sym}
use Rattle.timed_reports.proofs.Watching.{none_ended}
use Rattle.timed_reports.proofs.spells.note.Goals as goal

pub returns-in_default-clause-ended : goal.returns-in_default-clause-ended
returns-in_default-clause-ended g c = none_ended c.args.all.now.items c.args.ended.now.items c.args.place c.args.now c.args.holds c.index.result.now c.index.ensures (sym c.see-written.ensures.ended ∙ c.in_default.is)
