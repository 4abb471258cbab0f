use Rattle.std.proofs.Common.{ap, ◌∙◌}
use Rattle.journal.specs.Journal.{journal_text}
use Rattle.play.proofs.Kept.{kept_is}
use Rattle.play.proofs.keeping.add_journal.Goals as goal

pub returns : goal.returns
returns g c =
    kept_is c.write_steps.result c.print_report.result c.is_err.result c.is_err-else-is_err.result (g.W.Write.contents c.args.kept.now) (g.W.Write.contents c.write_steps.new.out) (g.W.Write.contents c.print_report.new.out)
    (journal_text c.args.directory.now c.links-links.result.now c.journal.result.now) (journal_text c.args.directory.now c.args.fabric.now.network.links c.args.fabric.now.journal)
    c.is_err.ensures.value c.if-is_err.false c.is_err-else-is_err.ensures.value c.if-is_err-2.false c.write_steps.ensures c.print_report.ensures
    (ap (λ ls. journal_text c.args.directory.now ls c.journal.result.now) (c.links-links.ensures.links ∙ ap (λ n. n.links) c.network.ensures.network)
    ∙ ap (λ ss. journal_text c.args.directory.now c.args.fabric.now.network.links ss) c.journal.ensures.journal)
