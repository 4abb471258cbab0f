use Rattle.std.proofs.Common.{rules, [], ◌∷◌, ◌∙◌, append_assoc}
use Rattle.no_packet_loops.proofs.Common.{Prefix, Entry}
use Rattle.texts.proofs.Printed.{part_more}
use Rattle.lines.specs.{declared.answers.Asked.TheVariants.Row, declared.line.Line.TheVariants.Asked, Formats.printed}
use Rattle.lines.proofs.report.print_table.Goals as goal

pub loop-prefix-preserved : goal.loop-prefix-preserved
loop-prefix-preserved g c =
    let row : Prefix × Entry = (c.in-Some.prefix, c.in-Some.entry) in
    record {
      told = part_more (λ row. printed c.args.printer.now (Asked (Row c.args.router row.0 row.1)))
          c.loop-prefix.yielded row _ (g.W.Write.contents c.loop-prefix.out) (g.W.Write.contents c.print.new.out) c.loop-prefix.invariant.told c.in_ok-print.ensures;
      rows = append_assoc c.loop-prefix.yielded (row ∷ []) c.next.new.self ∙ search (rules, c.in-Some.ensures, c.loop-prefix.invariant.rows);
    }
