use Rattle.lines.proofs.Printed.{prints_ok}
use Rattle.lines.proofs.report.print_report.Goals as goal

pub returns : goal.returns
returns g c =
    prints_ok c.print_routers.result (g.W.Write.contents c.args.out.now) (g.W.Write.contents c.print_links.new.out) (g.W.Write.contents c.print_routers.new.out)
    c.in_ok-print_links.ensures c.print_routers.ensures
