use Rattle.std.proofs.Common.{◌∙◌, sym, ap, option_and_then}
use Rattle.no_packet_loops.proofs.Common.{prefix_cmp, Router, Table, find as row_of}
use Rattle.timed_reports.proofs.looks.keeps_row.Goals as goal

pub returns : goal.returns
returns g c = λ same.
    ap (option_and_then (λ (r : Router). row_of prefix_cmp c.args.prefix (r.table).control)) c.router.ensures
    ∙ ap (λ (t : Table). row_of prefix_cmp c.args.prefix t.control) (sym c.table-table.ensures)
    ∙ sym c.get.ensures
    ∙ c.is_same_row.ensures same
    ∙ c.published.ensures
    ∙ ap (λ (t : Table). row_of prefix_cmp c.args.prefix t.published) c.table-table.ensures
    ∙ sym (ap (option_and_then (λ (r : Router). row_of prefix_cmp c.args.prefix (r.table).published)) c.router.ensures)
