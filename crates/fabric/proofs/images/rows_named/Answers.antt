use Rattle.std.proofs.Common.{rules, ◌≡◌, ◌∙◌, ap, sym, true}
use Rattle.std.specs.FinMap.{is_sorted}
use Rattle.no_packet_loops.proofs.Common.{prefix_cmp, with_rows}
use Rattle.fabric.specs.Patches.{rows_to_set}
use Rattle.fabric.proofs.NamedRows.{set_more}
use Rattle.fabric.proofs.images.rows_named.Goals as goal

pub returns-clause-patch : goal.returns-clause-patch
returns-clause-patch g c =
    let t = (c.args.table.now).table in
    let rows : c.loop-prefix.rows.items ≡ rows_to_set t c.args.waiting.now = search rules in
    let sorted : is_sorted prefix_cmp t.control ≡ true = ap (is_sorted prefix_cmp) (sym c.rows-prefix-items.ensures.all) ∙ c.rows-prefix-items.ensures.sorted in
    let changes = ap (λ rows. with_rows rows t.published) (sym c.changed-changed.ensures.all) ∙ c.changed-changed.ensures.patch in
    ap (λ rows. with_rows rows t.published) rows ∙ set_more t c.args.waiting.now sorted changes
