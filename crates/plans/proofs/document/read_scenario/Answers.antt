use Rattle.std.proofs.Common.{◌≡◌, arith}
use Rattle.toml.specs.View.{table_view}
use Rattle.plans.proofs.Documents.{key_count-entries, read_all, other_count}
use Rattle.plans.specs.Document.{key_count}
use Rattle.plans.proofs.document.read_scenario.Goals as goal

pub returns-then-len-ne4-clause-bad_key : goal.returns-then-len-ne4-clause-bad_key
returns-then-len-ne4-clause-bad_key c _ =
    let count = key_count-entries c.in-Ok.table.entries in
    (table_view c.in-Ok.table, c.in-Ok.ensures.ok, other_count (table_view c.in-Ok.table) (λ e. omega (arith, count, e, c.len.ensures.len, c.if-len-ne4.true)))

pub returns-clause-ok : goal.returns-clause-ok
returns-clause-ok c =
    let count = key_count-entries c.in-Ok.table.entries in
    let four : key_count (table_view c.in-Ok.table) ≡ 4 = omega (arith, count, c.len.ensures.len, c.if-len-ne4.false) in
    read_all _ (table_view c.in-Ok.table) _ _ _ _ c.in-Ok.ensures.ok four c.in_ok-routers.ensures.ok c.in_ok-links.ensures.ok c.in_ok-prefixes.ensures.ok c.in_ok-script.ensures.ok
