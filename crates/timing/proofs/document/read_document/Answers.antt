use Rattle.std.proofs.Common.{◌≡◌, arith}
use Rattle.toml.specs.View.{table_view}
use Rattle.plans.proofs.Documents.{key_count-entries}
use Rattle.plans.specs.Document.{key_count}
use Rattle.timing.specs.Document.{known_keys}
use Rattle.timing.proofs.Documents.{read_all, other_count}
use Rattle.timing.proofs.document.read_document.Goals as goal

pub returns-then-len-known_keys-clause-bad_key : goal.returns-then-len-known_keys-clause-bad_key
returns-then-len-known_keys-clause-bad_key c _ =
    let count = key_count-entries c.in-Ok.table.entries in
    (table_view c.in-Ok.table, c.in-Ok.ensures.ok, other_count (table_view c.in-Ok.table) (λ e. omega (arith, count, e, c.len.ensures.len, c.known_keys.ensures, c.if-len-known_keys.true)))

pub returns-clause-ok : goal.returns-clause-ok
returns-clause-ok c =
    let count = key_count-entries c.in-Ok.table.entries in
    let known : key_count (table_view c.in-Ok.table) ≡ known_keys (table_view c.in-Ok.table) = omega (arith, count, c.len.ensures.len, c.known_keys.ensures, c.if-len-known_keys.false) in
    read_all _ (table_view c.in-Ok.table) _ _ _ _ _ c.in-Ok.ensures.ok known c.in_ok-links.ensures.ok c.in_ok-routers.ensures.ok c.in_ok-changes.ensures.ok c.in_ok-link.ensures.ok c.in_ok-router.ensures.ok
