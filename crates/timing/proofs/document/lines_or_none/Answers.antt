use Rattle.std.proofs.Common.{◌≡◌, ◌∙◌, Some, ap, map, string_bytes, sym}
use Rattle.std.proofs.lemmas.Result.{IfOk-weaker}
use Rattle.toml.specs.{Data.get_member, View.table_view}
use Rattle.plans.specs.Document.{texts_at}
use Rattle.timing.specs.Document.{list_at}
use Rattle.timing.proofs.Documents.{list_absent, list_there}
use Rattle.timing.proofs.document.lines_or_none.Goals as goal

-- the key is left out
pub returns-then-count_key-eq0-clause-ok : goal.returns-then-count_key-eq0-clause-ok
returns-then-count_key-eq0-clause-ok c =
    list_absent (get_member c.args.key.now (table_view c.args.table.now)) (sym c.count_key.ensures.count ∙ c.if-count_key-eq0.true)
    ∙ ap (λ xs. Some (map string_bytes xs)) (sym c.new.ensures.items)

at_key : (c : goal.After-lines_at) → list_at c.args.key.now (table_view c.args.table.now) ≡ texts_at c.args.key.now (table_view c.args.table.now)
at_key c = list_there (get_member c.args.key.now (table_view c.args.table.now)) (λ none. c.if-count_key-eq0.false (c.count_key.ensures.count ∙ none))

pub returns-clause-ok : goal.returns-clause-ok
returns-clause-ok c = IfOk-weaker c.lines_at.result _ _ (λ v is. at_key c ∙ is) c.lines_at.ensures.ok

pub returns-clause-bad_key : goal.returns-clause-bad_key
returns-clause-bad_key c bad = at_key c ∙ c.lines_at.ensures.bad_key bad
