use Rattle.std.proofs.Common.{◌≡◌, sym, ap, ◌∙◌}
use Rattle.toml.specs.View.{table_view, items_view, view}
use Rattle.toml.proofs.Views.{table_get}
use Rattle.plans.specs.Document.{texts_of, texts_at}
use Rattle.plans.proofs.Documents.{at_array, at_other, at_nothing}
use Rattle.plans.proofs.document.lines_at.Goals as goal

-- the key has an array
at_strings : (c : goal.After-strings) → texts_at c.args.key.now (table_view c.args.table.now) ≡ texts_of (items_view c.deref.result.now)
at_strings c =
    let found = table_get c.get.result c.args.key.now c.args.table.now.entries c.get.ensures.value in
    at_array c.args.key.now (table_view c.args.table.now) (view c.in-Some.value.now) (items_view c.in-Some-as_array.values.now.items) (rw c.in-Some.is at found) (rw c.in-Some-as_array.is at c.as_array.ensures)
    ∙ ap (λ vs. texts_of (items_view vs)) (sym c.deref.ensures.value)

pub returns-in-Some-as_array-clause-ok : goal.returns-in-Some-as_array-clause-ok
returns-in-Some-as_array-clause-ok c = rw (at_strings c) c.strings.ensures.ok

pub returns-in-Some-as_array-clause-bad_key : goal.returns-in-Some-as_array-clause-bad_key
returns-in-Some-as_array-clause-bad_key c bad = at_strings c ∙ c.strings.ensures.bad_key bad

-- the key has something else
pub returns-in-None-clause-bad_key : goal.returns-in-None-clause-bad_key
returns-in-None-clause-bad_key c _ =
    let found = table_get c.get.result c.args.key.now c.args.table.now.entries c.get.ensures.value in
    at_other c.args.key.now (table_view c.args.table.now) (view c.in-Some.value.now) (rw c.in-Some.is at found) (rw c.in-None.is at c.as_array.ensures)

-- there is no such key
pub returns-in_default-clause-bad_key : goal.returns-in_default-clause-bad_key
returns-in_default-clause-bad_key c _ =
    let found = table_get c.get.result c.args.key.now c.args.table.now.entries c.get.ensures.value in
    at_nothing c.args.key.now (table_view c.args.table.now) (rw c.in_default.is at found)
