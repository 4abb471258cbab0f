use Rattle.std.proofs.Common.{◌≡◌, ◌∷◌, ◌++◌, ◌∙◌, length, arith, ap}
use Rattle.array_bitmap.specs.Cursor.{rows_from, rows_onward}
use Rattle.row_words.specs.Rows.{marked}
use Rattle.row_words.proofs.Marks.{from_first, none_of_first, listed_all, listed_more}
use Rattle.row_words.proofs.parts.list_rows.Goals as goal

pub loop-cursor-init : goal.loop-cursor-init
loop-cursor-init g c =
    let rows = c.args.image.now.rows in
    ap (λ xs. xs ++ marked c.args.cells.now (rows_from c.covering-first.result rows)) c.in_ok-rows.ensures.items
    ∙ ap (marked c.args.cells.now) (from_first c.covering-first.result rows c.covering-first.ensures.valid c.covering-first.ensures.len)

pub loop-cursor-smaller : goal.loop-cursor-smaller
loop-cursor-smaller g c =
    let rows = c.args.image.now.rows in
    let next : rows_onward c.loop-cursor.cursor rows ≡ c.in-Some-first_row_from.row ∷ rows_onward c.next_prefix-cursor.result rows =
    ap (λ o. rows_onward o rows) c.in-Some.is ∙ c.in-Some-first_row_from.ensures.head c.next_prefix-cursor.result c.next_prefix-cursor.ensures in
    omega (arith, ap length next)

pub loop-cursor-preserved : goal.loop-cursor-preserved
loop-cursor-preserved g c =
    let rows = c.args.image.now.rows in
    let cells = c.args.cells.now in
    let row = c.in-Some-first_row_from.row in
    let others = rows_onward c.next_prefix-cursor.result rows in
    let next : rows_onward c.loop-cursor.cursor rows ≡ row ∷ others =
    ap (λ o. rows_onward o rows) c.in-Some.is ∙ c.in-Some-first_row_from.ensures.head c.next_prefix-cursor.result c.next_prefix-cursor.ensures in
    ap (λ xs. xs ++ marked cells others) c.in_ok-push.ensures.items
    ∙ listed_more cells c.loop-cursor.rows.items (marked cells rows) (rows_onward c.loop-cursor.cursor rows) c.loop-cursor.invariant row others c.mark_in.result next c.mark_in.ensures

pub returns-in_default-first_row_from : goal.returns-in_default-first_row_from
returns-in_default-first_row_from g c =
    let rows = c.args.image.now.rows in
    let cells = c.args.cells.now in
    listed_all cells c.loop-cursor.rows.items (marked cells rows) (rows_onward c.loop-cursor.cursor rows) c.loop-cursor.invariant
    (ap (λ o. rows_onward o rows) c.in-Some.is ∙ none_of_first (rows_from c.in-Some.at rows) (c.in_default-first_row_from.ensures.first))

pub returns : goal.returns
returns g c =
    let rows = c.args.image.now.rows in
    let cells = c.args.cells.now in
    listed_all cells c.loop-cursor.rows.items (marked cells rows) (rows_onward c.loop-cursor.cursor rows) c.loop-cursor.invariant
    (ap (λ o. rows_onward o rows) c.in_default.is)
