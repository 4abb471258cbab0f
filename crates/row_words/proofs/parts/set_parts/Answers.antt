use Rattle.std.proofs.Common.{◌≡◌, ◌+◌, ◌<◌, ◌^◌, ◌++◌, ◌∙◌, length, map, arith, ap, sym, subst, rules}
use Rattle.network_model.specs.Publication.{Image, with_rows}
use Rattle.row_words.specs.Rows.{marked, with_slots, AreKept}
use Rattle.row_words.proofs.Marks.{kept_set, marked_set}
use Rattle.row_words.proofs.parts.set_parts.Goals as goal

pub returns-clause-kept : goal.returns-clause-kept
returns-clause-kept g c =
    let cells = c.args.cells.now.items in
    let rows = c.args.rows.now in
    let table = c.args.image.now.rows in
    let count : c.len-count.result ≡ length cells = omega (arith, c.len-count.ensures, c.args.cells.now.ok.0) in
    let slots = c.deref.ensures.value ∙ c.in_ok-slots.ensures ∙ ap (λ n. with_slots n rows) count in
    let set : c.set_rows.new.image.rows ≡ with_rows (with_slots (length cells) rows) table =
    ap (λ (i : Image). i.rows) c.in_default.ensures.ok ∙ ap (λ ss. with_rows ss table) slots in
    let room : length cells + length rows < 2 ^ 24 = omega (arith, count, c.if-rows-count.false, c.requires.few) in
    subst (AreKept c.set_rows.new.image.rows) (sym c.in_ok-add_cells.ensures.ok)
    (subst (λ t. AreKept t (cells ++ map (λ r. r.1) rows)) (sym set) (kept_set cells rows table c.requires room))

pub returns-clause-ok : goal.returns-clause-ok
returns-clause-ok g c =
    let cells = c.args.cells.now.items in
    let rows = c.args.rows.now in
    let table = c.args.image.now.rows in
    let count : c.len-count.result ≡ length cells = omega (arith, c.len-count.ensures, c.args.cells.now.ok.0) in
    let slots = c.deref.ensures.value ∙ c.in_ok-slots.ensures ∙ ap (λ n. with_slots n rows) count in
    let set : c.set_rows.new.image.rows ≡ with_rows (with_slots (length cells) rows) table =
    ap (λ (i : Image). i.rows) c.in_default.ensures.ok ∙ ap (λ ss. with_rows ss table) slots in
    ap (λ xs. marked xs c.set_rows.new.image.rows) c.in_ok-add_cells.ensures.ok
    ∙ ap (marked (cells ++ map (λ r. r.1) rows)) set
    ∙ marked_set cells rows table c.requires

pub returns-then-rows-count-clause-kept : goal.returns-then-rows-count-clause-kept
returns-then-rows-count-clause-kept g c = search rules

pub returns-then-rows-count-clause-ok : goal.returns-then-rows-count-clause-ok
returns-then-rows-count-clause-ok g c = search rules

pub returns-then-rows-count-clause-cells : goal.returns-then-rows-count-clause-cells
returns-then-rows-count-clause-cells g c = search rules

pub returns-in_err-slots-clause-kept : goal.returns-in_err-slots-clause-kept
returns-in_err-slots-clause-kept g c = search rules

pub returns-in_err-slots-clause-ok : goal.returns-in_err-slots-clause-ok
returns-in_err-slots-clause-ok g c = search rules

pub returns-in_err-slots-clause-cells : goal.returns-in_err-slots-clause-cells
returns-in_err-slots-clause-cells g c = search rules

pub returns-in_err-add_cells-clause-kept : goal.returns-in_err-add_cells-clause-kept
returns-in_err-add_cells-clause-kept g c = search rules

pub returns-in_err-add_cells-clause-ok : goal.returns-in_err-add_cells-clause-ok
returns-in_err-add_cells-clause-ok g c = search rules

pub returns-in_err-add_cells-clause-cells : goal.returns-in_err-add_cells-clause-cells
returns-in_err-add_cells-clause-cells g c = search rules

pub returns-in-Err-clause-ok : goal.returns-in-Err-clause-ok
returns-in-Err-clause-ok g c = search rules

pub returns-clause-cells : goal.returns-clause-cells
returns-clause-cells g c = search rules
