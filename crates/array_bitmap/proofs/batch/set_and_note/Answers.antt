use Rattle.std.proofs.Common.{◌≡◌, ◌∙◌, ◌++◌, ◌∷◌, [], length, refl, arith, ap, sym, subst, length-append}
use Rattle.std.specs.FinMap.{find as row_of}
use Rattle.ipv4_prefix.specs.Prefix.{prefix_cmp}
use Rattle.ipv4_prefix.proofs.TableRows.{table_rows-sorted}
use Rattle.array_bitmap.specs.{Batch.IsNoted, Tree.entry_in, Image.cells_of, Image.rows_in}
use Rattle.array_bitmap.proofs.Batches.{noted_first, noted_next, noted_all}
use Rattle.array_bitmap.proofs.batch.set_and_note.Goals as goal

pub loop-prefix-init : goal.loop-prefix-init
loop-prefix-init g c = record {
  sound = c.requires.sound;
  noted = noted_first (rows_in c.args.tree.now) c.args.rows.now c.args.notes.now.items (table_rows-sorted (entry_in (cells_of c.args.tree.now))) c.requires.none;
  count = ap length c.requires.none;
  len = omega (arith, c.args.notes.now.ok.0, ap length c.requires.none);
  capacity = refl;
}

pub loop-prefix-preserved : goal.loop-prefix-preserved
loop-prefix-preserved g c =
    let table = rows_in c.args.tree.now in
    let row = c.loop-prefix-item.result in
    let now = rows_in c.loop-prefix.tree in
    let old = c.loop-prefix.notes.items in
    let items : c.push_reserved.new.self.items ≡ c.loop-prefix.notes.items ++ row_of prefix_cmp row.0 (rows_in c.loop-prefix.tree) ∷ [] =
    c.push_reserved.ensures.items ∙ ap (λ e. c.loop-prefix.notes.items ++ e ∷ []) c.row-before.ensures in
    let next = noted_next (rows_in c.args.tree.now) c.args.rows.now c.loop-prefix.notes.items (rows_in c.loop-prefix.tree) c.loop-prefix.prefix-index c.loop-prefix-item.result
    (sym c.loop-prefix.invariant.count) c.loop-prefix-test.true c.loop-prefix-item.is c.loop-prefix.invariant.noted in
    record {
      sound = c.in_ok-set_row.ensures.sound;
      noted = subst (λ xs. IsNoted (rows_in c.args.tree.now) c.args.rows.now xs (rows_in c.set_row.new.self)) (sym items)
          (subst (IsNoted (rows_in c.args.tree.now) c.args.rows.now (c.loop-prefix.notes.items ++ row_of prefix_cmp row.0 (rows_in c.loop-prefix.tree) ∷ [])) (sym c.in_ok-set_row.ensures.ok) next);
      count = omega (arith, ap length items, length-append c.loop-prefix.notes.items (row_of prefix_cmp row.0 (rows_in c.loop-prefix.tree) ∷ []), c.loop-prefix.invariant.count);
      len = omega (arith, c.push_reserved.ensures.len, c.loop-prefix.invariant.len);
      capacity = c.push_reserved.ensures.capacity ∙ c.loop-prefix.invariant.capacity;
    }

pub returns-clause-all : goal.returns-clause-all
returns-clause-all g c =
    noted_all (rows_in c.args.tree.now) c.args.rows.now c.loop-prefix.notes.items (rows_in c.loop-prefix.tree)
    (omega (arith, c.loop-prefix.invariant.count, c.loop-prefix-test.false, c.loop-prefix.auto.prefix-index-end)) c.loop-prefix.invariant.noted
