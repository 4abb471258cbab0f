use Rattle.std.proofs.Common.{◌∙◌, subst, sym, ap}
use Rattle.word_pool.specs.Pool.{blocks}
use Rattle.array_bitmap.specs.Tree.{IsSoundCells, rows_of_cells}
use Rattle.array_bitmap.proofs.EmptyImage.{cells_same}
use Rattle.array_bitmap.proofs.tree.Tree.copy.Goals as goal

pub returns-clause-sound : goal.returns-clause-sound
returns-clause-sound g c =
    let t = c.args.self.now in
    record {
      cells = subst IsSoundCells
          (sym (cells_same t.first (blocks t.pool) (blocks c.in_ok-copy.field-0) t.shorts.items c.in_ok-from_slice.field-0.items t.tops.items c.in_ok-from_slice-2.field-0.items
          (c.in_ok-from_slice.ensures.items ∙ c.deref.ensures.value) (c.in_ok-from_slice-2.ensures.items ∙ c.deref-2.ensures.value) c.in_ok-copy.ensures.same)) c.requires.cells;
      shorts = c.in_ok-from_slice.ensures.len ∙ c.deref.ensures.len ∙ c.requires.shorts;
      tops = c.in_ok-from_slice-2.ensures.len ∙ c.deref-2.ensures.len ∙ c.requires.tops;
    }

pub returns-clause-rows : goal.returns-clause-rows
returns-clause-rows g c =
    let t = c.args.self.now in
    ap rows_of_cells
    (cells_same t.first (blocks t.pool) (blocks c.in_ok-copy.field-0) t.shorts.items c.in_ok-from_slice.field-0.items t.tops.items c.in_ok-from_slice-2.field-0.items
    (c.in_ok-from_slice.ensures.items ∙ c.deref.ensures.value) (c.in_ok-from_slice-2.ensures.items ∙ c.deref-2.ensures.value) c.in_ok-copy.ensures.same)
