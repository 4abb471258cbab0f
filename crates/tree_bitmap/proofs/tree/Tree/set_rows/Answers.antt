use Rattle.std.proofs.Common.{◌≡◌, ◌∙◌, length, take, arith, refl, sym, ap}
use Rattle.std.specs.FinMap.{put}
use Rattle.ipv4_prefix.specs.Prefix.{prefix_cmp}
use Rattle.network_model.specs.Publication.{with_rows}
use Rattle.tree_bitmap.specs.Tree.{tree_rows}
use Rattle.bitmaps.proofs.RowsSet.{with_one_more, with_all, not_ok}
use Rattle.tree_bitmap.proofs.tree.Tree.set_rows.Goals as goal

pub loop-prefix-init : goal.loop-prefix-init
loop-prefix-init g c = record { sound = c.requires; nodes = omega arith; results = omega arith; rows = refl }

pub set_row-requires : goal.set_row-requires
set_row-requires g c = c.loop-prefix.invariant.sound

pub returns-in_err-set_row-clause-full : goal.returns-in_err-set_row-clause-full
returns-in_err-set_row-clause-full g c = λ nodes results.
    absurd (not_ok c.in_err-set_row.was
    (c.set_row.ensures.full
    (omega (arith, nodes, c.loop-prefix.invariant.nodes, c.loop-prefix-test.true))
    (omega (arith, results, c.loop-prefix.invariant.results, c.loop-prefix-test.true))))

pub loop-prefix-preserved : goal.loop-prefix-preserved
loop-prefix-preserved g c =
    let row = c.loop-prefix-item.result in
    let table = tree_rows c.args.self.now in
    record {
      sound = c.in_ok-set_row.ensures.sound;
      nodes = omega (arith, c.in_ok-set_row.ensures.nodes_cost, c.loop-prefix.invariant.nodes);
      results = omega (arith, c.in_ok-set_row.ensures.results_cost, c.loop-prefix.invariant.results);
      rows = c.in_ok-set_row.ensures.ok ∙ ap (put prefix_cmp row.0 row.1) c.loop-prefix.invariant.rows
          ∙ sym (with_one_more c.args.rows.now c.loop-prefix.prefix-index row table c.loop-prefix-test.true c.loop-prefix-item.is);
    }

pub returns-clause-sound : goal.returns-clause-sound
returns-clause-sound g c = c.loop-prefix.invariant.sound

pub returns-clause-ok : goal.returns-clause-ok
returns-clause-ok g c =
    let at : c.loop-prefix.prefix-index ≡ length c.args.rows.now = omega (arith, c.loop-prefix-test.false, c.loop-prefix.auto.prefix-index-end) in
    c.loop-prefix.invariant.rows ∙ ap (λ n. with_rows (take n c.args.rows.now) (tree_rows c.args.self.now)) at ∙ with_all c.args.rows.now (tree_rows c.args.self.now)
