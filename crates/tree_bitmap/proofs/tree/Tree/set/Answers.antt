use Rattle.std.proofs.Common.{inl, Some, ◌≡◌, ◌+◌, ◌*◌, ◌/◌, ◌%◌, ◌∙◌, arith, refl}
use Rattle.std.proofs.lemmas.Result.{on_ok_weaker, on_err_weaker}
use Rattle.tree_bitmap.specs.Tree.{rows}
use Rattle.tree_bitmap.proofs.{Paths.root_at, Calls.sets_from}
use Rattle.bitmaps.proofs.Options.{refused}
use Rattle.node_pool.specs.Pool.{cell}
use Rattle.tree_bitmap.proofs.tree.Tree.set.Goals as goal

pub loop-d-init : goal.loop-d-init
loop-d-init g c = record { sound = c.requires.sound; at = root_at (cell c.args.self.now.pool.nodes) c.args.path; results = refl; cost = inl (omega arith); same = λ q m. refl }

pub returns-in_err-index-clause-err : goal.returns-in_err-index-clause-err
returns-in_err-index-clause-err g c = refused c.from_residual.result (λ q m. c.child.ensures.rows q m ∙ c.loop-d.invariant.same q m)

pub returns-clause-ok : goal.returns-clause-ok
returns-clause-ok g c =
    let whole : 4 * (c.args.len / 4) + c.args.len % 4 ≡ c.args.len = omega arith in
    on_ok_weaker c.set_at.result
    (sets_from (rows c.args.self.now) (rows c.loop-d.self) (rows c.set_at.new.self) c.args.path c.args.len (4 * (c.args.len / 4) + c.args.len % 4) (Some c.args.entry) c.loop-d.invariant.same whole)
    c.set_at.ensures.ok

pub returns-clause-err : goal.returns-clause-err
returns-clause-err g c = on_err_weaker c.set_at.result (λ e q m. e q m ∙ c.loop-d.invariant.same q m) c.set_at.ensures.err
