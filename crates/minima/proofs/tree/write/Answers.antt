use Rattle.std.proofs.Common.{◌+◌, ◌<◌, ◌∙◌, arith, sym, ap, subst, refl, drop, length, drop-set-lt, length-set}
use Rattle.minima.specs.Trees.{HasLeastBut}
use Rattle.minima.proofs.Written.{climbed, climbed_all, leaf_written, parent_there}
use Rattle.minima.proofs.tree.write.Goals as goal

pub loop-node-init : goal.loop-node-init
loop-node-init g c =
    let n = c.args.count in
    let ns = c.args.nodes.now.items in
    let below = c.requires.router in
    record {
      size = ap length c.put.ensures ∙ length-set ns (n + c.args.router) c.args.due ∙ c.requires.size;
      above = subst (λ xs. HasLeastBut n xs (n + c.args.router)) (sym c.put.ensures) (leaf_written n ns (n + c.args.router) c.args.due (omega arith) c.requires.least);
      within = omega (arith, below);
      leaves = ap (drop n) c.put.ensures;
    }

pub loop-node-preserved : goal.loop-node-preserved
loop-node-preserved g c =
    let l = c.loop-node in
    let n = c.args.count in
    let ns = l.nodes.items in
    let p = c.parent_of-parent.result in
    let half = c.parent_of-parent.ensures.half in
    let below = c.parent_of-parent.ensures.below in
    let within = l.invariant.within in
    let inner : p < n = omega (arith, below, within) in
    record {
      size = ap length c.put_right.ensures ∙ length-set ns p _ ∙ l.invariant.size;
      above = subst (λ xs. HasLeastBut n xs p) (sym c.put_right.ensures)
          (climbed n ns l.node p _ l.invariant.size (parent_there l.node p half c.loop-node-test.true) inner half l.invariant.above refl);
      within = omega (arith, inner);
      leaves = ap (drop n) c.put_right.ensures ∙ drop-set-lt n ns p _ inner ∙ l.invariant.leaves;
    }

pub loop-node-smaller : goal.loop-node-smaller
loop-node-smaller g c =
    let below = c.parent_of-parent.ensures.below in
    let more = c.loop-node-test.true in
    omega (arith, below, more)

pub returns-clause-least : goal.returns-clause-least
returns-clause-least g c = climbed_all c.args.count c.loop-node.nodes.items c.loop-node.node (let root = c.loop-node-test.false in omega (arith, root)) c.loop-node.invariant.above
