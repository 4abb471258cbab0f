use Rattle.std.proofs.Common.{◌+◌, ◌∙◌, ap, set}
use Rattle.minima.specs.Trees.{lesser, node_at}
use Rattle.minima.proofs.tree.put_right.Goals as goal

pub returns : goal.returns
returns g c =
    c.put.ensures
    ∙ ap (set c.args.nodes.now.items c.args.node)
    (c.lesser.ensures ∙ ap (λ a. lesser a c.at-right.result) c.at-left.ensures ∙ ap (lesser (node_at c.args.nodes.now.items (c.args.node + c.args.node))) c.at-right.ensures)
