use Rattle.std.proofs.Common.{◌+◌, ◌∙◌, arith, ap, drop, length, set}
use Rattle.minima.proofs.{Nodes.moments_length, Written.moments_written, Written.tree_written}
use Rattle.minima.proofs.minima.Minima.set.Goals as goal

pub write-requires-clause-router : goal.write-requires-clause-router
write-requires-clause-router g c =
    let known = c.requires in
    let seen = ap length c.self.view_is in
    let many = moments_length c.self.inside.count c.self.inside.nodes.items c.self.invariant.size in
    let number = c.from.ensures in
    omega (arith, known, seen, many, number)

pub invariant_of-self : goal.invariant_of-self
invariant_of-self g c =
    let n = c.self.inside.count in
    let ns = c.self.inside.nodes.items in
    let known = c.requires in
    let seen = ap length c.self.view_is in
    let many = moments_length n ns c.self.invariant.size in
    tree_written n ns c.write.new.nodes.items c.args.router c.args.moment c.self.invariant (omega (arith, known, seen, many))
    (c.write.ensures.leaves ∙ ap (λ r. drop n (set ns (n + r) c.pair_of-due.result)) c.from.ensures ∙ ap (λ x. drop n (set ns (n + c.args.router) x)) c.pair_of-due.ensures)
    c.write.ensures.size c.write.ensures.least

pub returns : goal.returns
returns g c =
    let n = c.self.inside.count in
    let ns = c.self.inside.nodes.items in
    let known = c.requires in
    let seen = ap length c.self.view_is in
    let many = moments_length n ns c.self.invariant.size in
    moments_written n ns c.write.new.nodes.items c.args.router c.args.moment c.self.invariant (omega (arith, known, seen, many))
    (c.write.ensures.leaves ∙ ap (λ r. drop n (set ns (n + r) c.pair_of-due.result)) c.from.ensures ∙ ap (λ x. drop n (set ns (n + c.args.router) x)) c.pair_of-due.ensures)
    ∙ ap (λ ms. set ms c.args.router c.args.moment) c.self.view_is
