use Rattle.std.proofs.Common.{◌≤◌, ◌∙◌, ap, sym, arith, length}
use Rattle.publication.proofs.told.Told.longer.Goals as goal

pub returns-then-ours-theirs-clause-this : goal.returns-then-ours-theirs-clause-this
returns-then-ours-theirs-clause-this g c =
    let less : length c.self.inside.known.elements ≤ length c.other.inside.known.elements = omega (arith, c.count-ours.ensures, c.count-theirs.ensures, c.if-ours-theirs.true) in
    rw (c.again.ensures, ← c.self.view_is, ← c.other.view_is) (record { router = ap (λ k. k.router) c.other.view_is ∙ (c.requires ∙ ap (λ k. k.router) (sym c.self.view_is)); publications = (c.meet.ensures.this less).elements })

pub returns-else-ours-theirs-clause-that : goal.returns-else-ours-theirs-clause-that
returns-else-ours-theirs-clause-that g c =
    let less : length c.other.inside.known.elements ≤ length c.self.inside.known.elements = omega (arith, c.count-ours.ensures, c.count-theirs.ensures, c.if-ours-theirs.false) in
    rw (c.again-else-ours-theirs.ensures, ← c.self.view_is, ← c.other.view_is) (record { router = ap (λ k. k.router) c.self.view_is ∙ sym (ap (λ k. k.router) c.other.view_is ∙ c.requires); publications = (c.meet.ensures.that less).elements })
