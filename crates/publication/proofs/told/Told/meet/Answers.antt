use Rattle.std.proofs.Common.{◌≡◌, ◌∙◌, ap, sym, length}
use Rattle.publication.specs.declared.known.Known.{Known}
use Rattle.publication.proofs.told.Told.meet.Goals as goal

pub returns : goal.returns
returns g c =
    let len : length c.self.inside.known.elements ≡ length c.other.inside.known.elements = ap (λ (k : Known). length k.publications) c.self.view_is ∙ (c.requires.count ∙ ap (λ (k : Known). length k.publications) (sym c.other.view_is)) in
    let known : c.self.inside.known ≡ c.other.inside.known = c.meet.ensures.same len in
    let router = ap (λ (k : Known). k.router) c.self.view_is ∙ (c.requires.router ∙ ap (λ (k : Known). k.router) (sym c.other.view_is)) in
    rw (← c.self.view_is, ← c.other.view_is) (λ i. record { router = router i; publications = (known i).elements })
