use Rattle.std.proofs.Common.{◌≡◌, ◌∙◌, ap, sym}
use Rattle.publication.specs.Names.{book_of}
use Rattle.publication.proofs.told.Told.begins.Goals as goal

pub returns : goal.returns
returns g c =
    let same : c.other.inside.router ≡ c.self.inside.router = sym c.if-self-other.false in
    let book : c.other.inside.known.book ≡ c.self.inside.known.book = c.other.invariant.1 ∙ (ap (book_of g.B.FabricName.books) same ∙ sym c.self.invariant.1) in
    rw (← c.self.view_is, ← c.other.view_is) (
      λ t. record { router = same; publications = (c.begins.ensures.0 t).elements },
      λ w. c.begins.ensures.1 (record { book = book; elements = w.publications }),
    )
