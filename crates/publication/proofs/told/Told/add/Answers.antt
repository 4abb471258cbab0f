use Rattle.std.proofs.Common.{◌≡◌, ◌++◌, ◌∷◌, [], map, sym, ◌∙◌, ap}
use Rattle.receipts.specs.Logs.{head_of}
use Rattle.publication.specs.{Lists.bundle_of, Lists.patch_of, Names.book_of}
use Rattle.publication.proofs.Tables.{generation-more}
use Rattle.publication.proofs.told.Told.add.Goals as goal

pub add-requires : goal.add-requires
add-requires g c =
    let router : c.args.ledger.now.router ≡ c.self.inside.router = c.requires ∙ ap (λ k. k.router) (sym c.self.view_is) in
    c.args.ledger.now.head_is ∙ ap head_of (ap (book_of g.B.FabricName.books) router ∙ sym c.self.invariant.1)

pub invariant_of-result : goal.invariant_of-result
invariant_of-result g c =
    let known = c.in_ok-known.ensures in
    let elements : c.in_ok-known.known.elements ≡ c.self.inside.known.elements ++ bundle_of c.args.coming.now.waiting.items c.args.coming.now.patch ∷ [] = ap (λ l. l.elements) known in (
      rw elements (sym (generation-more c.self.inside.known.elements (map patch_of c.args.coming.now.waiting.items) (patch_of c.args.coming.now.patch))),
      ap (λ l. l.book) known ∙ c.self.invariant.1,
      c.self.invariant.2,
    )

pub returns : goal.returns
returns g c =
    let known = c.in_ok-known.ensures in
    rw (← c.self.view_is) (λ i. record { router = c.self.inside.router; publications = (known i).elements })
