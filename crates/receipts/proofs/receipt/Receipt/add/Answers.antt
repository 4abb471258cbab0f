use Rattle.std.proofs.Common.{◌≡◌, ◌++◌, ◌∷◌, [], refl, sym, ◌∙◌, ap, arith, length-append}
use Rattle.logbook.specs.Pages.{Named}
use Rattle.receipts.specs.Logs.{Log}
use Rattle.receipts.proofs.Announcing.{adds_moves, adds_match}
use Rattle.receipts.proofs.receipt.Receipt.add.Goals as goal

pub compare_exchange-found-requires : goal.compare_exchange-found-requires
compare_exchange-found-requires g c =
    let h = c.requires in
    let seen = c.again-seen.ensures in
    let offer = c.plain-offer.ensures in
    let pen = c.no_pen-pen.ensures in
    let book : c.args.head.now.book ≡ c.self.inside.seen.book = ap (λ (w : Named). w.book) h ∙ sym (ap (λ (k : Log g.row.E.Denot). k.book) c.self.view_is) in (
      ap (λ w. w.tracked) h,
      ap (λ s. s.book) seen ∙ sym book,
      pen.0 ∙ (ap (λ s. s.book) seen ∙ sym book),
      offer.0,
      rw (ap (λ w. w.key) h, ap (λ s. s.log) seen, pen.1, offer.1, offer.3) (adds_moves c.self.inside.seen.log (g.X.Element.element c.args.element.now) c.self.inside.count (sym c.self.invariant)),
    )

pub invariant_of-result : goal.invariant_of-result
invariant_of-result g c =
    let e = c.compare_exchange-found.ensures in
    let longer = adds_match c.compare_exchange-found.result c.self.inside.count c.compare_exchange-found.new.seen.log c.again-seen.result.log (c.plain-offer.result.ask ∷ []) c.if-found-self.false e.7 in
    let log : c.compare_exchange-found.new.seen.log ≡ c.self.inside.seen.log ++ (g.X.Element.element c.args.element.now) ∷ [] = longer ∙ rw (ap (λ s. s.log) c.again-seen.ensures, c.plain-offer.ensures.1) refl in
    rw log (omega (arith, length-append c.self.inside.seen.log ((g.X.Element.element c.args.element.now) ∷ []), c.self.invariant))

pub returns : goal.returns
returns g c =
    let e = c.compare_exchange-found.ensures in
    let longer = adds_match c.compare_exchange-found.result c.self.inside.count c.compare_exchange-found.new.seen.log c.again-seen.result.log (c.plain-offer.result.ask ∷ []) c.if-found-self.false e.7 in
    let log : c.compare_exchange-found.new.seen.log ≡ c.self.inside.seen.log ++ (g.X.Element.element c.args.element.now) ∷ [] = longer ∙ rw (ap (λ s. s.log) c.again-seen.ensures, c.plain-offer.ensures.1) refl in
    rw (← c.self.view_is) (λ i. record { book = (e.0 ∙ ap (λ s. s.book) c.again-seen.ensures) i; elements = log i })
