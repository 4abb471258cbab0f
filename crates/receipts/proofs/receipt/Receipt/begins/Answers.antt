use Rattle.std.proofs.Common.{◌≤◌, refl, ap, subst, sym, ◌∙◌, arith, length, List}
use mathlib.Core.List.{IsPrefix}
use Rattle.receipts.specs.Logs.{Log}
use Rattle.receipts.proofs.Beginnings.{prefix_shorter}
use Rattle.receipts.proofs.receipt.Receipt.begins.Goals as goal

pub returns : goal.returns
returns g c =
    let both = c.learn.new.self.log in
    let this : IsPrefix c.self.inside.seen.log both = subst (λ (l : List g.row.E.Denot). IsPrefix l both) (ap (λ s. s.log) c.again-both.ensures) c.learn.ensures.2 in
    let less : length c.self.inside.seen.log ≤ length c.other.inside.seen.log = omega (arith, c.self.invariant, c.other.invariant, c.if-self-other.false) in (
      λ _. rw (← c.self.view_is, ← c.other.view_is) (record { book = ap (λ (h : Log g.row.E.Denot). h.book) c.other.view_is ∙ (c.requires ∙ sym (ap (λ (h : Log g.row.E.Denot). h.book) c.self.view_is)); elements = prefix_shorter _ _ both this c.learn.ensures.3 less }),
      λ _. refl,
    )
