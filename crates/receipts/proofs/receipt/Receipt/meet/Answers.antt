use Rattle.std.proofs.Common.{◌≡◌, ap, subst, sym, ◌∙◌, arith, List}
use mathlib.Core.List.{IsPrefix}
use Rattle.receipts.specs.Logs.{Log}
use Rattle.receipts.proofs.Beginnings.{prefix_shorter, prefix_whole}
use Rattle.receipts.proofs.receipt.Receipt.meet.Goals as goal

pub returns-clause-this : goal.returns-clause-this
returns-clause-this g c =
    let both = c.learn.new.self.log in
    let this : IsPrefix c.self.inside.seen.log both = subst (λ (l : List g.row.E.Denot). IsPrefix l both) (ap (λ s. s.log) c.again-both.ensures) c.learn.ensures.2 in
    let book : c.other.inside.seen.book ≡ c.self.inside.seen.book = ap (λ (h : Log g.row.E.Denot). h.book) c.other.view_is ∙ (c.requires ∙ sym (ap (λ (h : Log g.row.E.Denot). h.book) c.self.view_is)) in
    rw (← c.self.view_is, ← c.other.view_is) (λ less. record { book = book; elements = prefix_shorter _ _ both this c.learn.ensures.3 less })

pub returns-clause-that : goal.returns-clause-that
returns-clause-that g c =
    let both = c.learn.new.self.log in
    let this : IsPrefix c.self.inside.seen.log both = subst (λ (l : List g.row.E.Denot). IsPrefix l both) (ap (λ s. s.log) c.again-both.ensures) c.learn.ensures.2 in
    let book : c.other.inside.seen.book ≡ c.self.inside.seen.book = ap (λ (h : Log g.row.E.Denot). h.book) c.other.view_is ∙ (c.requires ∙ sym (ap (λ (h : Log g.row.E.Denot). h.book) c.self.view_is)) in
    rw (← c.self.view_is, ← c.other.view_is) (λ less. record { book = sym book; elements = prefix_shorter _ _ both c.learn.ensures.3 this less })

pub returns-clause-same : goal.returns-clause-same
returns-clause-same g c =
    let both = c.learn.new.self.log in
    let this : IsPrefix c.self.inside.seen.log both = subst (λ (l : List g.row.E.Denot). IsPrefix l both) (ap (λ s. s.log) c.again-both.ensures) c.learn.ensures.2 in
    let book : c.self.inside.seen.book ≡ c.other.inside.seen.book = sym (ap (λ (h : Log g.row.E.Denot). h.book) c.other.view_is ∙ (c.requires ∙ sym (ap (λ (h : Log g.row.E.Denot). h.book) c.self.view_is))) in
    rw (← c.self.view_is, ← c.other.view_is) (λ len.
    let log : c.self.inside.seen.log ≡ c.other.inside.seen.log = prefix_whole _ _ (prefix_shorter _ _ both this c.learn.ensures.3 (omega (arith, len))) len in
    λ i. record { book = book i; elements = log i })
