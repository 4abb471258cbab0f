use Rattle.std.proofs.Common.{arith, refl, sym, ap, ◌∙◌}
use Rattle.std.proofs.lemmas.Bool.{false≢true}
use Rattle.word_pool.specs.Layout.{entry}
use Rattle.word_pool.proofs.Sizes.{spare_larger}
use Rattle.word_pool.proofs.pool.Pool.+take.Goals as goal

pub returns-then-size-eq-GROUP-clause-again : goal.returns-then-size-eq-GROUP-clause-again
returns-then-size-eq-GROUP-clause-again g t c h =
    let l = spare_larger c.args.self.now c.args.size c.requires (ap (entry c.args.self.now.free) (sym c.list_of-list.ensures.list) ∙ c.if-self-list-ne0.false) h in absurd (omega (arith, l.0, c.if-size-eq-GROUP.true))

pub returns-in_err-block-clause-again : goal.returns-in_err-block-clause-again
returns-in_err-block-clause-again g t c h =
    let l = spare_larger c.args.self.now c.args.size c.requires (ap (entry c.args.self.now.free) (sym c.list_of-list.ensures.list) ∙ c.if-self-list-ne0.false) h in let a = c.in_err-block.ensures.again l.1 in absurd (false≢true a.0)

pub returns-clause-again : goal.returns-clause-again
returns-clause-again g t c h =
    let l = spare_larger c.args.self.now c.args.size c.requires (ap (entry c.args.self.now.free) (sym c.list_of-list.ensures.list) ∙ c.if-self-list-ne0.false) h in let a = c.in_ok-block.ensures.again l.1 in
    (refl, record { count = c.halve.ensures.no_larger.count ∙ a.1.count; same_room = c.halve.ensures.no_larger.same_room ∙ a.1.same_room })
