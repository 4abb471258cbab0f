use Rattle.std.proofs.Common.{◌≡◌, ◌∙◌, None, sym, arith}
use Rattle.world.proofs.Elements.{all_more}
use Rattle.control.proofs.serve.first_refusal.Goals as goal

pub loop-place-init : goal.loop-place-init
loop-place-init g c = λ k d below. absurd (omega arith)

pub loop-place-preserved : goal.loop-place-preserved
loop-place-preserved g c =
    all_more (λ s. s.halt ≡ None) c.args.shares.now c.loop-place.place c.index-shares-place.result (omega arith) c.index-shares-place.is (sym c.halt.ensures.same ∙ c.in-None.is) c.loop-place.invariant

pub returns-clause-none : goal.returns-clause-none
returns-clause-none g c = λ k d below. c.loop-place.invariant k d (omega arith)
