use Rattle.std.proofs.Common.{sym, subst, ◌∙◌, ap}
use Rattle.network_model.specs.{declared.trace.Ending.TheVariants.Crossed, declared.trace.Trace.Trace as Traced}
use Rattle.interpreter.specs.Traces.{IsTrace, crossing_on}
use Rattle.interpreter.proofs.Crossings.{cut_short, uncrossed}
use Rattle.interpreter.proofs.counted.CountedLive.trace.Goals as goal

pub returns-in_default-clause-ok : goal.returns-in_default-clause-ok
returns-in_default-clause-ok c =
    let w = c.args.self.now.simulation.world in
    let t = c.in_ok-traced.traced in
    subst (λ b. IsTrace w c.args.router c.args.addr b t) (sym c.if-through.false)
    (uncrossed w c.args.addr c.args.router t.path.items _ c.in_ok-traced.ensures.ok (ap (crossing_on w c.args.addr) (sym c.deref.ensures.value) ∙ sym c.crossing.ensures.place ∙ c.in_default.is))

pub returns-clause-ok : goal.returns-clause-ok
returns-clause-ok c =
    let w = c.args.self.now.simulation.world in
    let t = c.in_ok-traced.traced in
    let short : Traced = record { path = c.truncate.new.self; end = Crossed } in
    subst (λ b. IsTrace w c.args.router c.args.addr b short) (sym c.if-through.false)
    (cut_short w c.args.addr c.args.router t.path.items _ c.in_ok-traced.ensures.ok c.in-Some.place c.truncate.new.self.items (ap (crossing_on w c.args.addr) (sym c.deref.ensures.value) ∙ sym c.crossing.ensures.place ∙ c.in-Some.is) c.truncate.ensures.items)
