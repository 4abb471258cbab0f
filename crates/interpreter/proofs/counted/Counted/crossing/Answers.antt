use Rattle.std.proofs.Common.{ap, sym, ◌∙◌, option_copied}
use Rattle.interpreter.proofs.Crossings.{crossing_from}
use Rattle.interpreter.proofs.counted.Counted.crossing.Goals as goal

pub returns-clause-place : goal.returns-clause-place
returns-clause-place c =
    let first = c.in_ok-first.field-0.now in
    c.first_other.ensures.place
    ∙ sym (crossing_from c.args.self.now.simulation.world c.args.addr c.args.path.now first c.in_ok-first-2.first (sym c.first.ensures.value ∙ ap option_copied c.in_ok-first.was) (sym c.matched.ensures ∙ c.in_ok-first-2.was))
