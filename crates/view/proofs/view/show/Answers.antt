use Rattle.std.proofs.Common.{◌≡◌, ◌∙◌, refl, sym, arith}
use Rattle.plans.specs.{declared.outcome.Outcome.Outcome, declared.outcome.Outcome.TheVariants.Done, Faults.status_at}
use Rattle.view.proofs.view.show.Goals as goal

-- only what was done ends with status 0
done_by : (end : Outcome) → status_at end ≡ 0 → end ≡ Done
done_by Done is = refl
done_by _ is = absurd (omega arith)

pub returns-in-Ok : goal.returns-in-Ok
returns-in-Ok g c = λ zero. c.in-Ok.ensures (done_by c.in-Ok.end (sym c.status.ensures ∙ zero))
