-- How a network stops that is let settle.
use Rattle.std.specs.Prelude.{⊤}
use Rattle.network_model.proofs.Common.{false≢true, None_not_Some, is_settled}
use Rattle.network_model.specs.{declared.step.Refusal.Refusal, declared.step.Refusal.TheVariants.JournalFull, declared.step.Refusal.TheVariants.NoMemory, declared.step.Step.Step}
use Rattle.std.proofs.Common.{◌≡◌, ◌⊎◌, inr, true, Option, Some, None, MatchOption, Result, Ok, Err, IfErr, ◌∙◌, ◌+◌, ℕ, inl, List, [], ◌∷◌, length, refl, ap, sym, false, arith}
use Rattle.fabric.specs.Fabric.{Fabric}
use Rattle.guarded.specs.Served.{IsServed, IsTurnRefused, none_asked, IsFabricStopped}
use Rattle.simulation.specs.{Simulation.Simulation, Simulation.after_step, Simulation.after_steps, Settling.HasTurned}
use Rattle.interpreter.specs.Settling.{StopsSettling, StopsThere}

counted : (s : Simulation) (xs : List Step) → (after_steps s xs).steps ≡ s.steps + length xs
counted s [] = (let same : s.steps ≡ s.steps + 0 = omega arith in same)
counted s (x ∷ xs) = (let rest : (after_steps (after_step s x) xs).steps ≡ (s.steps + 1) + length xs = counted (after_step s x) xs in let both : (s.steps + 1) + length xs ≡ s.steps + length (x ∷ xs) = omega arith in rest ∙ both)

-- after 2^64 - 1 steps no step can be counted
pub stopped_there : (s t : Simulation) (done : ℕ) → HasTurned s t done → done ≡ 18446744073709551615 → is_settled t.world ≡ false → StopsThere s t JournalFull
stopped_there s t done turned all unsettled = record {
  done = done;
  turned = turned;
  stopped = record {
    unsettled = unsettled;
    cause = inl (refl, (let steps : t.steps ≡ s.steps + length turned.steps = ap (λ (x : Simulation). x.steps) turned.after ∙ counted s turned.steps in let count = turned.count in omega (arith, steps, count, all)));
  };
}

-- a fabric, by its threads
pub stops_here : (r : Result ⊤ Refusal) (f g : Fabric) → IsServed f none_asked g → IfErr r (λ e. IsTurnRefused f none_asked e ⊎ (e ≡ NoMemory)) → IfErr r (StopsSettling f g)
stops_here (Ok x) f g served why = tt
stops_here (Err e) f g served (inl turn) = record { served = served; cause = inl turn }
stops_here (Err e) f g served (inr memory) = record { served = served; cause = inr (inl memory) }

-- and in an order that is drawn
pub stops_drawn : (r : Result ⊤ Refusal) (f g : Fabric) → IsServed f none_asked g → IfErr r (IsFabricStopped g) → IfErr r (StopsSettling f g)
stops_drawn (Ok x) f g served why = tt
stops_drawn (Err e) f g served why = record { served = served; cause = inr (inr why) }

-- what came of turns that no refusal ended
pub stop_none : (A : Type 0) (P : Refusal → Type 0) (o : Option Refusal) → o ≡ None → MatchOption o A P → A
stop_none A P None is stop = stop
stop_none A P (Some x) is stop = absurd (None_not_Some (sym is))

-- it is not settled, so as many steps were done as were asked for
pub all_done : (A : Type 0) (s : Simulation) → is_settled s.world ≡ false → (is_settled s.world ≡ true) ⊎ A → A
all_done A s unsettled (inl settled) = absurd (false≢true (sym unsettled ∙ settled))
all_done A s unsettled (inr all) = all
