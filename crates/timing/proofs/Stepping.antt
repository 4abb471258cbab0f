-- The steps of a run in simulated time, one after another.
use Rattle.std.proofs.Common.{◌≡◌, ℕ, List, [], ◌∷◌, ◌++◌, Option, Some, None, refl, sym, ap, subst, ◌∙◌, append_assoc}
use Rattle.std.proofs.lemmas.List.{map-append}
use Rattle.network_model.specs.{declared.step.Step.Step, declared.step.Refusal.Refusal, World.Network, World.World, World.opening, Run.Runs}
use Rattle.timed_simulation.specs.{declared.events.Change.Change, declared.events.Event.Event, Runs.steps_of}
use Rattle.timed_simulation.specs.Timed.{Timed, opening_timed, with_timed_change, world_of}
use Rattle.timing.specs.{declared.times.Times.Times, Runs.ComesNext, Runs.with_changes}
use Rattle.timing.specs.Steps.{AllCome, Came, IsDoneAt, RunsInSteps, done_of, if_done, event_moments}

all_more : (t : Timed) (cs : List Came) (u v : Timed) (c : Came) → AllCome t cs u → ComesNext u c.event v c.refusal → AllCome t (cs ++ c ∷ []) v
all_more t [] u v c same comes = (v, subst (λ x. ComesNext x c.event v c.refusal) (sym same) comes, refl)
all_more t (x ∷ xs) u v c all comes = (all.0, all.1, all_more all.0 xs u v c all.2 comes)

done_more : (cs : List Came) (c : Came) → done_of (cs ++ c ∷ []) ≡ done_of cs ++ done_of (c ∷ [])
done_more [] c = refl
done_more (x ∷ xs) c = ap (λ es. if_done x.refusal x.event ++ es) (done_more xs c) ∙ sym (append_assoc (if_done x.refusal x.event) (done_of xs) (done_of (c ∷ [])))

-- before the first
pub none_done_at : (t : Timed) (steps : List Step) (moments : List ℕ) → steps ≡ [] → moments ≡ [] → IsDoneAt t steps moments t
none_done_at t steps moments no_steps no_moments = record { came = []; leads = refl; steps_are = no_steps; moments_are = no_moments }

pub more_done_at : (t u v : Timed) (steps more : List Step) (moments others : List ℕ) (c : Came) → IsDoneAt t steps moments u → ComesNext u c.event v c.refusal
    → more ≡ steps ++ steps_of (done_of (c ∷ [])) → others ≡ moments ++ event_moments (done_of (c ∷ [])) → IsDoneAt t more others v
more_done_at t u v steps more moments others c done comes more_is others_is = record {
  came = done.came ++ c ∷ [];
  leads = all_more t done.came u v c done.leads comes;
  steps_are = more_is ∙ ap (λ ss. ss ++ steps_of (done_of (c ∷ []))) done.steps_are ∙ sym (ap steps_of (done_more done.came c) ∙ map-append (λ (e : Event). e.step) (done_of done.came) (done_of (c ∷ [])));
  moments_are = others_is ∙ ap (λ ms. ms ++ event_moments (done_of (c ∷ []))) done.moments_are ∙ sym (ap event_moments (done_more done.came c) ∙ map-append (λ (e : Event). e.moment) (done_of done.came) (done_of (c ∷ [])));
}

-- ---- what the steps are for a network without its time

-- one that comes is a step, or none
run_more : (t u : Timed) (e : Event) (r : Option Refusal) (es : List Event) (w : World) → ComesNext t e u r → Runs (world_of u) (steps_of es) w → Runs (world_of t) (steps_of (if_done r e ++ es)) w
run_more t u e None es w comes runs = ((comes.0).lawful, subst (λ x. Runs (world_of x) (steps_of es) w) comes.1 runs)
run_more t u e (Some r) es w comes runs = subst (λ x. Runs (world_of x) (steps_of es) w) comes.2 runs

runs_of : (t : Timed) (cs : List Came) (u : Timed) → AllCome t cs u → Runs (world_of t) (steps_of (done_of cs)) (world_of u)
runs_of t [] u same = ap world_of same
runs_of t (c ∷ cs) u all = run_more t all.0 c.event c.refusal (done_of cs) (world_of u) all.1 (runs_of all.0 cs u all.2)

-- they leave the network
network_of : (t : Timed) (cs : List Came) (u : Timed) → AllCome t cs u → (u.simulation).network ≡ (t.simulation).network
network_of t [] u same = ap (λ x. (x.simulation).network) (sym same)
network_of t (c ∷ cs) u all = network_of all.0 cs u all.2 ∙ go c.refusal all.1
  where
    go : (r : Option Refusal) → ComesNext t c.event all.0 r → ((all.0).simulation).network ≡ (t.simulation).network
    go None comes = ap (λ x. (x.simulation).network) comes.1
    go (Some r) comes = ap (λ x. (x.simulation).network) comes.2

given_same : (cs : List Change) (t : Timed) → (with_changes cs t).simulation ≡ t.simulation
given_same [] t = refl
given_same (c ∷ cs) t = given_same cs (with_timed_change c t)

module _ (n : Network) (times : Times) (steps : List Step) (moments : List ℕ) (end : Timed) (runs : RunsInSteps n times steps moments end) where
  abbrev opened : Timed
  opened = opening_timed n times.links.items times.routers.items

  -- the network at the end is the one that was opened
  pub network_stays : (end.simulation).network ≡ n
  network_stays = network_of (with_changes times.changes.items opened) (runs.done).came end (runs.done).leads ∙ ap (λ s. s.network) (given_same times.changes.items opened)

  -- the steps are a run from its opening
  pub steps_run : Runs (opening n) steps (world_of end)
  steps_run = subst (λ ss. Runs (opening n) ss (world_of end)) (sym (runs.done).steps_are)
      (subst (λ s. Runs s.world (steps_of (done_of (runs.done).came)) (world_of end)) (given_same times.changes.items opened)
      (runs_of (with_changes times.changes.items opened) (runs.done).came end (runs.done).leads))
