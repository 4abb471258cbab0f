-- Lists of steps, done one after another, and what the steps leave behind that no state holds.
use Rattle.std.specs.Prelude.{◌≡◌, ℕ, ◌+◌, List, [], ◌∷◌, ◌++◌, Option, Some, None, slice_get, slice_set}
use Rattle.std.specs.Option.{option_map_or}
use Rattle.network_model.specs.{declared.step.Step.Step, declared.step.Step.TheVariants.Publish, declared.step.Refusal.Refusal, Step.Lawful, Step.next, Step.refusal}
use Rattle.network_model.specs.World.{World, Router, Network, opening}

-- the steps, each lawful where it is done, lead from one world to the other
abbrev pub Runs : World → List Step → World → Type 0
Runs w [] v = w ≡ v
Runs w (s ∷ ss) v = Lawful w s × Runs (next w s) ss v

-- how far a list of steps came: how many were done, the world then, and why the next was refused, if one was
pub record Ran : Type 0 where
  pub done : ℕ
  pub world : World
  pub refused : Option Refusal

-- one step before these
abbrev pub one_more : Ran → Ran
one_more r = record r { done = r.done + 1 }

-- nothing done, for this cause
abbrev pub stopped_at : World → Refusal → Ran
stopped_at w cause = record { done = 0; world = w; refused = Some cause }

-- the steps, up to the first that is refused
abbrev pub run : World → List Step → Ran
run w [] = record { done = 0; world = w; refused = None }
run w (s ∷ ss) = let rest = one_more (run (next w s) ss) in option_map_or (stopped_at w) (refusal w s) rest

-- ---- what the steps were

-- a list of steps done: the steps, the world that they made, and each router as it was when it published last
pub record History : Type 0 where
  pub steps : List Step
  pub world : World
  pub published : List Router

-- a world at which nothing was done yet; what the routers have counts as published
abbrev pub history_from : World → History
history_from w = record { steps = []; world = w; published = w.routers }

-- each router as it was when it published last, once this step is done
abbrev pub published_after : World → List Router → Step → List Router
published_after w rs (Publish i) = option_map_or (λ r. slice_set rs i r) (slice_get w.routers i) rs
published_after w rs _ = rs

-- a history with one more step; it says what the step makes, whether it was lawful or not
abbrev pub with_step : History → Step → History
with_step h s = record {
  steps = h.steps ++ s ∷ [];
  world = next h.world s;
  published = published_after h.world h.published s;
}

-- a history with these steps more
abbrev pub with_steps : History → List Step → History
with_steps h [] = h
with_steps h (s ∷ ss) = with_steps (with_step h s) ss

-- the history of these steps from the opening of a network
abbrev pub history : Network → List Step → History
history n ss = with_steps (history_from (opening n)) ss
