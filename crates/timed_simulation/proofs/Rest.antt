-- Nothing is left to do exactly if no change is left and the network is settled.
use Rattle.std.proofs.Common.{refl, sym, ap, ◌∙◌, inl, inr, ◌≡◌, ℕ, Bool, true, false, MatchBool, List, [], ◌∷◌, slice_get}
use Rattle.no_packet_loops.proofs.Common.{None_not_Some, Lawful, Step, Deliver, Publish, Release}
use Rattle.coming_to_rest.specs.Worlds.{is_own}
use Rattle.convergence.proofs.AtRest.{rest_settled, settled_rests}
use Rattle.timed_simulation.specs.{declared.events.Change.Change, Timed.Timed, Timed.world_of, Due.IsChange, Due.IsOwnDue, Due.NothingIsDue, Runs.steps_of, Runs.IsAtRest, Runs.IsTimed}
use Rattle.timed_simulation.proofs.First.{none_left_out}

-- what a router has to do is a lawful step of its own
own_step : (t : Timed) (m : ℕ) (s : Step) → IsOwnDue t m s → (is_own s ≡ true) × Lawful (world_of t) s
own_step t m (Release i) D = (refl, (D.held, D.ripe))
own_step t m (Publish i) D = (refl, (D.router, D.at, D.due))
own_step t m (Deliver i q) (inl D) = (refl, (D.router, D.at, inl (D.item, D.front)))
own_step t m (Deliver i q) (inr D) = (refl, (D.router, D.at, inr (D.notice, D.waits)))
own_step t m _ D = absurd D

pub rest_nothing : (t : Timed) → IsAtRest t → NothingIsDue t
rest_nothing t rest d due = by_kind d.given due
  where
    by_kind : (b : Bool) → MatchBool b (IsChange t d.moment d.step) (IsOwnDue t d.moment d.step) → ⊥
    by_kind true D = None_not_Some (sym (ap (λ (cs : List Change). slice_get cs D.place) rest.0) ∙ D.at)
    by_kind false D = (let step = own_step t d.moment d.step D in settled_rests (world_of t) rest.1 d.step step.0 step.1)

pub nothing_rests : (t : Timed) → IsTimed t → NothingIsDue t → IsAtRest t
nothing_rests t kept nothing = (no_change t.changes refl, rest_settled (t.simulation).network kept.valid (steps_of kept.done) (world_of t) kept.runs no_own)
  where
    no_change : (cs : List Change) → t.changes ≡ cs → cs ≡ []
    no_change [] are = refl
    no_change (c ∷ cs) are = absurd (nothing (record { moment = c.moment; step = c.step; given = true }) (record { place = 0; at = ap (λ (xs : List Change). slice_get xs 0) are }))

    no_own : (s : Step) → is_own s ≡ true → Lawful (world_of t) s → ⊥
    no_own s own lawful = (let due = none_left_out t kept.on_time s own lawful in nothing (record { moment = due.0; step = s; given = false }) due.1)
