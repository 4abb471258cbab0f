-- What a run of at most one event has done.
use Rattle.std.proofs.Common.{sym, ap, subst, ◌∙◌, arith, inl, inr, ◌≡◌, ◌⊎◌, ℕ, ◌<◌, ◌≤◌, List, [], ◌∷◌, length, MatchOption, Option, Some, None}
use Rattle.no_packet_loops.proofs.Common.{Some_injective}
use Rattle.timed_simulation.specs.{declared.events.Event.Event, declared.fault.TimeFault.TimeFault, Timed.Timed, Timed.after_event, Events.next_event, Due.IsDoneUntil}
use Rattle.timed_simulation.specs.Runs.{IsAtRest, IsNext, IsTimed, IsTimedRun, LeadsTo}
use Rattle.timed_simulation.proofs.Runs.{due_if}

module _ (old : Timed) (e : Event) (next : next_event old ≡ Some e) where
  module _ (new : Timed) where
    -- no event was done
    pub done_none : IsTimedRun old new 0 → new ≡ old
    done_none R = by_events R.events R.count R.leads
      where
        by_events : (es : List Event) → length es ≡ 0 → LeadsTo old es new → new ≡ old
        by_events [] none leads = sym leads
        by_events (x ∷ es) some leads = absurd (omega (arith, some))

    -- one event was done, if not none: this one
    pub done_one : (done : ℕ) → IsTimedRun old new done → done ≤ 1 → (done ≡ 0 → ⊥) → IsNext old e × (new ≡ after_event old e)
    done_one done R most some = by_events R.events R.count R.leads
      where
        by_events : (es : List Event) → length es ≡ done → LeadsTo old es new → IsNext old e × (new ≡ after_event old e)
        by_events [] none leads = absurd (some (sym none))
        by_events (x ∷ y ∷ es) two leads = absurd (omega (arith, two, most))
        by_events (x ∷ []) one leads =
            let same : x ≡ e = Some_injective (sym (leads.0).next ∙ next) in
            (subst (IsNext old) same leads.0, sym leads.1 ∙ ap (after_event old) same)

    -- it is due, so one was done if nothing stopped it
    pub done_some : IsTimed old → (done : ℕ) → IsTimedRun old new done → IsDoneUntil e.moment new ⊎ (done ≡ 1) → done ≡ 0 → ⊥
    done_some kept done R (inr one) none = absurd (omega (arith, one, none))
    done_some kept done R (inl nothing) none =
        let same : new ≡ old = done_none (subst (IsTimedRun old new) none R) in
        let later : e.moment < e.moment = subst (IsDoneUntil e.moment) same nothing e (due_if old kept (Some e) (sym next)) in
        absurd (omega (arith, later))

-- nothing is due up to a moment: then the network is at rest
pub rests_or : (moment : ℕ) (o : Option TimeFault) (t : Timed) (A : Type 0) (S : TimeFault → Type 0) → (IsDoneUntil moment t → IsAtRest t) → MatchOption o (IsDoneUntil moment t ⊎ A) S → MatchOption o (IsAtRest t ⊎ A) S
rests_or moment None t A S rests (inl nothing) = inl (rests nothing)
rests_or moment None t A S rests (inr most) = inr most
rests_or moment (Some fault) t A S rests stopped = stopped
